use Rattle.zl_calls.proofs.Common.{refl}
use Rattle.zl_calls.proofs.tables.Tables.{too_large}
use Rattle.zl_calls.proofs.calls.event.signals_within.Goals as goal

pub returns-in_default : goal.returns-in_default
returns-in_default c = rw (too_large c.args.bits c.args.kind (c.in_default.ensures {u = tt})) refl
