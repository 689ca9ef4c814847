use Rattle.zl_calls.proofs.Common.{refl}
use Rattle.zl_calls.proofs.boot.BootFaults.{past_default}
use Rattle.zl_calls.proofs.boot.rights_given.Goals as goal

pub returns-in_default-try_from : goal.returns-in_default-try_from
returns-in_default-try_from c = rw (c.in-Some.is, past_default c.in-Some.asked c.args.kind (c.in_default-try_from.ensures {u = tt})) refl
