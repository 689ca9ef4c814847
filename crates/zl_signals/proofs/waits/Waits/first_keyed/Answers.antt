use Rattle.zl_signals.specs.Indexed.{keyed_cmp, keyed_of}
use Rattle.zl_signals.specs.Numbered.{NO_WAIT}
use Rattle.zl_signals.specs.Waits.{is_keyed_here}
use Rattle.zl_signals.proofs.Indexed.{by_key, first_is}
use Rattle.zl_signals.proofs.Numbered.{lower}
use Rattle.zl_signals.proofs.waits.Waits.first_keyed.Goals as goal

pub returns : goal.returns
returns c =
    let waits = c.args.self.now in
    first_is keyed_cmp keyed_of (is_keyed_here c.args.pid c.args.value c.args.port c.args.key) (c.args.pid, c.args.value, c.args.port, c.args.key)
    (by_key c.args.pid c.args.value c.args.port c.args.key) waits.indexes.by_key waits.by_number waits.indexed.1
    (lower waits.by_number waits.made NO_WAIT waits.few waits.below) _ c.first_keyed.ensures
