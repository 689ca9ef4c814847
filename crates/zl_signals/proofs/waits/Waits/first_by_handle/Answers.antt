use Rattle.zl_signals.specs.Indexed.{handle_cmp, handle_of}
use Rattle.zl_signals.specs.Numbered.{NO_WAIT}
use Rattle.zl_signals.specs.Waits.{is_by_handle_here}
use Rattle.zl_signals.proofs.Indexed.{by_handle, first_is}
use Rattle.zl_signals.proofs.Numbered.{lower}
use Rattle.zl_signals.proofs.waits.Waits.first_by_handle.Goals as goal

pub returns : goal.returns
returns c =
    let waits = c.args.self.now in
    first_is handle_cmp handle_of (is_by_handle_here c.args.pid c.args.value) (c.args.pid, c.args.value) (by_handle c.args.pid c.args.value)
    waits.indexes.by_handle waits.by_number waits.indexed.0 (lower waits.by_number waits.made NO_WAIT waits.few waits.below) _ c.first_by_handle.ensures
