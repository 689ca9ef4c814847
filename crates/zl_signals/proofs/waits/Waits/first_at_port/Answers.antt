use Rattle.zl_rights.proofs.Common.{nat_cmp}
use Rattle.std.specs.Cmp.{unsigned_tied}
use Rattle.zl_signals.specs.Indexed.{port_of}
use Rattle.zl_signals.specs.Numbered.{NO_WAIT}
use Rattle.zl_signals.specs.Waits.{is_at_port}
use Rattle.zl_signals.proofs.Indexed.{first_is}
use Rattle.zl_signals.proofs.Numbered.{lower}
use Rattle.zl_signals.proofs.waits.Waits.first_at_port.Goals as goal

pub returns : goal.returns
returns c =
    let waits = c.args.self.now in
    first_is nat_cmp port_of (is_at_port c.args.port) c.args.port (λ x. unsigned_tied x.port c.args.port) waits.indexes.by_port waits.by_number waits.indexed.2
    (lower waits.by_number waits.made NO_WAIT waits.few waits.below) _ c.first_at_port.ensures
