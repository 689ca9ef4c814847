use Rattle.zl_objects.proofs.PortWaits.{first_is, none_first}
use Rattle.zl_objects.proofs.port_waits.PortWaits.first.Goals as goal

pub returns-in_err-order : goal.returns-in_err-order
returns-in_err-order c =
    rw (c.from_residual.ensures)
    (none_first c.args.self.now c.args.port c.args.made c.range.result (c.range.ensures.in_range tt) (c.in_err-order.ensures {u = tt}).steps.0)

pub returns : goal.returns
returns c =
    first_is c.args.self.now c.args.port c.args.made c.range.result (c.range.ensures.in_range tt) c.in_ok-order.field-0.now _
    (c.in_ok-order.ensures {u = tt}).steps
