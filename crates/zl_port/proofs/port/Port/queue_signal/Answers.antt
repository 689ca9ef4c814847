use Rattle.zl_rights.proofs.Common.{arith}
use Rattle.zl_port.proofs.Cancelled.{few_users}
use Rattle.zl_port.proofs.port.Port.queue_signal.Goals as goal

pub overflow_add-self : goal.overflow_add-self
overflow_add-self c = omega (arith, few_users c.self.inside.queue.packets)
