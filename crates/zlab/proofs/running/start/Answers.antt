use Rattle.zlab.proofs.ReplayFound.{fault_of_length}
use Rattle.zlab.proofs.running.start.Goals as goal

pub returns-in-TooLong-clause-ok : goal.returns-in-TooLong-clause-ok
returns-in-TooLong-clause-ok c text holds = rw c.alone-fault.ensures (fault_of_length text (rw c.in-TooLong.is at holds))
