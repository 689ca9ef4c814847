use Rattle.zlab.proofs.Common.{too_long}
use Rattle.zlab.proofs.exploring.begin.Goals as goal

pub returns-in-TooLong-clause-ok : goal.returns-in-TooLong-clause-ok
returns-in-TooLong-clause-ok c text holds = rw c.alone-fault.ensures (too_long (rw c.in-TooLong.is at holds))
