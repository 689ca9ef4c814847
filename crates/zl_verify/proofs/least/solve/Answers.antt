use Rattle.zl_verify.proofs.Common.{arith}
use Rattle.zl_verify.proofs.Turning.{none_of_empty}
use Rattle.zl_verify.proofs.least.solve.Goals as goal

pub returns-then-length-eq0-clause-exact : goal.returns-then-length-eq0-clause-exact
returns-then-length-eq0-clause-exact c = rw c.at_once.ensures.cause (none_of_empty _ (omega arith))
