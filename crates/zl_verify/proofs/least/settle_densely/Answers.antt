use Rattle.zl_verify.proofs.Turning.{ends}
use Rattle.zl_verify.proofs.least.settle_densely.Goals as goal

pub returns-in-Ok-finish-clause-typing : goal.returns-in-Ok-finish-clause-typing
returns-in-Ok-finish-clause-typing c = rw c.found.ensures (ends _ _ _ c.in-Ok-finish.ensures.goes c.in-Ok-finish.ensures.over)
