use Rattle.zl_verify.proofs.Filling.{length_listed}
use Rattle.zl_verify.proofs.checked.bound.Goals as goal

pub returns-in-Ok-clause-bound : goal.returns-in-Ok-clause-bound
returns-in-Ok-clause-bound c = (rw c.in-Ok.steps-is at (c.in-Ok.ensures {u = tt})).bound _ (length_listed _ _)
