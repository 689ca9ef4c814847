use Rattle.zl_verify.proofs.Turning.{ends}
use Rattle.zl_verify.proofs.least.settle_soon.Goals as goal

pub returns-in-Ok-true-clause-typing : goal.returns-in-Ok-true-clause-typing
returns-in-Ok-true-clause-typing c =
    rw c.found.ensures (ends _ _ _ (c.in-Ok-true.ensures.goes c.in-Ok-true.field-0-test) (c.in-Ok-true.ensures.over c.in-Ok-true.field-0-test))
