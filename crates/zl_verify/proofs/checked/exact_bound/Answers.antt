use Rattle.zl_verify.proofs.Bounding.{step_bound, over_budget}
use Rattle.zl_verify.proofs.Filling.{length_listed}
use Rattle.zl_verify.proofs.checked.exact_bound.Goals as goal

pub bound_of-requires : goal.bound_of-requires
bound_of-requires c = rw c.deref.ensures.value (c.in-Ok.ensures {u = tt}).nested

pub returns-in-Ok-bound_of-clause-bound : goal.returns-in-Ok-bound_of-clause-bound
returns-in-Ok-bound_of-clause-bound c =
    step_bound _ _ _ (c.in-Ok.ensures {u = tt}).edges (length_listed _ _) (c.in-Ok.ensures {u = tt}).nested _
    (rw (c.in-Ok-bound_of.steps-is, c.deref.ensures.value) at c.in-Ok-bound_of.ensures.bound)

pub returns-in-Err-Over-clause-exact : goal.returns-in-Err-Over-clause-exact
returns-in-Err-Over-clause-exact c =
    over_budget _ _ _ (c.in-Ok.ensures {u = tt}).edges (length_listed _ _) (c.in-Ok.ensures {u = tt}).nested _ c.requires.typing
    (rw (c.in-Err-Over.field-0-is, c.deref.ensures.value) at (c.in-Err-Over.ensures {u = tt}).exact)
