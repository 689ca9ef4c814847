use Rattle.zl_verify.proofs.Common.{refl, sym, ◌∙◌}
use Rattle.zl_verify.proofs.Peaking.{is_bound, first_over}
use Rattle.zl_verify.proofs.peaks.bound_of.Goals as goal

pub returns-in-Ok-None-clause-bound : goal.returns-in-Ok-None-clause-bound
returns-in-Ok-None-clause-bound c =
    let f = rw c.deref.ensures.value at (c.in-Ok-None.ensures {u = tt}) in
    rw (← c.budget-most.ensures.value)
    (is_bound _ _ _ _ c.requires (c.in-Ok.ensures {u = tt}) _ refl f.peaks f.are (sym f.first ∙ c.in-Ok-None.field-0-is))

pub returns-in-Ok-Some-clause-exact : goal.returns-in-Ok-Some-clause-exact
returns-in-Ok-Some-clause-exact c =
    let f = rw c.deref.ensures.value at (c.in-Ok-Some.ensures {u = tt}) in
    rw (← c.budget-most.ensures.value)
    (first_over _ _ _ _ c.requires (c.in-Ok.ensures {u = tt}) _ refl f.peaks f.are _ (sym f.first ∙ c.in-Ok-Some.field-0-is))
