use Rattle.std.proofs.lemmas.Result.{IfOk-weaker}
use Rattle.zl_verify.proofs.LookingAhead.{bounds_all}
use Rattle.zl_verify.proofs.ahead.bound_ahead.Goals as goal

pub bound_of-requires : goal.bound_of-requires
bound_of-requires c = rw c.deref.ensures.value (c.in-Ok.ensures {u = tt}).nested

pub returns : goal.returns
returns c =
    IfOk-weaker c.bound_of.result _ _ (λ steps b. bounds_all _ _ _ (c.in-Ok.ensures {u = tt}).ahead b) (rw c.deref.ensures.value at c.bound_of.ensures.bound)
