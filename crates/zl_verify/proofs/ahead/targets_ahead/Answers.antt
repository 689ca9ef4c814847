use Rattle.zl_verify.proofs.Common.{arith}
use Rattle.zl_verify.proofs.LookingAhead.{ahead_more, ahead_nested}
use Rattle.zl_verify.proofs.ahead.targets_ahead.Goals as goal

pub loop-place-preserved : goal.loop-place-preserved
loop-place-preserved c =
    ahead_more _ _ _ _ c.loop-place.invariant (omega (arith, c.loop-place.invariant.long, c.len-place-end.ensures.value)) c.targets_at.ensures.places
    c.targets_at.ensures.packed

pub returns-clause-nested : goal.returns-clause-nested
returns-clause-nested c =
    ahead_nested _ c.len-place-end.ensures.in_range _ c.loop-place.place c.loop-place.invariant (omega (arith, c.len-place-end.ensures.value))
