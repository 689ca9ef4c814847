use Rattle.zl_abs.proofs.Common.{RoundAlike, bounds_of, subst}
use Rattle.zl_abs.proofs.SortedBounds.{made_alike, made_sorted}
use Rattle.zl_abs.proofs.bounds.Bounds.of.Goals as goal

pub invariant_of-result : goal.invariant_of-result
invariant_of-result c = made_sorted _ _ c.sort_unstable.ensures.sorted c.dedup.ensures.filtered

pub returns : goal.returns
returns c =
    subst (λ code. RoundAlike c.dedup.new.self.items (bounds_of code)) c.code.ensures.value
    (made_alike (bounds_of c.code.result.now) _ _ _ c.in_ok-sorted.ensures c.sort_unstable.ensures.permutation c.dedup.ensures.filtered)
