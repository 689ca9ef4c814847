use Rattle.zl_explore.specs.Bad.{Fits}
use Rattle.zl_explore.proofs.Lists.{NoneHolds}
use Rattle.zl_explore.proofs.bad.named_item.Given as goal

abbrev pub invariant-loop-one : goal.invariant-loop-one
invariant-loop-one l = NoneHolds l.bad (λ b. Fits b l.item) l.one-index
