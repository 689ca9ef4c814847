use Rattle.zl_explore.specs.Bad.{FitsOne}
use Rattle.zl_explore.proofs.Lists.{NoneHolds}
use Rattle.zl_explore.proofs.bad.named_end.Given as goal

abbrev pub invariant-loop-one : goal.invariant-loop-one
invariant-loop-one l = NoneHolds l.bad (λ b. FitsOne b l.states) l.one-index
