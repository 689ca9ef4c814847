use Rattle.zl_verify.proofs.Common.{AreNumbered}
use Rattle.zl_verify.proofs.stretches.numbered.Given as goal

abbrev pub invariant-loop-place : goal.invariant-loop-place
invariant-loop-place l = AreNumbered l.begins l.numbers.items l.starts.items l.place
