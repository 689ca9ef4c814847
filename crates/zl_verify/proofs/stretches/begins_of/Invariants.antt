use Rattle.zl_verify.proofs.Common.{AreMarked}
use Rattle.zl_verify.proofs.stretches.begins_of.Given as goal

abbrev pub invariant-loop-place : goal.invariant-loop-place
invariant-loop-place l = AreMarked l.image l.begins.items l.place
