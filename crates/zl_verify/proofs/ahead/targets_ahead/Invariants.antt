use Rattle.zl_verify.proofs.Common.{AreAhead}
use Rattle.zl_verify.proofs.ahead.targets_ahead.Given as goal

abbrev pub invariant-loop-place : goal.invariant-loop-place
invariant-loop-place l = AreAhead l.image l.targets.items l.place
