use Rattle.zl_verify.proofs.Leading.{Flowing}
use Rattle.zl_verify.proofs.targets.targets_of.Given as goal

abbrev pub invariant-loop-place : goal.invariant-loop-place
invariant-loop-place l = Flowing l.image l.found.stretches.numbers l.found.states.items l.targets.items l.flow.is_there l.flow.state l.place
