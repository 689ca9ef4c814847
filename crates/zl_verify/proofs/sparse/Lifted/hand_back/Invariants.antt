use Rattle.zl_verify.specs.Going.{Goes}
use Rattle.zl_verify.proofs.sparse.Lifted.hand_back.Given as goal

abbrev pub invariant-loop-stretch : goal.invariant-loop-stretch
invariant-loop-stretch l = Goes l.image l.stretches l.search
