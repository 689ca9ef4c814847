use Rattle.zl_verify.specs.Low.{AreLow}
use Rattle.zl_verify.proofs.sparse.Lifted.take_up.Given as goal

abbrev pub invariant-loop-stretch : goal.invariant-loop-stretch
invariant-loop-stretch l = AreLow l.image l.self.states.items
