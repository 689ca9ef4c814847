use Rattle.zl_verify.specs.Low.{AreLow}
use Rattle.zl_verify.proofs.sparse.Lifted.turn.Given as goal

abbrev pub invariant-loop : goal.invariant-loop
invariant-loop l = AreLow l.image l.self.states.items
