use Rattle.zl_interp.proofs.Common.{◌≡◌}
use Rattle.std.proofs.Math.Seq.{paste}
use Rattle.zl_interp.proofs.arrays.fill_front.Given as goal

abbrev pub invariant-loop-n : goal.invariant-loop-n
invariant-loop-n l = l.places ≡ paste l.initial.places 0 l.values l.n
