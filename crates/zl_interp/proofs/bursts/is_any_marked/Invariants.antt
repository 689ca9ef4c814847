use Rattle.zl_interp.proofs.Common.{false, ◌≡◌}
use Rattle.zl_interp.specs.Bursts.{AreUnmarked}
use Rattle.zl_interp.proofs.bursts.is_any_marked.Given as goal

abbrev pub invariant-loop-n : goal.invariant-loop-n
invariant-loop-n l = l.any ≡ false → AreUnmarked l.marks l.start l.n
