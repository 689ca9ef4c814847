use Rattle.zl_code.proofs.Common.{Some, slice_get, ℕ, ◌<◌, ◌≡◌}
use Rattle.zl_calls.specs.World.{own_here}
use Rattle.zl_explore.specs.Sights.{IsSo, sights_in}
use Rattle.zl_explore.specs.declared.fact.Fact.{Fact}
use Rattle.zl_explore.proofs.sights.are_seen.Given as goal

abbrev pub invariant-loop-fact : goal.invariant-loop-fact
invariant-loop-fact l = (i : ℕ) (f : Fact) → i < l.fact-index → slice_get l.together i ≡ Some f → IsSo f (sights_in (own_here l.world))
