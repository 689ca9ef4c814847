use Rattle.zl_calls.specs.World.{own_here}
use Rattle.zl_explore.specs.Sights.{AreSeen, sights_in}
use Rattle.zl_explore.proofs.Lists.{NoneHolds}
use Rattle.zl_explore.proofs.sights.seen_at_once.Given as goal

abbrev pub invariant-loop-together : goal.invariant-loop-together
invariant-loop-together l = NoneHolds l.never (λ one. AreSeen one.items (sights_in (own_here l.world))) l.together-index
