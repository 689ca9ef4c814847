use Rattle.zl_calls.specs.World.{Machine, own_here}
use Rattle.zl_explore.specs.Private.{IsStill}
use Rattle.zl_explore.specs.Searching.{BeganWith}
use Rattle.zlab.specs.Ends.{sought}
use Rattle.zlab.proofs.SearchText.{Wrote}
use Rattle.zlab.proofs.ends.write_found.Given as goal

abbrev pub decreases-loop-end : goal.decreases-loop-end
decreases-loop-end g l = l.search.left

abbrev pub invariant-loop-end : goal.invariant-loop-end
invariant-loop-end g l = (m : Machine) → IsStill (own_here m) → BeganWith m l.initial.search
    → Wrote m (sought l.initial.search) l.limit l.search (g.W.Write.contents l.initial.writer) (g.W.Write.contents l.writer)
