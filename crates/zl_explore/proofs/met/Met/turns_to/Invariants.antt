use Rattle.std.proofs.Common.{length, reverse, ◌<◌}
use Rattle.zl_explore.specs.Nodes.{LeadsTo}
use Rattle.zl_explore.proofs.met.Met.turns_to.Given as goal

abbrev pub decreases-loop-at : goal.decreases-loop-at
decreases-loop-at g l = l.at

abbrev pub invariant-loop-at : goal.invariant-loop-at
invariant-loop-at g l =
    LeadsTo g.M.Machine.ready g.M.Machine.next l.self.items l.at l.fn.place (reverse l.turns.items) × (l.at < length l.self.items)
