use Rattle.std.proofs.Common.{length, ◌≡◌}
use Rattle.zl_explore.specs.Marks.{AreMarks, unmarked}
use Rattle.zl_explore.proofs.edges.endless_place.Given as goal

abbrev pub invariant-loop : goal.invariant-loop
invariant-loop l = (length l.marks.items ≡ l.count) × AreMarks l.edges l.marks.items

abbrev pub decreases-loop : goal.decreases-loop
decreases-loop l = unmarked l.marks.items
