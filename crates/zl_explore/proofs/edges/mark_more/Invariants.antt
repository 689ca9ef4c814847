use Rattle.std.proofs.Common.{false, true, ◌<◌, ◌≡◌, ◌≤◌}
use Rattle.zl_explore.specs.Marks.{AreMarks, unmarked}
use Rattle.zl_explore.proofs.Marking.{ClosedFrom}
use Rattle.zl_explore.proofs.edges.mark_more.Given as goal

abbrev pub invariant-loop-n : goal.invariant-loop-n
invariant-loop-n l =
    (AreMarks l.edges l.initial.marks → AreMarks l.edges l.marks) × (unmarked l.marks ≤ unmarked l.initial.marks)
    × (l.is_more ≡ true → unmarked l.marks < unmarked l.initial.marks) × (l.is_more ≡ false → ClosedFrom l.edges l.n l.marks)
