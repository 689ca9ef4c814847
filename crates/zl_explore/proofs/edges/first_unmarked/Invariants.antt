use Rattle.std.proofs.Common.{ℕ, ◌<◌}
use Rattle.zl_explore.specs.Marks.{IsMarked}
use Rattle.zl_explore.proofs.edges.first_unmarked.Given as goal

abbrev pub invariant-loop-place : goal.invariant-loop-place
invariant-loop-place l = (i : ℕ) → i < l.place → IsMarked l.marks i
