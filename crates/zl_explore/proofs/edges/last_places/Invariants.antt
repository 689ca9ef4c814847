use Rattle.std.proofs.Common.{length, ◌≡◌}
use Rattle.zl_explore.proofs.Marking.{MarkLast}
use Rattle.zl_explore.proofs.edges.last_places.Given as goal

abbrev pub invariant-loop-from : goal.invariant-loop-from
invariant-loop-from l = (length l.marks.items ≡ l.count) × MarkLast l.edges l.from-index l.marks.items
