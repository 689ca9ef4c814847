use Rattle.zl_calls.proofs.Common.{All, IsNoted, take}
use Rattle.zl_calls.proofs.step.taken.Taken.note_each.Given as goal

abbrev pub invariant-loop-value : goal.invariant-loop-value
invariant-loop-value l = All (IsNoted l.table.entries l.self) (take l.value-index l.values)
