use Rattle.zl_calls.proofs.Common.{ClosesEach, take}
use Rattle.zl_calls.proofs.calls.handle.close_each.Given as goal

abbrev pub invariant-loop-value : goal.invariant-loop-value
invariant-loop-value l = record { closes : ClosesEach (take l.value-index l.values) l.initial.table l.initial.objects l.table l.objects }
