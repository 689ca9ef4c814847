use Rattle.zl_calls.proofs.Common.{Drained, Objects, length}
use Rattle.zl_calls.proofs.waits.OwnWaits.{IsEndingOwn}
use Rattle.zl_calls.proofs.calls.process.close_all.Given as goal

abbrev pub invariant-loop-value : goal.invariant-loop-value
invariant-loop-value l = record {
  closes : (r2 : Objects) → Drained l.table.entries l.objects r2 → Drained l.initial.table.entries l.initial.objects r2;
  waits : IsEndingOwn l.pid l.initial.table.entries l.initial.objects l.table.entries l.objects;
}

abbrev pub decreases-loop-value : goal.decreases-loop-value
decreases-loop-value l = length l.table.entries
