use Rattle.zl_calls.proofs.Common.{length, ◌*◌, ◌-◌}
use Rattle.zl_calls.proofs.waits.Ending.{IsEnding, is_over}
use Rattle.zl_calls.proofs.waits.end_unheld.Given as goal

abbrev pub invariant-loop-wait : goal.invariant-loop-wait
invariant-loop-wait l = IsEnding (is_over l.fn.processes.list.items l.fn.objects) l.fn.objects l.place l.objects

abbrev pub decreases-loop-wait : goal.decreases-loop-wait
decreases-loop-wait l = length l.objects.waits * 2 - l.place
