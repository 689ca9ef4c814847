use Rattle.zl_calls.proofs.Common.{is_keyed_at, length}
use Rattle.zl_calls.proofs.waits.TakenEnds.{IsCancelling}
use Rattle.zl_calls.proofs.waits.cancel_waits.Given as goal

abbrev pub invariant-loop-any : goal.invariant-loop-any
invariant-loop-any l = IsCancelling (is_keyed_at l.fn.koid l.fn.pid l.fn.value l.fn.port l.fn.key) l.fn.objects l.any l.objects

abbrev pub decreases-loop-any : goal.decreases-loop-any
decreases-loop-any l = length l.objects.waits
