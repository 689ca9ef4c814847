use Rattle.zl_calls.proofs.Common.{is_made_at, length}
use Rattle.zl_calls.proofs.waits.TakenEnds.{IsTaking}
use Rattle.zl_calls.proofs.waits.end_made_at.Given as goal

abbrev pub invariant-loop : goal.invariant-loop
invariant-loop l = IsTaking (is_made_at l.fn.koid l.fn.pid l.fn.value) l.fn.objects l.objects

abbrev pub decreases-loop : goal.decreases-loop
decreases-loop l = length l.objects.waits
