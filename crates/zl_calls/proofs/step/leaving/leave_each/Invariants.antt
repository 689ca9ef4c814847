use Rattle.zl_calls.proofs.Common.{drop}
use Rattle.zl_calls.proofs.processes.Started.{IsLeaving}
use Rattle.zl_calls.proofs.step.leaving.leave_each.Given as goal

abbrev pub invariant-loop-place : goal.invariant-loop-place
invariant-loop-place l = IsLeaving l.objects l.initial.processes.items l.processes.items (drop l.place-index l.places)
