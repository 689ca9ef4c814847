use Rattle.zl_calls.proofs.Common.{ended_within}
use Rattle.zl_calls.proofs.lists.Mapping.{IsMapped}
use Rattle.zl_calls.proofs.calls.kill.end_all.Given as goal

abbrev pub invariant-loop-place : goal.invariant-loop-place
invariant-loop-place l = IsMapped (ended_within l.objects l.task) l.initial.processes.list.items l.processes.list.items l.place
