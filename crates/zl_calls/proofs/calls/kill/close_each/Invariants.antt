use Rattle.zl_calls.proofs.parts.KillLists.{IsClosingEach}
use Rattle.zl_calls.proofs.calls.kill.close_each.Given as goal

abbrev pub invariant-loop-koid : goal.invariant-loop-koid
invariant-loop-koid l = IsClosingEach l.initial.processes.list.items l.initial.objects l.koids l.koid-index l.from l.processes.list.items l.objects
