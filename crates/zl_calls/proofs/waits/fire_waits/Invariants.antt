use Rattle.zl_calls.proofs.Common.{length}
use Rattle.zl_calls.proofs.waits.FiringWorlds.{IsFiring}
use Rattle.zl_calls.proofs.waits.fire_waits.Given as goal

abbrev pub invariant-loop-due : goal.invariant-loop-due
invariant-loop-due l = IsFiring l.processes.list.items l.fn.objects l.place l.objects

abbrev pub decreases-loop-due : goal.decreases-loop-due
decreases-loop-due l = length l.objects.waits
