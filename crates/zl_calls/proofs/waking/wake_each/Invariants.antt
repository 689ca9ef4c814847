use Rattle.zl_calls.proofs.Common.{vec_capacity, vec_len, ◌-◌}
use Rattle.zl_calls.proofs.waking.WakeLoop.{IsWaking}
use Rattle.zl_calls.proofs.waking.wake_each.Given as goal

abbrev pub invariant-loop-place : goal.invariant-loop-place
invariant-loop-place l =
    IsWaking l.fn.processes.list.items l.fn.objects l.fn.blocked.items l.fn.started (vec_capacity l.fn.blocked) l.place l.processes.list.items l.objects
    l.blocked.items (vec_capacity l.blocked) l.woken.pids.items l.woken.whole

abbrev pub decreases-loop-place : goal.decreases-loop-place
decreases-loop-place l = vec_len l.blocked - l.place
