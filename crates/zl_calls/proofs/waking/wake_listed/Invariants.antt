use Rattle.zl_calls.proofs.Common.{length, vec_capacity, ◌≡◌}
use Rattle.zl_calls.proofs.waking.Listed.{IsWakingListed}
use Rattle.zl_calls.proofs.waking.wake_listed.Given as goal

abbrev pub invariant-loop-sleeper : goal.invariant-loop-sleeper
invariant-loop-sleeper l =
    IsWakingListed l.fn.processes.list.items l.fn.objects l.fn.blocked.items l.fn.started l.processes.list.items l.objects l.blocked.items
    l.woken.pids.items l.woken.whole
    × (vec_capacity l.blocked ≡ vec_capacity l.fn.blocked)

abbrev pub decreases-loop-sleeper : goal.decreases-loop-sleeper
decreases-loop-sleeper l = length l.objects.sleepers
