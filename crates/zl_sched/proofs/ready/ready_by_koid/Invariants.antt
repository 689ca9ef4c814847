use Rattle.zl_sched.proofs.Common.{filter, is_process, is_ready, length, pids_of, take, vec_capacity, ◌≡◌, ◌≤◌}
use Rattle.zl_sched.proofs.ready.ready_by_koid.Given as goal

abbrev pub invariant-loop-n : goal.invariant-loop-n
invariant-loop-n l =
    (l.ready.items ≡ filter (λ q. is_process l.world.world is_ready q) (take l.n (pids_of l.world.world)))
    × (length (pids_of l.world.world) ≤ vec_capacity l.ready)
