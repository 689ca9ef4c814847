use Rattle.zl_sched.proofs.Common.{filter, joins, length, pids_of, take, vec_capacity, ◌++◌, ◌≡◌}
use Rattle.zl_sched.proofs.ready.join_all.Given as goal

abbrev pub invariant-loop-n : goal.invariant-loop-n
invariant-loop-n l =
    (l.ready.items ≡ l.initial.ready.items ++ filter (λ q. joins l.world.world l.pid l.out l.initial.ready.items q) (take l.n (pids_of l.world.world)))
    × (vec_capacity l.ready ≡ vec_capacity l.initial.ready) × (l.stayed ≡ length l.initial.ready.items)
