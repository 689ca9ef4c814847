use Rattle.zl_sched.proofs.Common.{filter, not, take, vec_capacity, ◌++◌, ◌==◌, ◌≡◌}
use Rattle.zl_sched.proofs.ready.push_others.Given as goal

abbrev pub invariant-loop-other : goal.invariant-loop-other
invariant-loop-other l =
    (l.ready.items ≡ l.initial.ready.items ++ filter (λ q. not (q == l.pid)) (take l.other-index l.pids))
    × (vec_capacity l.ready ≡ vec_capacity l.initial.ready)
