use Rattle.zl_sched.proofs.Common.{take, vec_capacity, without_ended, ◌≡◌}
use Rattle.zl_sched.proofs.ready.leave_each.Given as goal

abbrev pub invariant-loop-koid : goal.invariant-loop-koid
invariant-loop-koid l =
    (l.ready.items ≡ without_ended l.world.world (take l.koid-index l.koids) l.initial.ready.items) × (vec_capacity l.ready ≡ vec_capacity l.initial.ready)
