use Rattle.zl_code.proofs.Common.{filter, is_process, is_ready, map, take, ◌≡◌}
use Rattle.zl_explore.proofs.running.ready_pids.Given as goal

abbrev pub invariant-loop-n : goal.invariant-loop-n
invariant-loop-n l = l.ready.items ≡ filter (is_process l.world.world is_ready) (take l.n (map (λ e. e.0) l.world.world.processes))
