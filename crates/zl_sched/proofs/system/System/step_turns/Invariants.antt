use Rattle.zl_sched.proofs.Common.{Walks, [], replicate, ◌≡◌}
use Rattle.zl_sched.specs.declared.system.End.TheVariants as end
use Rattle.zl_sched.proofs.system.System.step_turns.Given as goal

abbrev pub invariant-loop-turn : goal.invariant-loop-turn
invariant-loop-turn l = l.initial.self.out ≡ [] → Walks l.initial.self (replicate l.turn l.pid) end.Schedule l.self
