use Rattle.zl_sched.proofs.Common.{Walks, [], take, turns_of, ◌≡◌}
use Rattle.zl_sched.specs.declared.system.End.TheVariants as end
use Rattle.zl_sched.proofs.system.System.step_all.Given as goal

abbrev pub invariant-loop-pair : goal.invariant-loop-pair
invariant-loop-pair l = l.initial.self.out ≡ [] → Walks l.initial.self (turns_of (take l.pair-index l.schedule)) end.Schedule l.self
