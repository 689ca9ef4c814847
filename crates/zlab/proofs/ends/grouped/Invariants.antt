use Rattle.std.proofs.Common.{[], take, ◌++◌, ◌∷◌, ◌≡◌}
use Rattle.zl_sched.specs.Follows.{turns_of}
use Rattle.zlab.proofs.ends.grouped.Given as goal

abbrev pub invariant-loop-pid : goal.invariant-loop-pid
invariant-loop-pid l = turns_of (l.schedule.items ++ (l.run ∷ [])) ≡ take l.pid-index l.turns
