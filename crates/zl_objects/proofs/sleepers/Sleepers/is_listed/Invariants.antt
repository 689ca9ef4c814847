use Rattle.zl_objects.proofs.Common.{◌==◌}
use Rattle.zl_objects.proofs.Sleeping.{HasLooked}
use Rattle.zl_objects.proofs.sleepers.Sleepers.is_listed.Given as goal

abbrev pub invariant-loop-place : goal.invariant-loop-place
invariant-loop-place l = HasLooked (λ s. s.pid == l.sleeper.pid) l.port l.self.list.items l.place
