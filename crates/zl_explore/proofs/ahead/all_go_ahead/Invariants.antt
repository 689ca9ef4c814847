use Rattle.std.proofs.Common.{take, ◌≡◌}
use Rattle.zl_calls.specs.World.{own_here}
use Rattle.zl_explore.specs.GoingAhead.{Takes, ahead_all}
use Rattle.zl_explore.specs.Private.{IsStill}
use Rattle.zl_explore.specs.Running.{rested_machine}
use Rattle.zl_explore.proofs.ahead.all_go_ahead.Given as goal

abbrev pub invariant-loop-pid : goal.invariant-loop-pid
invariant-loop-pid l =
    IsStill (own_here l.world) × (rested_machine l.world ≡ ahead_all (rested_machine l.initial.world) (take l.pid-index l.pids))
    × Takes (rested_machine l.initial.world) l.initial.taken.items l.taken.items (rested_machine l.world)
