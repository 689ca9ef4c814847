use Rattle.std.proofs.Common.{[], take, ◌≡◌}
use Rattle.zl_explore.specs.GoingAhead.{Takes, reduced, start_of}
use Rattle.zl_explore.specs.Paths.{after}
use Rattle.zl_explore.specs.Running.{ready_of}
use Rattle.zl_explore.proofs.kept.taken_by.Given as goal

abbrev pub invariant-loop-pid : goal.invariant-loop-pid
invariant-loop-pid l =
    (l.at ≡ after ready_of reduced (start_of l.root) (take l.pid-index l.turns)) × Takes l.root [] l.taken.items l.at
