use Rattle.std.proofs.Common.{take, ◌≡◌}
use Rattle.zl_explore.specs.Paths.{after}
use Rattle.zl_explore.proofs.met.Met.again.Given as goal

abbrev pub invariant-loop-pid : goal.invariant-loop-pid
invariant-loop-pid g l = l.at ≡ after g.M.Machine.ready g.M.Machine.next l.initial.at (take l.pid-index l.pid-items)
