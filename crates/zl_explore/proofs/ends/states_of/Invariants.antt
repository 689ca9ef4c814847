use Rattle.zl_code.proofs.Common.{take, ◌≡◌}
use Rattle.zl_calls.specs.World.{own_here}
use Rattle.zl_explore.specs.Orders.{told_in}
use Rattle.zl_explore.proofs.ends.states_of.Given as goal

abbrev pub invariant-loop-n : goal.invariant-loop-n
invariant-loop-n l = l.states.items ≡ take l.n (told_in (own_here l.world))
