-- A running world as a machine, of which that counts which tells what comes.
use Rattle.std.specs.Prelude.{ℕ, List, Option}
use Rattle.std.specs.Option.{option_map}
use Rattle.zl_code.specs.declared.history.TraceItem.{TraceItem}
use Rattle.zl_code.specs.Own.{OwnWorld}
use Rattle.zl_code.specs.OwnSteps.{own_step}
use Rattle.zl_calls.specs.Rested.{rested}
use Rattle.zl_calls.specs.World.{Machine, own_here}
use Rattle.zl_explore.specs.Orders.{next_in, ready_in}

-- what counts of it
abbrev pub rested_machine : Machine → Machine
rested_machine m = record m { world = rested m.world }

-- who can go
abbrev pub ready_of : Machine → List ℕ
ready_of m = ready_in (own_here m)

abbrev pub with_own : Machine → OwnWorld → Machine
with_own m o = record m { world = o.world; free = o.free }

-- what counts behind the own step of a process
abbrev pub turned : Machine → ℕ → Machine
turned m p = with_own m (next_in m.programs (own_here m) p)

-- what is told of it, if there is one
abbrev pub told_at : Machine → ℕ → Option TraceItem
told_at m p = option_map (λ step. step.1) (own_step m.programs (own_here m) p)
