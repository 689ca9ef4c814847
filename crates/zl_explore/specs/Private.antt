-- Local instructions, which are private turns of a running world that rests.
use Rattle.std.specs.Prelude.{ℕ, ◌≡◌, Bool, true, false, IsTrue, Option, None, Some}
use Rattle.zl_rights.specs.Common.{wakes}
use Rattle.zl_rights.specs.Settled.{settled}
use Rattle.zl_code.specs.declared.history.TraceItem.{TraceItem}
use Rattle.zl_code.specs.Own.{OwnWorld, free_at, free_in}
use Rattle.zl_code.specs.OwnHistory.{tells_run}
use Rattle.zl_code.specs.OwnSteps.{own_step}
use Rattle.zl_code.specs.Steps.{Moves, Next}
use Rattle.zl_calls.specs.Rested.{own_rested}
use Rattle.zl_calls.specs.World.{Machine, own_here}
use Rattle.zl_explore.specs.Ordered.{IsOrdered}
use Rattle.zl_explore.specs.Paths.{IsIn}
use Rattle.zl_explore.specs.Running.{ready_of}

-- A world behind all that follows a step, as each own step leaves it.
pub record IsStill (o : OwnWorld) : Type 0 where
  pub order : IsOrdered o.world
  -- what isn't held is gone, no wait holds, and whoever blocks has to wait
  pub all_held : settled o.world ≡ o.world
  pub none_wakes : wakes o.world ≡ o.world
  -- each process has its values, and one that is over those of a new table
  pub values : free_in o.world (free_at o.free) ≡ o.free

-- that counts of the machine which counts of such a world
pub record RestsStill (m : Machine) : Type 0 where
  pub own : OwnWorld
  pub still : IsStill own
  pub is : own_here m ≡ own_rested own

abbrev pub runs_alone : Option (OwnWorld × TraceItem) → Bool
runs_alone None = false
runs_alone (Some y) = tells_run y.1

-- the process is ready, and at a local instruction that can be done
unfoldable pub is_local : Machine → ℕ → Bool
is_local m p = runs_alone (own_step m.programs (own_here m) p)

-- so it is where this stands next
abbrev pub moves_now : Next → Bool
moves_now (Moves c) = true
moves_now _ = false

abbrev pub IsLocal : Machine → ℕ → Type 0
IsLocal m p = IsTrue (is_local m p)

-- a process is ready whose own step has such an item
pub record Tells (passes : TraceItem → Type 0) (m : Machine) : Type 0 where
  pub pid : ℕ
  pub is_ready : IsIn (ready_of m) pid
  pub to : OwnWorld
  pub told : TraceItem
  pub step : own_step m.programs (own_here m) pid ≡ Some (to, told)
  pub is : passes told
