-- What the replay of a trace tells.
use Rattle.std.specs.Prelude.{ℕ, ◌≡◌, ◌≢◌, ◌+◌, true, false, ◌⊎◌, List, ◌∷◌, ◌++◌, length}
use Rattle.zl_code.specs.Common.{World, is_process, is_ready, Library, MOST_ITEMS, Step, IsLegalHistory, single, pid_of}
use Rattle.zl_code.specs.Boot.{IsBooted}
use Rattle.zl_code.specs.Headline.{IsSizedBoot}
use Rattle.zl_code.specs.Steps.{Runs, has_count}
use Rattle.zl_code.specs.declared.boot.Statement.{Statement}
use Rattle.zl_code.specs.declared.history.TraceItem.{TraceItem}
use Rattle.zl_code.specs.Own.{OwnWorld}
use Rattle.zl_code.specs.OwnBoot.{own_boot}
use Rattle.zl_code.specs.OwnHistory.{OwnHistory, OwnItem, OwnRuns}
use Rattle.zl_calls.specs.Own.{StepsOwn}
use Rattle.zl_calls.specs.World.{Machine, own_here}

-- the items are a legal history from a boot world of the statements to the world of this machine
pub record IsReplayed (lib : Library) (statements : List Statement) (limit : ℕ) (items : List TraceItem) (m : Machine) : Type 0 where
  pub programs : m.programs ≡ lib
  pub boot : World
  pub boots : IsBooted lib statements limit boot
  -- images and words are in their ranges, so that what is promised of checked programs holds of these items
  pub sized : IsSizedBoot lib statements boot
  pub legal : IsLegalHistory lib boot items m.world
  -- it is the history that the lab itself has of them
  pub begins : boot ≡ (own_boot lib statements).world
  pub own : OwnHistory lib (own_boot lib statements) items (own_here m)

-- ---- one item

-- the steps for which the item stands lead from one machine to the other
pub record Repeats (m : Machine) (x : TraceItem) (m2 : Machine) : Type 0 where
  pub programs : m2.programs ≡ m.programs
  pub count : has_count x ≡ true
  pub runs : Runs m.programs m.world (single x) m2.world
  pub own : OwnItem m.programs (own_here m) x (own_here m2)

-- where a step of this item is to come, the process isn't ready, or a step of it has another item, which is the lab's own unless that
-- wants memory; a further step may have this one
pub data StepDiffers (lib : Library) (o : OwnWorld) (x : TraceItem) : Type 0 where
  not_ready : is_process o.world is_ready (pid_of x) ≡ false → StepDiffers lib o x
  another : (own : TraceItem) (after : OwnWorld) → Step lib o.world (pid_of x) own after.world → StepsOwn lib o (pid_of x) own after → own ≢ x
      → StepDiffers lib o x

-- the item stands for no step; or some of its steps can be done, as the lab does them, and where the next is to come, it differs
pub data Differs (lib : Library) (o : OwnWorld) (x : TraceItem) : Type 0 where
  for_none : has_count x ≡ false → Differs lib o x
  at_step : (done : List TraceItem) (mid : OwnWorld) (next : TraceItem) (left : List TraceItem)
      → single x ≡ done ++ (next ∷ left) → Runs lib o.world done mid.world → OwnRuns lib o done mid → StepDiffers lib mid next → Differs lib o x

-- ---- many items

-- the items before number n, from 1, can be replayed; item n then differs, or is one past the most that a trace has
pub record DiffersAt (lib : Library) (statements : List Statement) (limit : ℕ) (items : List TraceItem) (n : ℕ) : Type 0 where
  pub before : List TraceItem
  pub item : TraceItem
  pub after : List TraceItem
  pub are_all : items ≡ before ++ (item ∷ after)
  pub number : n ≡ length before + 1
  pub machine : Machine
  pub replayed : IsReplayed lib statements limit before machine
  pub differs : Differs lib (own_here machine) item ⊎ (length before ≡ MOST_ITEMS)
