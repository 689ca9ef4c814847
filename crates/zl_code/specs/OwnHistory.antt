-- The lab's own history: the steps that it does itself, one item after another.
use Rattle.std.specs.Prelude.{◌≡◌, Bool, true, false, List, [], ◌∷◌, Some}
use Rattle.zl_rights.specs.declared.status.Status.TheVariants as status
use Rattle.zl_code.specs.declared.history.Outcome.{Outcome}
use Rattle.zl_code.specs.declared.history.Outcome.TheVariants as outcome
use Rattle.zl_code.specs.declared.history.TraceItem.{TraceItem}
use Rattle.zl_code.specs.declared.history.TraceItem.TheVariants as item
use Rattle.zl_code.specs.Image.{Library}
use Rattle.zl_code.specs.Own.{OwnWorld}
use Rattle.zl_code.specs.OwnSteps.{own_step}
use Rattle.zl_code.specs.Steps.{Runs, Step, pid_of, single}

-- the outcome wants memory
abbrev pub is_want : Outcome → Bool
is_want (outcome.Answered status.NoMemory) = true
is_want _ = false

-- the item tells of a call that wanted memory
abbrev pub tells_want : TraceItem → Bool
tells_want (item.Call pid call o) = is_want o
tells_want _ = false

-- the item tells of local instructions
abbrev pub tells_run : TraceItem → Bool
tells_run (item.Run pid count) = true
tells_run _ = false

-- the lab's own steps, one after another
abbrev pub OwnRuns : Library → OwnWorld → List TraceItem → OwnWorld → Type 0
OwnRuns lib o [] o2 = o2 ≡ o
OwnRuns lib o (x ∷ steps) o2 = (mid : OwnWorld) × (own_step lib o (pid_of x) ≡ Some (mid, x)) × OwnRuns lib mid steps o2

-- what the item tells is the lab's own; or it is local instructions, which leave the values of all; or a call that wanted
-- memory, behind which the values are any
pub data OwnItem (lib : Library) (o : OwnWorld) (x : TraceItem) (o2 : OwnWorld) : Type 0 where
  as_own : OwnRuns lib o (single x) o2 → OwnItem lib o x o2
  as_run : tells_run x ≡ true → Runs lib o.world (single x) o2.world → o2.free ≡ o.free → OwnItem lib o x o2
  as_want : tells_want x ≡ true → Step lib o.world (pid_of x) x o2.world → OwnItem lib o x o2

-- so it is of each item, from one world to the other
abbrev pub OwnHistory : Library → OwnWorld → List TraceItem → OwnWorld → Type 0
OwnHistory lib o [] o2 = o2 ≡ o
OwnHistory lib o (x ∷ items) o2 = (mid : OwnWorld) × OwnItem lib o x mid × OwnHistory lib mid items o2
