-- That what a process does is the lab's own, up to where processes wake and behind that.
use Rattle.std.specs.Prelude.{ℕ, ◌≡◌, false, List, map, Some, if◌then◌else◌}
use Rattle.std.specs.Option.{option_map}
use Rattle.zl_rights.specs.Settled.{settled}
use Rattle.zl_rights.specs.Values.{Free, new_free}
use Rattle.zl_code.specs.Common.{get, lives, Library, Next, World, Process as ProcessValue, next_for}
use Rattle.zl_code.specs.declared.history.TraceItem.{TraceItem}
use Rattle.zl_code.specs.Own.{OwnWorld}
use Rattle.zl_code.specs.OwnHistory.{tells_want}
use Rattle.zl_code.specs.OwnSteps.{own_act, own_step}
use Rattle.zl_objects.specs.Objects.{Objects}
use Rattle.zl_calls.specs.declared.process.Process.{Process}
use Rattle.zl_calls.specs.World.{free_entry, process_entry, world_blocked}

-- the world of these, where those block, with the values of each process
abbrev pub own_beside : List Process → Objects → List ℕ → OwnWorld
own_beside ps r blocked = record { world = world_blocked ps r blocked; free = map free_entry ps }

-- those of living processes are these, and those of others are a new table's
abbrev pub living : (ℕ → Free) → ℕ → ProcessValue → Free
living f k q = if lives q.state then f k else new_free

-- so the values are at each koid
abbrev pub FreeBy : List Process → (ℕ → Free) → Type 0
FreeBy ps f = (k : ℕ) → get (map free_entry ps) k ≡ option_map (living f k) (get (map process_entry ps) k)

-- the lab itself does this next, up to where processes wake, and leaves these values
pub record IsOwnDone (lib : Library) (o : OwnWorld) (pid : ℕ) (n : Next) (x : TraceItem) (w2 : World) (after : List Process) : Type 0 where
  pub world : w2 ≡ settled (own_act lib o pid n).world
  pub item : x ≡ (own_act lib o pid n).item
  pub free : FreeBy after (own_act lib o pid n).free

-- so it is of the process, unless memory was wanted
abbrev pub DoesOwn : Library → OwnWorld → ℕ → TraceItem → World → List Process → Type 0
DoesOwn lib o pid x w2 after = (q : ProcessValue) → get o.world.processes pid ≡ Some q → tells_want x ≡ false
    → IsOwnDone lib o pid (next_for lib q) x w2 after

-- the step is the one that the lab itself does, unless memory was wanted
abbrev pub StepsOwn : Library → OwnWorld → ℕ → TraceItem → OwnWorld → Type 0
StepsOwn lib o pid x o2 = tells_want x ≡ false → own_step lib o pid ≡ Some (o2, x)
