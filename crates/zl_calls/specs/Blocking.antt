-- Who blocks in a step. No public clause cites this module.
use Rattle.std.specs.Prelude.{ℕ, ◌≡◌, ◌⊎◌, IsTrue, Bool, true, false, List, [], ◌∷◌, ◌++◌, Option, Some, None, map, if◌then◌else◌}
use Rattle.zl_rights.specs.Map.{get}
use Rattle.zl_rights.specs.World.{Process as ProcessValue, State, Blocked}
use Rattle.zl_objects.specs.Awaited.{KeepSleepers, Seeks}
use Rattle.zl_objects.specs.Sleepers.{IsUnlisted, ListsLast}
use Rattle.zl_objects.specs.Objects.{Objects}
use Rattle.zl_objects.specs.declared.awaited.Awaited.{Awaited}
use Rattle.zl_calls.specs.declared.process.Process.{Process}
use Rattle.zl_calls.specs.Registered.{AreBeside}
use Rattle.zl_calls.specs.World.{awaited_of, process_entry}
use Rattle.zl_code.specs.declared.history.Outcome.TheVariants as outcome
use Rattle.zl_code.specs.declared.history.TraceItem.{TraceItem}
use Rattle.zl_code.specs.declared.history.TraceItem.TheVariants as item

-- the list with the process behind it, where the item tells of a call that blocked, else the list
abbrev pub then_blocked : ℕ → TraceItem → List ℕ → List ℕ
then_blocked pid (item.Call at call outcome.Blocked) blocked = blocked ++ (pid ∷ [])
then_blocked pid _ blocked = blocked

-- the list with the process behind it, if it fell asleep, else the list
abbrev pub if_asleep : Bool → ℕ → List ℕ → List ℕ
if_asleep asleep pid blocked = if asleep then blocked ++ (pid ∷ []) else blocked

-- the item tells of a call that blocked
abbrev pub fell_asleep : TraceItem → Bool
fell_asleep (item.Call at call outcome.Blocked) = true
fell_asleep _ = false

-- what a process in this state waits for
abbrev pub awaited_in : State → Option Awaited
awaited_in (Blocked awaited destinations) = Some (awaited_of awaited)
awaited_in _ = None

-- the same of the process that was found
abbrev pub awaited_found : Option ProcessValue → Option Awaited
awaited_found None = None
awaited_found (Some p) = awaited_in p.state

-- the process comes to be listed for this, the last of its port, or perhaps not all are listed
abbrev pub ComesLast : ℕ → Objects → Objects → Awaited → Type 0
ComesLast pid r r2 a = IsTrue r2.crowded ⊎ ((r2.crowded ≡ r.crowded) × IsUnlisted pid a r.sleepers × ListsLast pid a r.sleepers r2.sleepers)

-- but for what the process waits for, all is as before, and if it fell asleep, that is known too
pub record FallsAsleep (ps : List Process) (pid : ℕ) (asleep : Bool) (r r2 : Objects) : Type 0 where
  pub beside : AreBeside r r2
  pub waits : r2.waits ≡ r.waits
  pub made : r2.waits_made ≡ r.waits_made
  pub others : (q : ℕ) (a : Awaited) → Seeks r q a → Seeks r2 q a
  pub itself : asleep ≡ true → (a : Awaited) → awaited_found (get (map process_entry ps) pid) ≡ Some a → Seeks r2 pid a
  pub same : asleep ≡ false → KeepSleepers r r2
  pub last : asleep ≡ true → (a : Awaited) → awaited_found (get (map process_entry ps) pid) ≡ Some a → ComesLast pid r r2 a
