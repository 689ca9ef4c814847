-- Which handles a call takes, noted before it is done, and which waits may end with them. No public clause cites this module.
use Rattle.std.specs.Prelude.{ℕ, ◌≡◌, ◌⊎◌, Bool, true, false, ◌&&◌, ◌||◌, ◌==◌, not, List, map, Option, Some, IsTrue, IfSome}
use Rattle.std.specs.List.{All, list_any}
use Rattle.zl_code.specs.Common.{Library, Map, Process as ProcessValue, Site, World, calls_at, get, is_empty, next_for, taken_handles}
use Rattle.zl_code.specs.declared.history.Outcome.{Outcome}
use Rattle.zl_code.specs.declared.history.Outcome.TheVariants as outcome
use Rattle.zl_code.specs.declared.history.CallName.{CallName}
use Rattle.zl_code.specs.declared.history.CallName.TheVariants as call
use Rattle.zl_code.specs.declared.history.TraceItem.{TraceItem}
use Rattle.zl_rights.specs.Settle.{has_handle}
use Rattle.zl_rights.specs.World.{Wait}
use Rattle.zl_rights.specs.declared.entry.Entry.{Entry}
use Rattle.zl_objects.specs.Listed.{is_made_at}
use Rattle.zl_objects.specs.Objects.{Objects}
use Rattle.zl_calls.specs.Registered.{is_left}
use Rattle.zl_objects.specs.Seen.{object_entry}
use Rattle.zl_calls.specs.Killed.{ListsTask, task_of}
use Rattle.zl_calls.specs.Started.{child_next, child_of, if_started}
use Rattle.zl_calls.specs.World.{process_entry, stands_next, world_value}
use Rattle.zl_calls.specs.declared.process.Process.{Process}
use Rattle.zl_calls.specs.declared.step.taken.Taken.{Taken}
use Rattle.zl_calls.specs.declared.step.taken.TakenHandle.{TakenHandle}

-- ---- which calls take handles

-- the call leaves each handle in its table, unless it ends its caller
abbrev pub keeps_handles : CallName → Bool
keeps_handles call.Close = false
keeps_handles call.Replace = false
keeps_handles call.ChanWrite = false
keeps_handles call.ChanWriteSlots = false
keeps_handles call.ProcessStart = false
keeps_handles call.ProcessExit = false
keeps_handles call.TaskKill = false
keeps_handles _ = true

-- the caller has ended
abbrev pub is_end : Outcome → Bool
is_end (outcome.Ended code) = true
is_end _ = false

-- ---- before the call

-- the handle is noted that has the value v and names the object k
abbrev pub has_noted : Taken → (v k : ℕ) → Bool
has_noted t v k = t.all || list_any (λ h. (h.value == v) && (h.koid == k)) t.handles.items

-- the handle at the value is noted, if there is one
abbrev pub IsNoted : Map Entry → Taken → ℕ → Type 0
IsNoted entries t v = IfSome (get entries v) (λ e. IsTrue (has_noted t v e.koid))

-- those are noted that the call of the site takes
abbrev pub NotesFor : Option Site → Map Entry → Taken → Type 0
NotesFor at entries t = IfSome at (λ s. All (IsNoted entries t) (taken_handles s.request))

-- those are noted that the call takes which stands next, if any waits are registered
abbrev pub NotesNext : Library → Process → Objects → Taken → Type 0
NotesNext lib p r t = (name : CallName) (at : Option Site) → stands_next lib p ≡ calls_at name at → IsTrue (not (is_empty r.waits))
    → NotesFor at p.table.entries t

-- the process is noted that the call of this name is to start, if it starts one
abbrev pub NotesChild : CallName → Option Site → Map Entry → Taken → Type 0
NotesChild name at entries t = name ≡ call.ProcessStart → IfSome at (λ s. child_of entries s.request ≡ Some t.started)

-- the same of the call which stands next, of this name
abbrev pub NotesNextChild : Library → Process → CallName → Taken → Type 0
NotesNextChild lib p name t = (at : Option Site) → stands_next lib p ≡ calls_at name at → NotesChild name at p.table.entries t

-- the task is listed that the call of this name is to kill, if it kills
abbrev pub NotesTask : CallName → Option Site → Map Entry → Objects → Taken → Type 0
NotesTask name at entries r t = name ≡ call.TaskKill
    → IfSome at (λ s. (task : ℕ) → task_of entries s.request ≡ Some task → ListsTask (map object_entry r.objects) task t.killed)

-- the same of the call which stands next, of this name
abbrev pub NotesNextTask : Library → Process → Objects → CallName → Taken → Type 0
NotesNextTask lib p r name t = (at : Option Site) → stands_next lib p ≡ calls_at name at → NotesTask name at p.table.entries r t

-- ---- behind it

-- the process is noted that the process pid started, where the item tells of one
abbrev pub NotesStarted : Library → World → ℕ → TraceItem → Taken → Type 0
NotesStarted lib w pid x t = (p : ProcessValue) → get w.processes pid ≡ Some p
    → if_started x (child_next p.handles (next_for lib p)) ≡ if_started x (Some t.started)

-- the handle of the process is gone
abbrev pub is_gone : List Process → (pid v : ℕ) → Bool
is_gone ps pid v = not (has_handle (get (map process_entry ps) pid) v)

-- the wait is left, or else the process pid made it by a handle that is noted and gone
abbrev pub IsKnown : List Process → Objects → Taken → ℕ → Wait → Type 0
IsKnown ps r t pid x = IsTrue (is_left (world_value ps r) x)
    ⊎ ((x.pid ≡ pid) × IsTrue (is_gone ps pid x.value) × IsTrue (has_noted t x.value x.object))

-- so is each registered wait
abbrev pub AreKnown : List Process → Objects → Taken → ℕ → Type 0
AreKnown ps r t pid = All (IsKnown ps r t pid) r.waits

-- the process pid made the wait by this handle, which is gone
abbrev pub is_over_by : List Process → (pid : ℕ) → TakenHandle → Wait → Bool
is_over_by ps pid h x = is_gone ps pid h.value && is_made_at h.koid pid h.value x
