-- Whom a step may have killed, as its item and what it tells beside it say.
use Rattle.std.specs.Prelude.{ℕ, ◌≡◌, Bool, true, false, not, Option, Some, None, IsTrue, IfSome}
use Rattle.zl_code.specs.Common.{Library, Map, Next, AtCall, Object, Process, World, get, next_for}
use Rattle.zl_code.specs.CallTable.{Request, task_kill}
use Rattle.zl_code.specs.Jobs.{is_within}
use Rattle.zl_code.specs.Tests.{koid_in}
use Rattle.zl_code.specs.declared.history.CallName.{CallName}
use Rattle.zl_code.specs.declared.history.CallName.TheVariants as name
use Rattle.zl_code.specs.declared.history.Outcome.{Outcome}
use Rattle.zl_code.specs.declared.history.Outcome.TheVariants as outcome
use Rattle.zl_code.specs.declared.history.TraceItem.{TraceItem}
use Rattle.zl_code.specs.declared.history.TraceItem.TheVariants as item
use Rattle.zl_rights.specs.declared.entry.Entry.{Entry}
use Rattle.zl_objects.specs.Below.{is_one_of}
use Rattle.zl_objects.specs.declared.below.TaskList.{TaskList}

-- the task that the request is to kill: the one that its handle names
abbrev pub task_of : Map Entry → Request → Option ℕ
task_of handles (task_kill task) = Some (koid_in (get handles task))
task_of handles r = None

-- the same of what stands next for a process with these handles
abbrev pub task_next : Map Entry → Next → Option ℕ
task_next handles (AtCall call s) = task_of handles s.request
task_next handles n = None

-- the call that kills
abbrev pub is_kill : CallName → Bool
is_kill name.TaskKill = true
is_kill _ = false

-- a call with this outcome ends no process but its own
abbrev pub spares_others : CallName → Outcome → Bool
spares_others call outcome.Blocked = true
spares_others call o = not (is_kill call)

-- the item of a step that ends no other process: but for those that it wakes or starts, the same others are ready
abbrev pub keeps_others : TraceItem → Bool
keeps_others (item.Call pid call o) = spares_others call o
keeps_others _ = true

-- the item of a step that ends no process, and blocks none: but for those that it wakes or starts, the same are ready
abbrev pub keeps_all : TraceItem → Bool
keeps_all (item.Run pid count) = true
keeps_all (item.Call pid call (outcome.Answered answer)) = not (is_kill call)
keeps_all _ = false

-- what is the task or stands below it is listed, if the list is whole
abbrev pub ListsTask : Map Object → ℕ → TaskList → Type 0
ListsTask objects task list = list.whole ≡ true → (k : ℕ) → IsTrue (is_within objects task k) → IsTrue (is_one_of k list.koids.items)

-- behind the step of p, if it kills, the task is listed that it killed, if one is told
abbrev pub TellsKilled : Library → World → ℕ → Option TaskList → Type 0
TellsKilled lib w p killed = IfSome killed (λ list. (caller : Process) → get w.processes p ≡ Some caller
    → (task : ℕ) → task_next caller.handles (next_for lib caller) ≡ Some task → ListsTask w.objects task list)
