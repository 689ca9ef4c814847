-- Who became ready behind a step, but for its process: those that woke, and the one that was started.
use Rattle.std.specs.Prelude.{ℕ, Bool, true, false, ◌&&◌, Option, Some, None, if◌then◌else◌}
use Rattle.zl_code.specs.Common.{Library, Map, Next, AtCall, Step, World, get, next_for, pid_of}
use Rattle.zl_code.specs.CallTable.{Request, process_start}
use Rattle.zl_code.specs.Tests.{koid_in}
use Rattle.zl_code.specs.declared.history.CallName.{CallName}
use Rattle.zl_code.specs.declared.history.CallName.TheVariants as name
use Rattle.zl_code.specs.declared.history.Outcome.{Outcome}
use Rattle.zl_code.specs.declared.history.Outcome.TheVariants as outcome
use Rattle.zl_code.specs.declared.history.TraceItem.{TraceItem}
use Rattle.zl_code.specs.declared.history.TraceItem.TheVariants as item
use Rattle.zl_rights.specs.declared.entry.Entry.{Entry}
use Rattle.zl_rights.specs.declared.status.Status.TheVariants as status
use Rattle.zl_calls.specs.World.{Machine}
use Rattle.zl_calls.specs.Steps.{TakesStep}
use Rattle.zl_calls.specs.Woke.{HaveLeft}
use Rattle.zl_calls.specs.declared.told.Woke.{Woke}

-- ---- who is started

-- the process that the request is to start: the one that its first handle names
abbrev pub child_of : Map Entry → Request → Option ℕ
child_of handles (process_start process h word) = Some (koid_in (get handles process))
child_of handles r = None

-- the same of what stands next for a process with these handles
abbrev pub child_next : Map Entry → Next → Option ℕ
child_next handles (AtCall call s) = child_of handles s.request
child_next handles n = None

-- the call that starts a process
abbrev pub is_start : CallName → Bool
is_start name.ProcessStart = true
is_start _ = false

-- the answer OK
abbrev pub is_ok : Outcome → Bool
is_ok (outcome.Answered status.Ok) = true
is_ok _ = false

-- the item tells of a start that was answered OK
abbrev pub has_started : TraceItem → Bool
has_started (item.Call pid call o) = is_start call && is_ok o
has_started _ = false

-- the process that was to be started, where the item tells that it was
abbrev pub if_started : TraceItem → Option ℕ → Option ℕ
if_started x child = if has_started x then child else None

-- ---- behind a step

-- Behind the step of p just these became ready, if all are told: those that left the list of the blocked, and the one that was started.
abbrev pub Tells : (lib : Library) (w : World) (p : ℕ) (x : TraceItem) (after : World) → Step lib w p x after → Woke → Type 0
Tells lib w p x after step told =
    HaveLeft step.settled.blocked (if_started x (child_next step.process.handles (next_for lib step.process))) told after.blocked

-- the item stands for one step of the process, which is ready, and these became ready behind it, but for the process
pub record StepsAndTells (m : Machine) (pid : ℕ) (m2 : Machine) (x : TraceItem) (w : Woke) : Type 0 where
  pub takes : TakesStep m pid m2 x
  pub tells : Tells m.programs m.world (pid_of x) x m2.world takes.steps.step w
