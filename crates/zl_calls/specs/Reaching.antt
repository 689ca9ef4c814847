-- Any call of a process at its registers, in the midst of all processes: what its job's policy says, and the calls that reach others. No public clause cites this module.
use Rattle.std.specs.Prelude.{ℕ, ℤ, ◌≡◌, Bool, true, false, Some, None, Ok, slice_get}
use Rattle.zl_code.specs.Common.{Library, Request, Site, cpu_answered, site_of}
use Rattle.zl_code.specs.CallTable.{process_create, process_start, task_kill}
use Rattle.zl_code.specs.declared.history.CallName.{CallName}
use Rattle.zl_code.specs.declared.history.Outcome.{Outcome}
use Rattle.zl_code.specs.declared.history.Outcome.TheVariants as outcome
use Rattle.zl_code.specs.declared.instr.CallInstr.{CallInstr}
use Rattle.zl_calls.specs.Acted.{Acted}
use Rattle.zl_calls.specs.Policed.{Policed, verdict_on}
use Rattle.zl_calls.specs.World.{CallsNext}
use Rattle.zl_calls.specs.calls.Answer.{Told, no_value, one_value, told_by}
use Rattle.zl_calls.specs.calls.Task.{Reach, ProcessCreateDoes, ProcessStartDoes, TaskKillDoes, with_caller}
use Rattle.zl_calls.specs.declared.process.Process.{Process}
use Rattle.zl_calls.specs.declared.process.State.TheVariants as state

-- ---- calls that reach other processes

-- the caller has what it is told in the registers of the site, and nothing else has changed
pub record IsToldIn (s : Site) (place : ℕ) (told : Told) (all all2 : Reach) : Type 0 where
  pub caller : Process
  pub is_there : slice_get all.processes place ≡ Some caller
  pub processes : all2.processes ≡ with_caller all.processes place (record caller { cpu = cpu_answered s told.status told.values caller.cpu })
  pub objects : all2.objects ≡ all.objects
  pub blocked : all2.blocked ≡ all.blocked

-- the call does so, and its caller is told the answer
pub record IsAnsweredIn {A : Type 0} (told : A → Told) (Does : Reach → A → Reach → Type 0) (s : Site) (place : ℕ) (all : Reach) (o : Outcome) (all2 : Reach) : Type 0 where
  pub answer : A
  pub between : Reach
  pub does : Does all answer between
  pub ends : o ≡ outcome.Answered (told answer).status
  pub is_told : IsToldIn s place (told answer) between all2

-- the call did so, and its caller is among those that it ended
pub record EndsCaller (Does : Reach → Reach → Type 0) (place : ℕ) (all : Reach) (o : Outcome) (all2 : Reach) : Type 0 where
  pub caller : Process
  pub code : ℤ
  pub does : Does all all2
  pub is_there : slice_get all2.processes place ≡ Some caller
  pub is_over : caller.state ≡ state.Ended code
  pub ends : o ≡ outcome.Ended code

-- what a call does that reaches other processes
pub data Reaches (lib : Library) (place : ℕ) (caller : Process) (s : Site) (all : Reach) (o : Outcome) (all2 : Reach) : Type 0 where
  creates_process : (job program : ℕ) → s.request ≡ process_create job program
      → IsAnsweredIn (told_by one_value) (ProcessCreateDoes lib place job program caller) s place all o all2 → Reaches lib place caller s all o all2
  starts : (process h word : ℕ) → s.request ≡ process_start process h word
      → IsAnsweredIn (told_by no_value) (ProcessStartDoes lib place process h word caller) s place all o all2 → Reaches lib place caller s all o all2
  -- the caller isn't among those that it ended
  kills : (task : ℕ) → s.request ≡ task_kill task
      → (a : IsAnsweredIn (told_by no_value) (TaskKillDoes task caller) s place all o all2)
      → ((code : ℤ) → a.is_told.caller.state ≡ state.Ended code → ⊥) → Reaches lib place caller s all o all2
  kills_itself : (task : ℕ) → s.request ≡ task_kill task
      → EndsCaller (λ a b. TaskKillDoes task caller a (Ok tt) b) place all o all2 → Reaches lib place caller s all o all2

-- the requests that reach other processes
abbrev pub is_reaching : Request → Bool
is_reaching (process_create job program) = true
is_reaching (process_start process h word) = true
is_reaching (task_kill task) = true
is_reaching _ = false

-- ---- any call

-- of the processes the caller alone has changed, and none left the list of the blocked
pub record IsAlone (all : Reach) (place : ℕ) (p2 : Process) (all2 : Reach) : Type 0 where
  pub processes : all2.processes ≡ with_caller all.processes place p2
  pub blocked : all2.blocked ≡ all.blocked

-- the call of the site is ended by policy, or else it is done
pub data CallActs (lib : Library) (place : ℕ) (caller : Process) (s : Site) (all : Reach) (o : Outcome) (all2 : Reach) : Type 0 where
  policed : (p2 : Process) → IsAlone all place p2 all2 → Policed s caller all.objects o p2 all2.objects → CallActs lib place caller s all o all2
  reaches : verdict_on caller.table.entries all.objects.objects caller.pid s.request ≡ None
      → Reaches lib place caller s all o all2 → CallActs lib place caller s all o all2
  acts : (p2 : Process) → verdict_on caller.table.entries all.objects.objects caller.pid s.request ≡ None
      → IsAlone all place p2 all2 → Acted (Some s) caller all.objects o p2 all2.objects → CallActs lib place caller s all o all2

-- the call that stands next for the caller, at this place, is done so, and has this name
pub record CalledAmong (lib : Library) (place : ℕ) (caller : Process) (all : Reach) (name : CallName) (o : Outcome) (all2 : Reach) : Type 0 where
  pub call : CallInstr
  pub next : CallsNext lib caller call
  pub named : name ≡ call.name
  pub site : Site
  pub at_site : site_of call caller.cpu ≡ Some site
  pub acts : CallActs lib place caller site all o all2
