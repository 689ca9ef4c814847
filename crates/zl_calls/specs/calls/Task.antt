-- What calls do that reach other processes than their caller: process_create, process_start and task_kill. No public clause cites this module.
use Rattle.std.specs.Prelude.{ℕ, ◌≡◌, Bool, true, false, ◌&&◌, ◌==◌, not, List, [], ◌∷◌, ◌++◌, map, Option, Some, None, Result, Ok, Err, IfOk, IfErr, OnErr, ⊤, is_some, slice_get, slice_set, if◌then◌else◌}
use Rattle.std.specs.Bool.{then_some}
use Rattle.std.specs.List.{find, filter, list_any}
use Rattle.std.specs.Option.{option_or}
use Rattle.std.specs.Result.{result_err}
use Rattle.zl_code.specs.Common.{Library, Map, Site, get}
use Rattle.zl_code.specs.Image.{Program}
use Rattle.zl_code.specs.Jobs.{is_allowing, misfits}
use Rattle.zl_code.specs.Sound.{is_blocked}
use Rattle.zl_code.specs.Starting.{cpu_given, created_process, is_created}
use Rattle.zl_code.specs.declared.history.Outcome.{Outcome}
use Rattle.zl_code.specs.declared.history.Outcome.TheVariants as outcome
use Rattle.zl_rights.specs.LookUp.{looked_up}
use Rattle.zl_rights.specs.Numbers.{DESTROY, KILLED, MANAGE_PROCESS, TRANSFER, WRITE}
use Rattle.zl_rights.specs.Signals.{lives, state_passes}
use Rattle.zl_rights.specs.declared.entry.Entry.{Entry}
use Rattle.zl_rights.specs.declared.kind.Kind.TheVariants as kind
use Rattle.zl_rights.specs.declared.policy.Action.{Action}
use Rattle.zl_rights.specs.declared.policy.Condition.{Condition}
use Rattle.zl_rights.specs.declared.status.Status.{Status}
use Rattle.zl_rights.specs.declared.status.Status.TheVariants as status
use Rattle.zl_rights.specs.Values.{new_free}
use Rattle.zl_table.specs.Table.{Inserts}
use Rattle.zl_objects.specs.Jobs.{action_here, is_dead_here, is_within_here, job_at, killing}
use Rattle.zl_objects.specs.Objects.{Objects, starting}
use Rattle.zl_objects.specs.Release.{Releases, all_koids}
use Rattle.zl_objects.specs.declared.object.Body.TheVariants as body
use Rattle.zl_objects.specs.declared.object.Life.TheVariants as life
use Rattle.zl_calls.specs.Registered.{EndsOwn, KeepsListed}
use Rattle.zl_calls.specs.World.{process_entry, process_value, state_value}
use Rattle.zl_calls.specs.calls.Answer.{ClosesEach, IsRefusedBy, answered_in, no_value, status_of, wants_memory, wants_nothing, without_handle}
use Rattle.zl_calls.specs.calls.Making.{MakesOne, room_refusal}
use Rattle.zl_calls.specs.calls.Process.{Drained}
use Rattle.zl_calls.specs.declared.process.Process.{Process}
use Rattle.zl_calls.specs.declared.process.State.{State}
use Rattle.zl_calls.specs.declared.process.State.TheVariants as state
use Rattle.zl_calls.specs.declared.calls.process.Started.{Started}

-- ---- all that such a call can reach

-- the processes of a world with its objects, and the list of those that are blocked
pub record Reach : Type 0 where
  pub processes : List Process
  pub objects : Objects
  pub blocked : List ℕ

-- the same, by its parts
abbrev pub parts : List Process → Objects → List ℕ → Reach
parts processes objects blocked = record { processes = processes; objects = objects; blocked = blocked }

-- there is such a call, and this is true of its site
abbrev pub IsReachedBy : Option Site → (Site → Type 0) → Type 0
IsReachedBy None P = ⊥
IsReachedBy (Some s) P = P s

-- the processes, where the one at the place is this one now
abbrev pub with_caller : List Process → ℕ → Process → List Process
with_caller processes place p = slice_set processes place p

-- the process at the place, the caller, is this one; all of it but its table stays
pub record IsCaller (all : Reach) (place : ℕ) (caller after : Process) : Type 0 where
  pub is_there : slice_get all.processes place ≡ Some caller
  pub same : after ≡ record caller { table = after.table }

-- the caller is there still, at the same place with the same Cpu
abbrev pub IsCallerStill : Process → Option Process → Type 0
IsCallerStill caller None = ⊥
IsCallerStill caller (Some p) = p.cpu ≡ caller.cpu

-- how the call of a process in this state ends: with the end of the caller, or with the answer
abbrev pub ending_of : Status → State → Outcome
ending_of answer (state.Ended code) = outcome.Ended code
ending_of answer s = outcome.Answered answer

-- the registers after it; those of a process that has ended stay
abbrev pub told_unless_over : ℕ → Result ⊤ Status → State → Process → Process
told_unless_over status answer (state.Ended code) p = p
told_unless_over status answer s p = answered_in p (status ∷ []) no_value answer

-- the caller has ended, or is answered
pub record EndsOrAnswers (status : ℕ) (answer : Result ⊤ Status) (p : Process) (o : Outcome) (p2 : Process) : Type 0 where
  pub ends : o ≡ ending_of (status_of answer) p.state
  pub told : p2 ≡ told_unless_over status answer p.state p

-- such a call was done, or else it was refused
pub record Tries {A : Type 0} (Done : A → Reach → Type 0) (Refuses : Reach → Type 0) (wants : Status → Bool) (refusal : Option Status) (answer : Result A Status) (all2 : Reach) : Type 0 where
  pub ok : IfOk answer (λ x. Done x all2)
  pub err : IfErr answer (IsRefusedBy wants refusal)
  pub refused : OnErr answer (Refuses all2)

-- ---- process_create

-- the program is checked, and declares a need that isn't allowed where conditions are decided so
abbrev pub needs_more : (Condition → Action) → Option Program → Bool
needs_more decides None = false
needs_more decides (Some g) = g.checked && list_any (λ c. not (is_allowing (decides c))) g.image.needs

-- the answer of process_create other than OK, where this look-up found the job: programs come before its death, that before needs, and needs before room
abbrev pub create_refusal_of : Library → Map Entry → Objects → (program : ℕ) → Result Entry Status → Option Status
create_refusal_of lib entries r program (Err s) = Some s
create_refusal_of lib entries r program (Ok job) =
    option_or (then_some (not (is_some (slice_get lib program))) status.InvalidArgs)
    (option_or (then_some (is_dead_here (job_at r.objects job.koid)) status.BadState)
    (option_or (then_some (needs_more (action_here (job_at r.objects job.koid)) (slice_get lib program)) status.NotSupported)
    (room_refusal entries r.next_koid)))

-- the answer of process_create other than OK
abbrev pub create_refusal : Library → Map Entry → Objects → (job program : ℕ) → Option Status
create_refusal lib entries r job program = create_refusal_of lib entries r program (looked_up entries job (kind.Job ∷ []) MANAGE_PROCESS)

-- a process that runs the program was made in the job of the handle, and the caller's handle to it gets the value made
pub record CreatesProcess (lib : Library) (all : Reach) (place job program made : ℕ) (all2 : Reach) : Type 0 where
  pub caller : Process
  pub after : Process
  pub is_caller : IsCaller all place caller after
  pub unrefused : create_refusal lib caller.table.entries all.objects job program ≡ None
  pub above : Entry
  pub is_above : looked_up caller.table.entries job (kind.Job ∷ []) MANAGE_PROCESS ≡ Ok above
  pub makes : MakesOne (body.Process above.koid life.Created) caller.table all.objects made after.table all2.objects
  -- the new process
  pub new : Process
  pub pid : new.pid ≡ all.objects.next_koid
  pub created : process_value new ≡ created_process lib program
  pub fresh : new.table.free ≡ new_free
  pub processes : all2.processes ≡ with_caller all.processes place after ++ (new ∷ [])
  pub blocked : all2.blocked ≡ all.blocked

-- process_create by the process at the place; where it is refused nothing changes
abbrev pub ProcessCreateDoes : Library → (place job program : ℕ) → (caller : Process) → Reach → Result ℕ Status → Reach → Type 0
ProcessCreateDoes lib place job program caller all =
    Tries (CreatesProcess lib all place job program) (λ all2. all2 ≡ all) wants_memory (create_refusal lib caller.table.entries all.objects job program)

-- ---- process_start

-- the process with this koid
abbrev pub process_at : List Process → ℕ → Option Process
process_at processes pid = find (λ q. q.pid == pid) processes

-- why the process that was found can't start with the handle
abbrev pub child_refusal : Library → Option Process → Entry → Option Status
child_refusal lib None e = Some status.BadState
child_refusal lib (Some q) e =
    option_or (then_some (not (is_created (state_value q.state))) status.BadState)
    (then_some (misfits (slice_get lib q.program) (Some e)) status.InvalidArgs)

-- the answer of process_start other than OK, where these look-ups found the process and the handle
abbrev pub start_refusal_of : Library → List Process → Result Entry Status → Result Entry Status → Option Status
start_refusal_of lib processes (Err s) e = Some s
start_refusal_of lib processes (Ok child) (Err s) = Some s
start_refusal_of lib processes (Ok child) (Ok e) = child_refusal lib (process_at processes child.koid) e

-- the answer of process_start other than OK
abbrev pub start_refusal : Library → List Process → Map Entry → (process h : ℕ) → Option Status
start_refusal lib processes entries process h =
    start_refusal_of lib processes (looked_up entries process (kind.Process ∷ []) WRITE) (looked_up entries h [] TRANSFER)

-- the process with this koid stands at the place, and was made and not started
pub record IsCreatedAt (processes : List Process) (pid at_place : ℕ) : Type 0 where
  pub child : Process
  pub is_there : slice_get processes at_place ≡ Some child
  pub is_pid : child.pid ≡ pid
  pub is_created : is_created (state_value child.state) ≡ true

-- the handles name the process at this place, and the object of the entry
pub record IsFound (processes : List Process) (caller : Process) (process h at_place : ℕ) (e : Entry) : Type 0 where
  pub named : Entry
  pub is_named : looked_up caller.table.entries process (kind.Process ∷ []) WRITE ≡ Ok named
  pub at : IsCreatedAt processes named.koid at_place
  pub is_given : looked_up caller.table.entries h [] TRANSFER ≡ Ok e

-- nothing refuses the start, and the handle has entered the table of the process that is to start
pub record Enters (lib : Library) (processes : List Process) (caller : Process) (process h : ℕ) (started : Started) (processes2 : List Process) : Type 0 where
  pub unrefused : start_refusal lib processes caller.table.entries process h ≡ None
  pub e : Entry
  pub found : IsFound processes caller process h started.place e
  pub child : Process
  pub same : child ≡ record found.at.child { table = child.table }
  pub inserts : Inserts found.at.child.table e started.handle child.table
  pub entered : processes2 ≡ with_caller processes started.place child

-- the process of the first handle is ready, with the second handle in its table, at a value that it finds in register 0, and with the word in register 1
pub record StartsProcess (lib : Library) (all : Reach) (place process h word : ℕ) (all2 : Reach) : Type 0 where
  pub caller : Process
  pub after : Process
  pub is_caller : IsCaller all place caller after
  pub unrefused : start_refusal lib all.processes caller.table.entries process h ≡ None
  pub given : Entry
  pub is_given : looked_up caller.table.entries h [] TRANSFER ≡ Ok given
  pub table : after.table ≡ without_handle caller.table h
  -- the process that starts, as it was and as it is, and its place
  pub child : Process
  pub started : Process
  pub at_place : ℕ
  pub is_child : slice_get all.processes at_place ≡ Some child
  pub is_created : is_created (state_value child.state) ≡ true
  pub named : Entry
  pub is_named : looked_up caller.table.entries process (kind.Process ∷ []) WRITE ≡ Ok named
  pub pid : child.pid ≡ named.koid
  pub value : ℕ
  pub inserts : Inserts child.table given value started.table
  pub starts : started ≡ record child { state = state.Ready; cpu = cpu_given (value ∷ []) word child.cpu; table = started.table }
  pub processes : all2.processes ≡ with_caller (with_caller all.processes place after) at_place started
  pub objects : all2.objects ≡ starting all.objects child.pid
  pub blocked : all2.blocked ≡ all.blocked

-- the handle of the process at the place closed, if there was one, and nothing else changed
pub record ClosesHandle (all : Reach) (place h : ℕ) (all2 : Reach) : Type 0 where
  pub caller : Process
  pub after : Process
  pub is_caller : IsCaller all place caller after
  pub closes : ClosesEach (h ∷ []) caller.table all.objects after.table all2.objects
  pub processes : all2.processes ≡ with_caller all.processes place after
  pub blocked : all2.blocked ≡ all.blocked

-- process_start by the process at the place; where it is refused the handle closes
abbrev pub ProcessStartDoes : Library → (place process h word : ℕ) → (caller : Process) → Reach → Result ⊤ Status → Reach → Type 0
ProcessStartDoes lib place process h word caller all =
    Tries (λ _. StartsProcess lib all place process h word) (ClosesHandle all place h) wants_memory (start_refusal lib all.processes caller.table.entries process h)

-- ---- task_kill

-- the answer of task_kill other than OK
abbrev pub kill_refusal : Map Entry → (task : ℕ) → Option Status
kill_refusal entries task = result_err (looked_up entries task (kind.Process ∷ kind.Job ∷ []) DESTROY)

-- the process has ended by a kill, if the test passes
abbrev pub ended_if : Bool → Process → Process
ended_if killed p = if killed then record p { state = state.Ended KILLED } else p

-- a process that lives has ended, if it is the task or stands below it, and keeps its handles for now
abbrev pub ended_within : Objects → ℕ → Process → Process
ended_within r task p = ended_if (lives (state_value p.state) && is_within_here r.objects task p.pid) p

-- the handles of a process that is over closed, and its waits ended; of one that lives nothing changed
pub data ClosesEnded : Process → Objects → Process → Objects → Type 0 where
  lives_on : (p : Process) (r : Objects) → lives (state_value p.state) ≡ true → ClosesEnded p r p r
  is_over : (p p2 : Process) (r r2 : Objects) → lives (state_value p.state) ≡ false
      → p2 ≡ record p { table = p2.table } → p2.table.entries ≡ [] → p2.table.last ≡ None
      → Drained p.table.entries r r2 → EndsOwn p.pid p.table.entries r r2 → ClosesEnded p r p2 r2

-- the same of each process, one after another
pub data ClosesAllEnded : List Process → Objects → List Process → Objects → Type 0 where
  none_left : (r : Objects) → ClosesAllEnded [] r [] r
  one_more : (p p2 : Process) (ps ps2 : List Process) (r mid r2 : Objects)
      → ClosesEnded p r p2 mid → ClosesAllEnded ps mid ps2 r2 → ClosesAllEnded (p ∷ ps) r (p2 ∷ ps2) r2

-- the task was killed, and all that stands below it: jobs are dead, processes have ended, and their handles closed
pub record KillsTask (all : Reach) (task : ℕ) (all2 : Reach) : Type 0 where
  -- the objects, before handles close
  pub between : Objects
  pub marks : Releases [] (all_koids all.objects.objects) (killing all.objects task) between
  pub closes : ClosesAllEnded (map (ended_within all.objects task) all.processes) between all2.processes all2.objects
  -- those are left that are still blocked
  pub blocked : all2.blocked ≡ filter (λ k. state_passes is_blocked (get (map process_entry (map (ended_within all.objects task) all.processes)) k)) all.blocked
  pub listed : KeepsListed all.objects between

-- the task that the handle names was killed so
pub record KillsNamed (all : Reach) (caller : Process) (task : ℕ) (all2 : Reach) : Type 0 where
  pub named : Entry
  pub is_named : looked_up caller.table.entries task (kind.Process ∷ kind.Job ∷ []) DESTROY ≡ Ok named
  pub kills : KillsTask all named.koid all2

-- task_kill by the caller; it never wants memory, and where it is refused nothing changes
abbrev pub TaskKillDoes : (task : ℕ) → (caller : Process) → Reach → Result ⊤ Status → Reach → Type 0
TaskKillDoes task caller all = Tries (λ _. KillsNamed all caller task) (λ all2. all2 ≡ all) wants_nothing (kill_refusal caller.table.entries task)
