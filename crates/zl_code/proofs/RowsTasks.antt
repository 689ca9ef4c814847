-- Each cause and effect of the calls that start, kill and set policies, by computation in small worlds.
use Rattle.zl_code.specs.Image.{blank_image}
use Rattle.zl_code.proofs.Common.{Blocked, Body, Bool, CallName, Choice, Created, DESTROY, Ended, Entry, JobBody, Library, List, Map, None, Outcome}
use Rattle.zl_code.proofs.Common.{Process, ProcessBody, Program, Ready, Refused, Request, SET_POLICY, SignalOf, Site, Some, Start, State, TRANSFER, Values}
use Rattle.zl_code.proofs.Common.{WRITE, Wants, World, [], action_number, body_of, condition_number, default_rights_of, entry_at, false, job_set_policy}
use Rattle.zl_code.proofs.Common.{mode_number, negsuc, process_start, refl, refusal, replicate, site, table_of, task_kill, true, ℕ, ◌∷◌, ◌≡◌}
use Rattle.zl_rights.specs.declared.kind.Kind.TheVariants as kind
use Rattle.zl_rights.specs.declared.status.Status.TheVariants as status
use Rattle.zl_rights.specs.declared.policy.Action.TheVariants as action
use Rattle.zl_rights.specs.declared.policy.Condition.TheVariants as condition
use Rattle.zl_rights.specs.declared.policy.Mode.TheVariants as mode
use Rattle.zl_code.specs.declared.history.CallName.TheVariants as name
use Rattle.zl_code.specs.declared.history.Outcome.TheVariants as outcome
use Rattle.zl_code.specs.declared.history.TraceItem.TheVariants as item
use Rattle.zl_code.proofs.Running.{Acted, call_by, computing, settle_by}
use Rattle.zl_code.proofs.RowsWords.{process_of, entry_of, event_with, FIRST_RIGHTS, told, after, state_of, registers_of, beside_event}

-- ---- the words of the rows

-- the rights of the first handles to a process and to a job
abbrev PROCESS_RIGHTS : ℕ
PROCESS_RIGHTS = default_rights_of kind.Process

abbrev JOB_RIGHTS : ℕ
JOB_RIGHTS = default_rights_of kind.Job

-- program 0 is raw; program 1 is checked, and declares one handle, to an event with the right to wait
abbrev library : Library
library = program_that false [] ∷ program_that true (record { kind = Some kind.Event; rights = record { 0 = 0x4000 } } ∷ []) ∷ []
  where
    program_that : Bool → List Start → Program
    program_that checked starts =
        record { checked = checked; image = record blank_image { raw = true; starts = starts } }

-- process 5, which is to run the program, in this state and with this table
abbrev child_of : ℕ → State → Map Entry → Process
child_of program state handles = record {
  program = program;
  cpu = record { counter = 0; registers = replicate 32 0; memory = []; slots = []; counters = [] };
  state = state;
  handles = handles;
  last = None;
}

-- Process 2 with this table in job 1, in which job 4 stands with this body; in that stands process 5; object 3 is an event.
abbrev family : Map Entry → Body → Process → World
family = λ handles b child. record {
  processes = (2, process_of (9 ∷ 7 ∷ 9 ∷ []) handles None) ∷ (5, child) ∷ [];
  objects = beside_event ((4, record { body = b; raised = 0 }) ∷ (5, record { body = ProcessBody 4; raised = 0 }) ∷ []);
  waits = [];
  blocked = [];
  next_koid = 6;
  waits_made = 0;
}

-- all handles that the rows need: 7 names process 5, 8 the event, 9 job 4, 10 job 1, 11 process 2
abbrev all_handles : Map Entry
all_handles =
    (7, entry_of kind.Process 5 PROCESS_RIGHTS) ∷ (8, event_with FIRST_RIGHTS) ∷ (9, entry_of kind.Job 4 JOB_RIGHTS)
    ∷ (10, entry_of kind.Job 1 JOB_RIGHTS) ∷ (11, entry_of kind.Process 2 PROCESS_RIGHTS) ∷ []

-- a job in job 1 in which nothing is set
abbrev child_job : Body
child_job = JobBody 1 2 [] false

abbrev created : World
created = family all_handles child_job (child_of 0 Created [])

-- process 2 is refused so, or isn't
abbrev RefusesIn : World → Request → Outcome → Type 0
RefusesIn w request answer = refusal library w 2 request ≡ Some answer

abbrev PassesIn : World → Request → Type 0
PassesIn w request = refusal library w 2 request ≡ None

-- process 2 does the call at these registers
abbrev turn_in : CallName → Site → World → Choice → Acted
turn_in call s w choice = settle_by 4 (call_by library w 2 call s choice (refusal library w 2 s.request))

-- ---- process_start

-- process 5 by the handle 7, with the handle h, which register 1 holds
abbrev starting : ℕ → Site
starting = λ h. site (process_start 7 h 77) (1 ∷ []) (0 ∷ [])

rows_of_process_start :
    -- The value 6 isn't live, as the process or as the handle; nor is 0.
    (RefusesIn created (process_start 6 8 77) (outcome.Answered status.BadHandle))
    × (RefusesIn created (process_start 7 6 77) (outcome.Answered status.BadHandle))
    × (RefusesIn created (process_start 7 0 77) (outcome.Answered status.BadHandle))
    -- The handle names an event.
    × (RefusesIn created (process_start 8 8 77) (outcome.Answered status.WrongType))
    -- The handle to the process has no right to start it; that right alone will do.
    × (RefusesIn (family ((7, entry_of kind.Process 5 DESTROY) ∷ (8, event_with FIRST_RIGHTS) ∷ []) child_job (child_of 0 Created [])) (process_start 7 8 77)
    (outcome.Answered status.AccessDenied))
    × (PassesIn (family ((7, entry_of kind.Process 5 WRITE) ∷ (8, event_with FIRST_RIGHTS) ∷ []) child_job (child_of 0 Created [])) (process_start 7 8 77))
    -- The handle that is given may not be transferred; that right alone will do.
    × (RefusesIn (family ((7, entry_of kind.Process 5 WRITE) ∷ (8, event_with 0x1000) ∷ []) child_job (child_of 0 Created [])) (process_start 7 8 77)
    (outcome.Answered status.AccessDenied))
    × (PassesIn (family ((7, entry_of kind.Process 5 WRITE) ∷ (8, event_with TRANSFER) ∷ []) child_job (child_of 0 Created [])) (process_start 7 8 77))
    -- It was started before, or it is over.
    × (RefusesIn (family all_handles child_job (child_of 0 Ready [])) (process_start 7 8 77) (outcome.Answered status.BadState))
    × (RefusesIn (family all_handles child_job (child_of 0 (Ended (negsuc 0)) [])) (process_start 7 8 77) (outcome.Answered status.BadState))
    -- The caller itself was started before.
    × (RefusesIn created (process_start 11 8 77) (outcome.Answered status.BadState))
    -- A checked program wants the handle that it declares: of its kind, with its rights at least.
    × (RefusesIn (family all_handles child_job (child_of 1 Created [])) (process_start 7 9 77) (outcome.Answered status.InvalidArgs))
    × (RefusesIn (family ((7, entry_of kind.Process 5 WRITE) ∷ (8, event_with TRANSFER) ∷ []) child_job (child_of 1 Created [])) (process_start 7 8 77)
    (outcome.Answered status.InvalidArgs))
    × (PassesIn (family all_handles child_job (child_of 1 Created [])) (process_start 7 8 77))
    -- The state comes first.
    × (RefusesIn (family all_handles child_job (child_of 1 Ready [])) (process_start 7 9 77) (outcome.Answered status.BadState))
    -- The handle to the process itself may go.
    × (PassesIn created (process_start 7 7 77))
unfolding computing
rows_of_process_start = (refl, refl, refl, refl, refl, refl, refl, refl, refl, refl, refl, refl, refl, refl, refl, refl)

-- the world after it, where the handle gets the value 30
abbrev started : World
started = after created (turn_in name.ProcessStart (starting 8) created (Values (30 ∷ [])))

rows_of_process_start_2 :
    -- The status is OK, and the register of the handle becomes 0.
    (told (turn_in name.ProcessStart (starting 8) created (Values (30 ∷ [])))
    ≡ Some (item.Call 2 name.ProcessStart (outcome.Answered status.Ok), 0 ∷ 0 ∷ 9 ∷ 0 ∷ 0 ∷ 0 ∷ []))
    -- The process is ready, has the value of the handle in register 0, and the word in register 1.
    × (state_of started 5 ≡ Some Ready)
    × (registers_of started 5 ≡ 30 ∷ 77 ∷ 0 ∷ 0 ∷ 0 ∷ 0 ∷ [])
    -- The handle is the child's, with its rights, and the caller's no more.
    × (entry_at started 5 30 ≡ Some (event_with FIRST_RIGHTS))
    × (entry_at started 2 8 ≡ None)
    -- Refused, the handle is gone too.
    × (entry_at (after created (turn_in name.ProcessStart (site (process_start 11 8 77) (1 ∷ []) (0 ∷ [])) created Refused)) 2 8 ≡ None)
    -- It may want memory; then the process isn't started.
    × (told (turn_in name.ProcessStart (starting 8) created (Wants status.NoMemory))
    ≡ Some (item.Call 2 name.ProcessStart (outcome.Answered status.NoMemory), 4 ∷ 0 ∷ 9 ∷ 0 ∷ 0 ∷ 0 ∷ []))
    × (state_of (after created (turn_in name.ProcessStart (starting 8) created (Wants status.NoMemory))) 5 ≡ Some Created)
    -- No place is ever wanted: the listed test tells whether there is one.
    × (told (turn_in name.ProcessStart (starting 8) created (Wants status.NoResources)) ≡ None)
unfolding computing
rows_of_process_start_2 = (refl, refl, refl, refl, refl, refl, refl, refl, refl)

-- ---- task_kill

-- by the handle h
abbrev killing : ℕ → Site
killing = λ h. site (task_kill h) [] (0 ∷ [])

rows_of_task_kill :
    (RefusesIn created (task_kill 6) (outcome.Answered status.BadHandle))
    × (RefusesIn created (task_kill 8) (outcome.Answered status.WrongType))
    × (RefusesIn (family ((7, entry_of kind.Process 5 WRITE) ∷ []) child_job (child_of 0 Created [])) (task_kill 7) (outcome.Answered status.AccessDenied))
    × (PassesIn (family ((7, entry_of kind.Process 5 DESTROY) ∷ []) child_job (child_of 0 Created [])) (task_kill 7))
unfolding computing
rows_of_task_kill = (refl, refl, refl, refl)

-- process 5 waits for the event, and has a handle to it
abbrev waiting_child : World
waiting_child =
    record (family all_handles child_job (child_of 0 (Blocked (SignalOf 3 8) (0 ∷ 1 ∷ [])) ((30, event_with FIRST_RIGHTS) ∷ []))) { blocked = 5 ∷ [] }

-- the world after a kill by the handle h
abbrev killed_by : ℕ → World → World
killed_by h w = after w (turn_in name.TaskKill (killing h) w (Values []))

rows_of_task_kill_2 :
    -- A created process ends with -1024.
    (told (turn_in name.TaskKill (killing 7) created (Values [])) ≡ Some (item.Call 2 name.TaskKill (outcome.Answered status.Ok), 0 ∷ 7 ∷ 9 ∷ 0 ∷ 0 ∷ 0 ∷ []))
    × (state_of (killed_by 7 created) 5 ≡ Some (Ended (negsuc 1023)))
    -- So does one that waits, which isn't blocked then, and has no handle.
    × (state_of (killed_by 7 waiting_child) 5 ≡ Some (Ended (negsuc 1023)))
    × ((killed_by 7 waiting_child).blocked ≡ [])
    × (table_of (killed_by 7 waiting_child) 5 ≡ [])
    -- Its job stays as it was.
    × (body_of (killed_by 7 waiting_child) 4 ≡ Some child_job)
    -- With its job it ends too, and the job is dead; the caller above goes on.
    × (state_of (killed_by 9 waiting_child) 5 ≡ Some (Ended (negsuc 1023)))
    × (body_of (killed_by 9 waiting_child) 4 ≡ Some (JobBody 1 2 [] true))
    × (body_of (killed_by 9 waiting_child) 1 ≡ Some (JobBody 0 1 [] false))
    × (state_of (killed_by 9 waiting_child) 2 ≡ Some Ready)
    -- What is over keeps its code.
    × (state_of (killed_by 7 (family all_handles child_job (child_of 0 (Ended (negsuc 0)) []))) 5 ≡ Some (Ended (negsuc 0)))
    -- The job above all ends everything, its caller too, and nothing is left.
    × (told (turn_in name.TaskKill (killing 10) waiting_child (Values []))
    ≡ Some (item.Call 2 name.TaskKill (outcome.Ended (negsuc 1023)), 9 ∷ 7 ∷ 9 ∷ 0 ∷ 0 ∷ 0 ∷ []))
    × (state_of (killed_by 10 waiting_child) 2 ≡ Some (Ended (negsuc 1023)))
    × (state_of (killed_by 10 waiting_child) 5 ≡ Some (Ended (negsuc 1023)))
    × ((killed_by 10 waiting_child).objects ≡ [])
    -- A process that kills itself ends alone.
    × (told (turn_in name.TaskKill (killing 11) created (Values []))
    ≡ Some (item.Call 2 name.TaskKill (outcome.Ended (negsuc 1023)), 9 ∷ 7 ∷ 9 ∷ 0 ∷ 0 ∷ 0 ∷ []))
    × (state_of (killed_by 11 waiting_child) 5 ≡ Some (Blocked (SignalOf 3 8) (0 ∷ 1 ∷ [])))
unfolding computing
rows_of_task_kill_2 = (refl, refl, refl, refl, refl, refl, refl, refl, refl, refl, refl, refl, refl, refl, refl, refl, refl)

-- ---- job_set_policy

-- the numbers of what is set
abbrev ABSOLUTE : ℕ
ABSOLUTE = mode_number mode.Absolute

abbrev RELATIVE : ℕ
RELATIVE = mode_number mode.Relative

abbrev DENY : ℕ
DENY = action_number action.Deny

abbrev ALLOW : ℕ
ALLOW = action_number action.Allow

abbrev EVENTS : ℕ
EVENTS = condition_number condition.NewEvent

abbrev ANY_NEW : ℕ
ANY_NEW = condition_number condition.NewAny

-- process 5 is over, so that nothing lives in job 4, which is this body
abbrev childless : Body → World
childless b = family all_handles b (child_of 0 (Ended (negsuc 0)) [])

-- a job in which events may not be made
abbrev denying : Body
denying = JobBody 1 2 ((EVENTS, action.Deny) ∷ []) false

-- the world after it
abbrev set_in : (j mode condition action : ℕ) → World → World
set_in = λ j m c a w. after w (turn_in name.JobSetPolicy (site (job_set_policy j m c a) [] (0 ∷ [])) w (Values []))

rows_of_job_set_policy :
    (RefusesIn (childless child_job) (job_set_policy 6 ABSOLUTE EVENTS DENY) (outcome.Answered status.BadHandle))
    × (RefusesIn (childless child_job) (job_set_policy 8 ABSOLUTE EVENTS DENY) (outcome.Answered status.WrongType))
    × (RefusesIn (family ((9, entry_of kind.Job 4 DESTROY) ∷ []) child_job (child_of 0 (Ended (negsuc 0)) [])) (job_set_policy 9 ABSOLUTE EVENTS DENY)
    (outcome.Answered status.AccessDenied))
    × (PassesIn (family ((9, entry_of kind.Job 4 SET_POLICY) ∷ []) child_job (child_of 0 (Ended (negsuc 0)) [])) (job_set_policy 9 ABSOLUTE EVENTS DENY))
    -- Unknown numbers of a mode, a condition and an action, which come before the state of the job.
    × (RefusesIn created (job_set_policy 9 2 EVENTS DENY) (outcome.Answered status.InvalidArgs))
    × (RefusesIn created (job_set_policy 9 ABSOLUTE 8 DENY) (outcome.Answered status.InvalidArgs))
    × (RefusesIn created (job_set_policy 9 ABSOLUTE EVENTS 3) (outcome.Answered status.InvalidArgs))
    -- A process that was only created lives in the job; a job lives in job 1.
    × (RefusesIn created (job_set_policy 9 ABSOLUTE EVENTS DENY) (outcome.Answered status.BadState))
    × (RefusesIn (childless child_job) (job_set_policy 10 ABSOLUTE EVENTS DENY) (outcome.Answered status.BadState))
    -- The job is dead.
    × (RefusesIn (childless (JobBody 1 2 [] true)) (job_set_policy 9 ABSOLUTE EVENTS DENY) (outcome.Answered status.BadState))
    -- Another action is set: a conflict, which only the mode RELATIVE leaves as it is.
    × (RefusesIn (childless denying) (job_set_policy 9 ABSOLUTE EVENTS ALLOW) (outcome.Answered status.AlreadyExists))
    × (RefusesIn (childless denying) (job_set_policy 9 ABSOLUTE ANY_NEW ALLOW) (outcome.Answered status.AlreadyExists))
    × (PassesIn (childless denying) (job_set_policy 9 RELATIVE EVENTS ALLOW))
    -- The same action once more is no conflict.
    × (PassesIn (childless denying) (job_set_policy 9 ABSOLUTE EVENTS DENY))
unfolding computing
rows_of_job_set_policy = (refl, refl, refl, refl, refl, refl, refl, refl, refl, refl, refl, refl, refl, refl)

rows_of_job_set_policy_2 :
    -- One condition is set.
    (body_of (set_in 9 ABSOLUTE EVENTS DENY (childless child_job)) 4 ≡ Some denying)
    -- What is set stays, and the other conditions are set beside it.
    × (body_of (set_in 9 RELATIVE EVENTS ALLOW (childless denying)) 4 ≡ Some denying)
    × (body_of (set_in 9 RELATIVE ANY_NEW ALLOW (childless denying)) 4
    ≡ Some (JobBody 1 2 ((3, action.Allow) ∷ (4, action.Deny) ∷ (5, action.Allow) ∷ (6, action.Allow) ∷ (7, action.Allow) ∷ []) false))
    -- A conflict sets nothing.
    × (body_of (after (childless denying) (turn_in name.JobSetPolicy (site (job_set_policy 9 ABSOLUTE ANY_NEW ALLOW) [] (0 ∷ [])) (childless denying) Refused))
    4 ≡ Some denying)
unfolding computing
rows_of_job_set_policy_2 = (refl, refl, refl, refl)
