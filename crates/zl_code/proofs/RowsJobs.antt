-- Each cause of the calls on jobs and processes, by computation in small worlds.
use Rattle.zl_code.specs.Image.{blank_image}
use Rattle.zl_code.proofs.Common.{Action, Body, Bool, CallName, Choice, Condition, Created, Gone, JobBody, Library, MANAGE_JOB, MANAGE_PROCESS, Map, None}
use Rattle.zl_code.proofs.Common.{Outcome, ProcessBody, Program, Request, Site, Some, Values, Wants, World, [], body_of, close, condition_number}
use Rattle.zl_code.proofs.Common.{default_rights_of, entry_at, false, get, job_create, negsuc, process_create, refl, refusal, replicate, site, true, ℕ, ◌^◌}
use Rattle.zl_code.proofs.Common.{◌∷◌, ◌≡◌}
use Rattle.zl_rights.specs.declared.kind.Kind.TheVariants as kind
use Rattle.zl_rights.specs.declared.status.Status.TheVariants as status
use Rattle.zl_rights.specs.declared.policy.Action.TheVariants as action
use Rattle.zl_rights.specs.declared.policy.Condition.TheVariants as condition
use Rattle.zl_code.specs.declared.history.CallName.TheVariants as name
use Rattle.zl_code.specs.declared.history.Outcome.TheVariants as outcome
use Rattle.zl_code.specs.declared.history.TraceItem.TheVariants as item
use Rattle.zl_code.proofs.Running.{Acted, call_by, computing, settle_by}
use Rattle.zl_code.proofs.RowsWords.{Refuses, Passes, world_of, process_of, entry_of, event_with, job_with, FIRST_RIGHTS, times, told, after, state_of, turn_of}

-- ---- the words of the rows

-- the rights of the first handle to a job
abbrev JOB_RIGHTS : ℕ
JOB_RIGHTS = default_rights_of kind.Job

-- process 2 in job 1, with all rights to job 4, which is this body
abbrev beside_job : Body → World
beside_job = λ b. record (world_of [] (process_of (9 ∷ 7 ∷ 9 ∷ []) ((7, entry_of kind.Job 4 JOB_RIGHTS) ∷ []) None)) {
  objects =
      (1, record { body = JobBody 0 1 [] false; raised = 0 })
      ∷ (2, record { body = ProcessBody 1; raised = 0 })
      ∷ (4, record { body = b; raised = 0 })
      ∷ [];
  next_koid = 5;
}

-- a job in job 1 that may not make events
abbrev denying : Map Action
denying = (condition_number condition.NewEvent, action.Deny) ∷ []

-- ---- job_create

-- by the handle at the value 7; the status goes to register 0, the new handle to register 2
abbrev creating : Site
creating = site (job_create 7) [] (0 ∷ 2 ∷ [])

rows_of_job_create :
    -- The value 5 isn't live.
    (Refuses (beside_job (JobBody 1 2 [] false)) (job_create 5) (outcome.Answered status.BadHandle))
    -- The handle names an event.
    × (Refuses (world_of [] (process_of [] ((7, event_with FIRST_RIGHTS) ∷ []) None)) (job_create 7) (outcome.Answered status.WrongType))
    -- The handle has no right to make jobs.
    × (Refuses (world_of [] (process_of [] ((7, job_with 0xd003) ∷ []) None)) (job_create 7) (outcome.Answered status.AccessDenied))
    -- That right alone will do.
    × (Passes (world_of [] (process_of [] ((7, job_with MANAGE_JOB) ∷ []) None)) (job_create 7))
    -- There are 16 levels of jobs.
    × (Passes (beside_job (JobBody 3 15 [] false)) (job_create 7))
    × (Refuses (beside_job (JobBody 3 16 [] false)) (job_create 7) (outcome.Answered status.OutOfRange))
    -- The depth comes first, then whether the job lives.
    × (Refuses (beside_job (JobBody 3 16 [] true)) (job_create 7) (outcome.Answered status.OutOfRange))
    × (Refuses (beside_job (JobBody 1 2 [] true)) (job_create 7) (outcome.Answered status.BadState))
    -- A dead job comes before a full table.
    × (Refuses (record (beside_job (JobBody 1 2 [] true)) { next_koid = 2 ^ 62 }) (job_create 7) (outcome.Answered status.BadState))
    -- The table is full.
    × (Refuses (world_of [] (process_of [] (times 1024 (job_with JOB_RIGHTS)) None)) (job_create 7) (outcome.Answered status.NoResources))
    -- No koid is left.
    × (Refuses (record (beside_job (JobBody 1 2 [] false)) { next_koid = 2 ^ 62 }) (job_create 7) (outcome.Answered status.NoResources))
    -- The new handle goes to its register.
    × (told (turn_of 2 name.JobCreate creating (beside_job (JobBody 1 2 [] false)) (Values (8 ∷ [])))
    ≡ Some (item.Call 2 name.JobCreate (outcome.Answered status.Ok), 0 ∷ 7 ∷ 8 ∷ 0 ∷ 0 ∷ 0 ∷ []))
    -- It may want memory.
    × (told (turn_of 2 name.JobCreate creating (beside_job (JobBody 1 2 [] false)) (Wants status.NoMemory))
    ≡ Some (item.Call 2 name.JobCreate (outcome.Answered status.NoMemory), 4 ∷ 7 ∷ 0 ∷ 0 ∷ 0 ∷ 0 ∷ []))
unfolding computing
rows_of_job_create = (refl, refl, refl, refl, refl, refl, refl, refl, refl, refl, refl, refl, refl)

-- the world after it
abbrev with_child : World
with_child = after (beside_job (JobBody 1 2 denying false)) (turn_of 2 name.JobCreate creating (beside_job (JobBody 1 2 denying false)) (Values (8 ∷ [])))

rows_of_job_create_2 :
    -- The new job stands one level below, and has the policy of the job above.
    (body_of with_child 5 ≡ Some (JobBody 4 3 denying false))
    -- Its handle has the rights of a first handle.
    × (entry_at with_child 2 8 ≡ Some (entry_of kind.Job 5 JOB_RIGHTS))
unfolding computing
rows_of_job_create_2 = (refl, refl)

-- ---- process_create

-- program 0 is raw, program 1 checked; both of them need to make events
abbrev library : Library
library = program_that false ∷ program_that true ∷ []
  where
    program_that : Bool → Program
    program_that checked =
        record { checked = checked; image = record blank_image { raw = true; memory = 3; needs = condition.NewEvent ∷ [] } }

-- process 2 of the world is refused so, where these programs are there
abbrev RefusesIn : World → Request → Outcome → Type 0
RefusesIn w request answer = refusal library w 2 request ≡ Some answer

-- it isn't
abbrev PassesIn : World → Request → Type 0
PassesIn w request = refusal library w 2 request ≡ None

-- process 2 does the call at these registers, where these programs are there
abbrev turn_in : CallName → Site → World → Choice → Acted
turn_in call s w choice = settle_by 4 (call_by library w 2 call s choice (refusal library w 2 s.request))

-- by the handle at the value 7; the status goes to register 0, the new handle to register 2
abbrev making : ℕ → Site
making = λ program. site (process_create 7 program) [] (0 ∷ 2 ∷ [])

-- process 2 in a job with this policy, with all rights to job 4, in which nothing is set
abbrev caller_under : Condition → Action → World
caller_under = λ c a. record (beside_job (JobBody 1 2 [] false)) {
  objects =
      (1, record { body = JobBody 0 1 ((condition_number c, a) ∷ []) false; raised = 0 })
      ∷ (2, record { body = ProcessBody 1; raised = 0 })
      ∷ (4, record { body = JobBody 1 2 [] false; raised = 0 })
      ∷ [];
}

rows_of_process_create :
    -- The value 5 isn't live.
    (RefusesIn (beside_job (JobBody 1 2 [] false)) (process_create 5 0) (outcome.Answered status.BadHandle))
    -- The handle names an event.
    × (RefusesIn (world_of [] (process_of [] ((7, event_with FIRST_RIGHTS) ∷ []) None)) (process_create 7 0) (outcome.Answered status.WrongType))
    -- The handle has no right to make processes.
    × (RefusesIn (world_of [] (process_of [] ((7, job_with MANAGE_JOB) ∷ []) None)) (process_create 7 0) (outcome.Answered status.AccessDenied))
    -- That right alone will do.
    × (PassesIn (world_of [] (process_of [] ((7, job_with MANAGE_PROCESS) ∷ []) None)) (process_create 7 0))
    -- The policy of the caller's job denies it, before anything that is listed.
    × (RefusesIn (caller_under condition.NewProcess action.Deny) (process_create 7 2) (outcome.Answered status.AccessDenied))
    -- Or it kills for it.
    × (RefusesIn (caller_under condition.NewProcess action.Kill) (process_create 7 2) (outcome.Ended (negsuc 1025)))
    -- There is no program 2, which comes before the dead job.
    × (RefusesIn (beside_job (JobBody 1 2 [] true)) (process_create 7 2) (outcome.Answered status.InvalidArgs))
    -- A dead job comes before its policy.
    × (RefusesIn (beside_job (JobBody 1 2 denying true)) (process_create 7 1) (outcome.Answered status.BadState))
    -- What the checked program needs is denied in the job, which comes before the koids.
    × (RefusesIn (record (beside_job (JobBody 1 2 denying false)) { next_koid = 2 ^ 62 }) (process_create 7 1) (outcome.Answered status.NotSupported))
    -- The needs of the raw program are ignored.
    × (PassesIn (beside_job (JobBody 1 2 denying false)) (process_create 7 0))
    -- The policy of the caller's own job doesn't decide what is needed.
    × (PassesIn (caller_under condition.NewEvent action.Deny) (process_create 7 1))
    -- No koid is left.
    × (RefusesIn (record (beside_job (JobBody 1 2 [] false)) { next_koid = 2 ^ 62 }) (process_create 7 1) (outcome.Answered status.NoResources))
    -- The table is full.
    × (RefusesIn (world_of [] (process_of [] (times 1024 (job_with JOB_RIGHTS)) None)) (process_create 7 0) (outcome.Answered status.NoResources))
    -- The new handle goes to its register.
    × (told (turn_in name.ProcessCreate (making 0) (beside_job (JobBody 1 2 [] false)) (Values (8 ∷ [])))
    ≡ Some (item.Call 2 name.ProcessCreate (outcome.Answered status.Ok), 0 ∷ 7 ∷ 8 ∷ 0 ∷ 0 ∷ 0 ∷ []))
    -- It may want memory.
    × (told (turn_in name.ProcessCreate (making 0) (beside_job (JobBody 1 2 [] false)) (Wants status.NoMemory))
    ≡ Some (item.Call 2 name.ProcessCreate (outcome.Answered status.NoMemory), 4 ∷ 7 ∷ 0 ∷ 0 ∷ 0 ∷ 0 ∷ []))
    -- No place is ever wanted: the listed test tells whether there is one.
    × (told (turn_in name.ProcessCreate (making 0) (beside_job (JobBody 1 2 [] false)) (Wants status.NoResources)) ≡ None)
unfolding computing
rows_of_process_create = (refl, refl, refl, refl, refl, refl, refl, refl, refl, refl, refl, refl, refl, refl, refl, refl)

-- the world after it
abbrev with_created : World
with_created = after (beside_job (JobBody 1 2 [] false)) (turn_in name.ProcessCreate (making 1) (beside_job (JobBody 1 2 [] false)) (Values (8 ∷ [])))

-- the world after its handle was closed
abbrev dropped : World
dropped = after with_created (turn_of 2 name.Close (site (close 8) [] (0 ∷ [])) with_created (Values []))

rows_of_process_create_2 :
    -- The new process stands in the job, and hasn't started.
    (body_of with_created 5 ≡ Some (ProcessBody 4))
    × (state_of with_created 5 ≡ Some Created)
    -- It has the memory that its program asks for, and its registers are 0.
    × (get with_created.processes 5
    ≡ Some (record {
      program = 1;
      cpu = record { counter = 0; registers = replicate 32 0; memory = 0 ∷ 0 ∷ 0 ∷ []; slots = []; counters = [] };
      state = Created;
      handles = [];
      last = None;
    }))
    -- Its handle has the rights of a first handle.
    × (entry_at with_created 2 8 ≡ Some (entry_of kind.Process 5 (default_rights_of kind.Process)))
    -- Without a handle to it, it is gone.
    × (state_of dropped 5 ≡ Some Gone)
    × (body_of dropped 5 ≡ None)
unfolding computing
rows_of_process_create_2 = (refl, refl, refl, refl, refl, refl)
