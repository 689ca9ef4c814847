-- What calls on jobs do: job_create and job_set_policy. No public clause cites this module.
use Rattle.std.specs.Prelude.{ℕ, ◌≡◌, Bool, ◌||◌, [], ◌∷◌, Option, Some, None, Result, Ok, Err, ⊤}
use Rattle.std.specs.Bool.{then_some}
use Rattle.std.specs.Option.{option_or}
use Rattle.std.specs.Result.{result_err}
use Rattle.zl_code.specs.Common.{Map}
use Rattle.zl_rights.specs.LookUp.{looked_up}
use Rattle.zl_rights.specs.Numbers.{MANAGE_JOB, SET_POLICY}
use Rattle.zl_rights.specs.Policies.{Setting as SettingValue, setting_of}
use Rattle.zl_rights.specs.declared.entry.Entry.{Entry}
use Rattle.zl_rights.specs.declared.kind.Kind.TheVariants as kind
use Rattle.zl_rights.specs.declared.status.Status.{Status}
use Rattle.zl_rights.specs.declared.status.Status.TheVariants as status
use Rattle.zl_jobs.specs.Jobs.{Job}
use Rattle.zl_jobs.specs.declared.job.JobFault.{JobFault}
use Rattle.zl_jobs.specs.declared.job.JobFault.TheVariants as fault
use Rattle.zl_objects.specs.Jobs.{has_job_below, has_process_below, is_dead_here, job_at, new_in, policy_answer, setting_policy}
use Rattle.zl_objects.specs.Objects.{Objects}
use Rattle.zl_objects.specs.declared.object.Body.TheVariants as body
use Rattle.zl_objects.specs.declared.object.Object.{Object}
use Rattle.zl_table.specs.Table.{Handles}
use Rattle.zl_calls.specs.declared.calls.job.Setting.{Setting}
use Rattle.zl_calls.specs.calls.Answer.{Does, wants_nothing, wants_memory}
use Rattle.zl_calls.specs.calls.Making.{MakesOne, room_refusal}

-- ---- job_create

-- the answer of a call that makes a job, where it may not stand there
abbrev pub fault_status : Result Job JobFault → Option Status
fault_status (Ok job) = None
fault_status (Err fault.OutOfRange) = Some status.OutOfRange
fault_status (Err fault.BadState) = Some status.BadState

-- the answer of job_create other than OK, where this look-up found the job above: depth comes before death, and both before room
abbrev pub job_refusal_of : Map Entry → Objects → Result Entry Status → Option Status
job_refusal_of entries r (Err s) = Some s
job_refusal_of entries r (Ok above) =
    option_or (fault_status (new_in above.koid (job_at r.objects above.koid))) (room_refusal entries r.next_koid)

-- the answer of job_create other than OK
abbrev pub job_refusal : Map Entry → Objects → ℕ → Option Status
job_refusal entries r value = job_refusal_of entries r (looked_up entries value (kind.Job ∷ []) MANAGE_JOB)

-- a handle to a new job, which stands in the job that the handle names, gets the value made
pub record CreatesJob (t : Handles) (r : Objects) (value made : ℕ) (t2 : Handles) (r2 : Objects) : Type 0 where
  pub unrefused : job_refusal t.entries r value ≡ None
  pub above : Entry
  pub is_above : looked_up t.entries value (kind.Job ∷ []) MANAGE_JOB ≡ Ok above
  pub child : Job
  pub is_child : new_in above.koid (job_at r.objects above.koid) ≡ Ok child
  pub makes : MakesOne (body.Job child) t r made t2 r2

-- job_create in the job of the handle at the value
abbrev pub JobCreateDoes : (value : ℕ) → Handles → Objects → Result ℕ Status → Handles → Objects → Type 0
JobCreateDoes value t r = Does (CreatesJob t r value) wants_memory (job_refusal t.entries r value) t r

-- ---- job_set_policy

-- what is set, as the definitions have it
abbrev pub setting_value : Setting → SettingValue
setting_value s = record { mode = s.mode; condition = s.condition; action = s.action }

-- a job or a process lives directly below the job
abbrev pub has_child_at : Map Object → ℕ → Bool
has_child_at objects job = has_job_below objects job || has_process_below objects job

-- the answer of job_set_policy other than OK, where this look-up found the job: numbers come before the state of the job, and that before conflicts
abbrev pub policy_refusal_of : Map Object → Option SettingValue → Result Entry Status → Option Status
policy_refusal_of objects s (Err f) = Some f
policy_refusal_of objects None (Ok job) = Some status.InvalidArgs
policy_refusal_of objects (Some s) (Ok job) =
    option_or (then_some (is_dead_here (job_at objects job.koid) || has_child_at objects job.koid) status.BadState)
    (result_err (policy_answer (job_at objects job.koid) s.condition s.action s.mode))

-- the answer of job_set_policy other than OK
abbrev pub policy_refusal : Map Entry → Map Object → (value mode condition action : ℕ) → Option Status
policy_refusal entries objects value mode condition action =
    policy_refusal_of objects (setting_of mode condition action) (looked_up entries value (kind.Job ∷ []) SET_POLICY)

-- the policy of the job that the handle names has the action, as far as nothing was set, and no handle changes
pub record SetsPolicy (t : Handles) (r : Objects) (value mode condition action : ℕ) (t2 : Handles) (r2 : Objects) : Type 0 where
  pub unrefused : policy_refusal t.entries r.objects value mode condition action ≡ None
  pub job : Entry
  pub is_job : looked_up t.entries value (kind.Job ∷ []) SET_POLICY ≡ Ok job
  pub setting : SettingValue
  pub is_setting : setting_of mode condition action ≡ Some setting
  pub table : t2 ≡ t
  pub objects : r2 ≡ setting_policy r job.koid setting.condition setting.action

-- job_set_policy of the job of the handle at the value; it never wants memory
abbrev pub JobSetPolicyDoes : (value mode condition action : ℕ) → Handles → Objects → Result ⊤ Status → Handles → Objects → Type 0
JobSetPolicyDoes value mode condition action t r =
    Does (λ _. SetsPolicy t r value mode condition action) wants_nothing (policy_refusal t.entries r.objects value mode condition action) t r
