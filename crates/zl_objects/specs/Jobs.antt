-- The tree of jobs among the objects: what stands above, what stands below, and what a kill does.
use Rattle.std.specs.Prelude.{ℕ, zero, suc, Bool, true, false, not, ◌&&◌, ◌||◌, ◌==◌, List, map, Option, Some, None, Result, Ok, Err, if◌then◌else◌}
use Rattle.std.specs.List.{list_any, filter}
use Rattle.zl_rights.specs.Map.{Map, each, get, update}
use Rattle.zl_rights.specs.declared.policy.Action.{Action}
use Rattle.zl_rights.specs.declared.policy.Action.TheVariants as action
use Rattle.zl_rights.specs.declared.policy.Condition.{Condition}
use Rattle.zl_rights.specs.declared.policy.Mode.{Mode}
use Rattle.zl_rights.specs.declared.status.Status.{Status}
use Rattle.zl_rights.specs.Signals.{is_empty}
use Rattle.zl_policy.specs.Policies.{action_in, answer_of}
use Rattle.zl_jobs.specs.Jobs.{Job, MOST_LEVELS, killed_job, new_within, with_policy}
use Rattle.zl_jobs.specs.declared.job.JobFault.{JobFault}
use Rattle.zl_jobs.specs.declared.job.JobFault.TheVariants as fault
use Rattle.zl_objects.specs.declared.object.Body.{Body}
use Rattle.zl_objects.specs.declared.object.Body.TheVariants as body
use Rattle.zl_objects.specs.declared.object.Object.{Object}
use Rattle.zl_objects.specs.Objects.{Objects, is_alive, stopped_body}

-- ---- one job or process

-- the job, if it is one
abbrev pub as_job : Body → Option Job
as_job (body.Job job) = Some job
as_job _ = None

-- the job that was found
abbrev pub as_job_in : Option Object → Option Job
as_job_in None = None
as_job_in (Some o) = as_job o.body

-- the job k, if it is one
abbrev pub job_at : Map Object → ℕ → Option Job
job_at m k = as_job_in (get m k)

-- a job that was killed, or none
abbrev pub is_dead_here : Option Job → Bool
is_dead_here None = true
is_dead_here (Some job) = job.killed

-- how deep the job stands, 0 where there is none
abbrev pub depth_of : Option Job → ℕ
depth_of None = 0
depth_of (Some job) = job.depth

-- what the policy of the job decides for the condition; where there is none, everything is allowed
abbrev pub action_here : Option Job → Condition → Action
action_here None c = action.Allow
action_here (Some job) c = action_in job.policy c

-- anything is set in the policy of the job
abbrev pub has_actions : Option Job → Bool
has_actions None = false
has_actions (Some job) = not (is_empty job.policy)

-- what setting the policy of the job is answered; where there is none, nothing is refused
abbrev pub policy_answer : Option Job → Condition → Action → Mode → Result Unit Status
policy_answer None c a mode = Ok tt
policy_answer (Some job) c a mode = answer_of job.policy c a mode

-- a new job in the job k that was found, or why there may be none
abbrev pub new_in : ℕ → Option Job → Result Job JobFault
new_in k None = Err fault.BadState
new_in k (Some job) = new_within k job

-- a process that isn't over
abbrev pub lives_body : Body → Bool
lives_body (body.Process job l) = is_alive l
lives_body _ = false

-- the process that was found isn't over
abbrev pub lives_in : Option Object → Bool
lives_in None = false
lives_in (Some o) = lives_body o.body

-- ---- children

-- a living job directly below the job k
abbrev pub is_job_below_here : ℕ → Body → Bool
is_job_below_here k (body.Job job) = (job.parent == k) && not job.killed
is_job_below_here k _ = false

-- a living process of the job k
abbrev pub is_process_below : ℕ → Body → Bool
is_process_below k (body.Process job l) = (job == k) && is_alive l
is_process_below k _ = false

-- a living job stands directly below the job k
unfoldable pub has_job_below : Map Object → ℕ → Bool
has_job_below m k = list_any (λ e. is_job_below_here k e.1.body) m

-- a living process stands directly below the job k
unfoldable pub has_process_below : Map Object → ℕ → Bool
has_process_below m k = list_any (λ e. is_process_below k e.1.body) m

-- both
abbrev pub children : Map Object → ℕ → Bool × Bool
children m k = (has_job_below m k, has_process_below m k)

-- ---- levels

-- the job directly above a job or a process; 0, which is no koid, above all else
abbrev pub parent_held : Body → ℕ
parent_held (body.Job job) = job.parent
parent_held (body.Process job l) = job
parent_held _ = 0

-- the job directly above what was found
abbrev pub parent_found : Option Object → ℕ
parent_found None = 0
parent_found (Some o) = parent_held o.body

-- the job directly above k; 0 where there is none
abbrev pub parent_at : Map Object → ℕ → ℕ
parent_at m k = parent_found (get m k)

-- going up from k, at most so many times, one comes to the job
unfoldable pub is_below_by : Map Object → ℕ → ℕ → ℕ → Bool
is_below_by m job zero k = false
is_below_by m job (suc n) k = (parent_at m k == job) || is_below_by m job n (parent_at m k)

-- k stands below the job; 0 is no koid, so nothing stands below it
abbrev pub is_below : Map Object → ℕ → ℕ → Bool
is_below m job k = not (job == 0) && is_below_by m job MOST_LEVELS k

-- k is the job or stands below it; nothing is so for 0
abbrev pub is_within_here : Map Object → ℕ → ℕ → Bool
is_within_here m job k = not (job == 0) && ((k == job) || is_below m job k)

-- all that stands below the job, in the order of koids
unfoldable pub descendants : Map Object → ℕ → List ℕ
descendants m job = filter (is_below m job) (map (λ e. e.0) m)

-- ---- changes

-- a job with the action for the condition in its policy, unless one is set; nothing else changes
abbrev pub with_policy_body : Condition → Action → Body → Body
with_policy_body c a (body.Job job) = body.Job (with_policy c a job)
with_policy_body c a b = b

-- the object of such a job
abbrev pub with_policy_set : Condition → Action → Object → Object
with_policy_set c a o = record o { body = with_policy_body c a o.body }

-- the objects, where the policy of the job k has the action for the condition, unless one is set
abbrev pub setting_policy : Objects → ℕ → Condition → Action → Objects
setting_policy r k c a = record r { objects = update r.objects k (with_policy_set c a) }

-- what a kill makes of a job or a process; nothing else changes
abbrev pub killed_body : Body → Body
killed_body (body.Job job) = body.Job (killed_job job)
killed_body b = stopped_body b

-- its object
abbrev pub killed : Object → Object
killed o = record o { body = killed_body o.body }

-- the same, if that is wanted
abbrev pub killed_if : Bool → Object → Object
killed_if kills o = if kills then killed o else o

-- the objects, where k and all that stands below it was killed: jobs are killed, and processes have ended
unfoldable pub all_killed : Map Object → ℕ → Map Object
all_killed m k = each (λ j. killed_if (is_within_here m k j)) m

-- the same of all
abbrev pub killing : Objects → ℕ → Objects
killing r k = record r { objects = all_killed r.objects k }
