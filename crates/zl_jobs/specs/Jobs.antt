-- One job: where it stands, what it decides, and what may be made in it.
use Rattle.std.specs.Prelude.{ℕ, ◌+◌, Bool, true, false, nat_le, [], Result, Ok, Err, if◌then◌else◌}
use Rattle.zl_rights.specs.Map.{Map}
use Rattle.zl_rights.specs.declared.policy.Action.{Action}
use Rattle.zl_rights.specs.declared.policy.Condition.{Condition}
use Rattle.zl_policy.specs.Policies.{policy_set}
use Rattle.zl_jobs.specs.declared.job.JobFault.{JobFault}
use Rattle.zl_jobs.specs.declared.job.JobFault.TheVariants as fault

-- a job: the koid of the job directly above, 0 above the root job, how deep it stands, the actions that its policy
-- has set by the numbers of their conditions, and whether it was killed
pub record Job : Type 0 where
  pub parent : ℕ
  pub depth : ℕ
  pub policy : Map Action
  pub killed : Bool

-- the job above all others, in whose policy nothing is set
abbrev pub root_job : Job
root_job = record { parent = 0; depth = 1; policy = []; killed = false }

-- ---- a job in another

-- the most levels of jobs, one above the other
abbrev pub MOST_LEVELS : ℕ
MOST_LEVELS = 16

-- a job in this one would stand too deep
abbrev pub is_deepest_here : Job → Bool
is_deepest_here j = nat_le MOST_LEVELS j.depth

-- a new job in this one, which has the koid k, with its policy
abbrev pub job_within_here : ℕ → Job → Job
job_within_here k j = record { parent = k; depth = j.depth + 1; policy = j.policy; killed = false }

-- a new job in this one, which has the koid k, or why there may be none
abbrev pub new_within : ℕ → Job → Result Job JobFault
new_within k j =
    if is_deepest_here j then Err fault.OutOfRange else (if j.killed then Err fault.BadState else Ok (job_within_here k j))

-- ---- changes

-- the job, killed
abbrev pub killed_job : Job → Job
killed_job j = record j { killed = true }

-- the job with the action for the condition in its policy, unless one is set
abbrev pub with_policy : Condition → Action → Job → Job
with_policy c a j = record j { policy = policy_set j.policy c a }
