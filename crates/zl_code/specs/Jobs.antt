-- Jobs and what stands in them, as calls see and change them; in words that name no call.
use Rattle.std.specs.Prelude.{ℕ, zero, suc, ◌+◌, Bool, true, false, not, ◌&&◌, ◌||◌, ◌==◌, nat_le, List, [], ◌∷◌, Option, Some, None, if◌then◌else◌}
use Rattle.std.specs.List.{list_any, filter}
use Rattle.std.specs.Option.{option_to_list}
use Rattle.zl_rights.specs.Common.{bits, within, Map, get, each, World, Process, Object, Body, JobBody}
use Rattle.zl_rights.specs.Numbers.{KILLED, takes}
use Rattle.zl_rights.specs.Policies.{Setting, conflicts, is_absolute, policy_set}
use Rattle.zl_rights.specs.Signals.{has_child_job, has_child_process}
use Rattle.zl_rights.specs.declared.entry.Entry.{Entry}
use Rattle.zl_rights.specs.declared.policy.Action.{Action}
use Rattle.zl_rights.specs.declared.policy.Action.TheVariants as action
use Rattle.zl_code.specs.declared.image.Start.{Start}
use Rattle.zl_code.specs.Image.{Program}
use Rattle.zl_code.specs.Tests.{action_of, body_in, parent_in, policy_in}
use Rattle.zl_code.specs.Effects.{process_ended}

-- ---- one job

-- the most levels of jobs, one above the other; the root job is the first
abbrev pub MOST_DEPTH : ℕ
MOST_DEPTH = 16

-- it is no job that lives
abbrev pub is_dead : Option Body → Bool
is_dead (Some (JobBody parent depth policy killed)) = killed
is_dead _ = true

-- how deep a job stands; nothing else has a depth
abbrev pub depth_in : Option Body → ℕ
depth_in (Some (JobBody parent depth policy killed)) = depth
depth_in _ = 0

-- a job below it would stand too deep
abbrev pub is_deepest : Option Body → Bool
is_deepest b = nat_le MOST_DEPTH (depth_in b)

-- a new job in the job k, with the policy of that
abbrev pub job_within : ℕ → Option Body → Body
job_within k above = JobBody k (depth_in above + 1) (policy_in above) false

-- ---- what a process needs of its job

-- it lets an object be made
abbrev pub is_allowing : Action → Bool
is_allowing action.Allow = true
is_allowing _ = false

-- the program is checked, and declares a need that the policy of the job k doesn't allow
abbrev pub lacks_need : World → ℕ → Option Program → Bool
lacks_need w k None = false
lacks_need w k (Some g) = g.checked && list_any (λ c. not (is_allowing (action_of w k c))) g.image.needs

-- ---- what a program declares

-- the handle is of the declared kind, with the declared rights at least
abbrev pub is_declared : Start → Entry → Bool
is_declared s e = takes (option_to_list s.kind) e.kind && within (bits s.rights) (bits e.rights)

-- the handle is the only one that is declared
abbrev pub is_only_start : List Start → Option Entry → Bool
is_only_start (s ∷ []) (Some e) = is_declared s e
is_only_start starts e = false

-- the program is checked, and doesn't declare this handle alone
abbrev pub misfits : Option Program → Option Entry → Bool
misfits None e = false
misfits (Some g) e = g.checked && not (is_only_start g.image.starts e)

-- ---- the policy of a job

-- a child of the job lives, a job or a process
abbrev pub has_child : World → ℕ → Bool
has_child w k = has_child_job w k || has_child_process w k

-- in its mode the setting is refused, as another action is set
abbrev pub is_conflict : Map Action → Option Setting → Bool
is_conflict policy None = false
is_conflict policy (Some s) = is_absolute s.mode && conflicts policy s.condition s.action

-- the policy with what is to be set, as far as nothing was
abbrev pub policy_after : Option Setting → Map Action → Map Action
policy_after None policy = policy
policy_after (Some s) policy = policy_set policy s.condition s.action

-- the job with such a policy
abbrev pub body_with_policy : Option Setting → Body → Body
body_with_policy s (JobBody parent depth policy killed) = JobBody parent depth (policy_after s policy) killed
body_with_policy s b = b

-- the object whose policy was set
abbrev pub policy_changed : Option Setting → Object → Object
policy_changed s o = record o { body = body_with_policy s o.body }

-- ---- what a kill ends

-- going up from k, at most so many times, one comes to t
unfoldable pub is_under_by : Map Object → ℕ → ℕ → ℕ → Bool
is_under_by objects t zero k = false
is_under_by objects t (suc n) k =
    (parent_in (body_in (get objects k)) == t) || is_under_by objects t n (parent_in (body_in (get objects k)))

-- k is t, or stands below it
unfoldable pub is_within : Map Object → ℕ → ℕ → Bool
is_within objects t k = (k == t) || is_under_by objects t MOST_DEPTH k

-- a job that was killed
abbrev pub body_killed : Body → Body
body_killed (JobBody parent depth policy killed) = JobBody parent depth policy true
body_killed b = b

-- the object, if it is among the killed
abbrev pub object_killed : Bool → Object → Object
object_killed killed o = if killed then record o { body = body_killed o.body } else o

-- the process, if it is among the killed
abbrev pub process_killed : Bool → Process → Process
process_killed killed q = if killed then process_ended KILLED q else q

-- the world where t is killed, and whatever stands below it
unfoldable pub with_killed : World → ℕ → World
with_killed w t = record w {
  processes = each (λ k q. process_killed (is_within w.objects t k) q) w.processes;
  objects = each (λ k o. object_killed (is_within w.objects t k) o) w.objects;
  blocked = filter (λ k. not (is_within w.objects t k)) w.blocked;
}
