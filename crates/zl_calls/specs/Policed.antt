-- What the policy of a job makes of a call of its process. No public clause cites this module.
use Rattle.std.specs.Prelude.{ℕ, ◌≡◌, ◌&&◌, ◌==◌, List, [], ◌∷◌, Option, Some, None, Err, if◌then◌else◌}
use Rattle.std.specs.Option.{option_or}
use Rattle.std.specs.Result.{result_err}
use Rattle.zl_code.specs.Common.{Map, get, Request, Site}
use Rattle.zl_code.specs.Refusals.{condition_of, handle_operands}
use Rattle.zl_code.specs.Operands.{Operand, contains, seen_after}
use Rattle.zl_code.specs.declared.history.Outcome.{Outcome}
use Rattle.zl_code.specs.declared.history.Outcome.TheVariants as outcome
use Rattle.zl_rights.specs.LookUp.{looked_up}
use Rattle.zl_rights.specs.Numbers.{BY_POLICY}
use Rattle.zl_rights.specs.declared.entry.Entry.{Entry}
use Rattle.zl_rights.specs.declared.policy.Action.{Action}
use Rattle.zl_rights.specs.declared.policy.Action.TheVariants as action
use Rattle.zl_rights.specs.declared.policy.Condition.{Condition}
use Rattle.zl_rights.specs.declared.policy.Condition.TheVariants as condition
use Rattle.zl_rights.specs.declared.status.Status.{Status}
use Rattle.zl_rights.specs.declared.status.Status.TheVariants as status
use Rattle.zl_objects.specs.Jobs.{action_here, job_at}
use Rattle.zl_objects.specs.Objects.{Objects, job_in}
use Rattle.zl_objects.specs.declared.object.Object.{Object}
use Rattle.zl_calls.specs.declared.policy.Verdict.{Verdict}
use Rattle.zl_calls.specs.declared.policy.Verdict.TheVariants as verdict
use Rattle.zl_calls.specs.declared.process.Process.{Process}
use Rattle.zl_calls.specs.calls.Answer.{IsTold, told_by, no_value}
use Rattle.zl_calls.specs.Acted.{Exits}

-- ---- handle operands, before a policy is asked

-- the fault of an operand, where the call has taken the values that were seen
abbrev pub fault_after : Map Entry → List ℕ → Operand → Option Status
fault_after entries seen o =
    if o.may_be_zero && (o.value == 0) then None
    else (if o.is_taken && contains seen o.value then Some status.BadHandle
    else result_err (looked_up entries o.value o.kinds o.needed))

-- the fault of the first operand that has one, from left to right
unfoldable pub operands_fault : Map Entry → List ℕ → List Operand → Option Status
operands_fault entries seen [] = None
operands_fault entries seen (o ∷ os) = option_or (fault_after entries seen o) (operands_fault entries (seen_after seen o) os)

-- ---- verdicts

-- the caller is killed, where this is the action for its fault
abbrev pub on_fault_by : Action → Option Verdict
on_fault_by action.Kill = Some verdict.Killed
on_fault_by _ = None

-- how a call ends with this fault, where the job decides on conditions so
abbrev pub on_fault : (Condition → Action) → Status → Option Verdict
on_fault decides status.BadHandle = on_fault_by (decides condition.BadHandle)
on_fault decides status.WrongType = on_fault_by (decides condition.WrongObject)
on_fault decides _ = None

-- how a call ends that makes an object, where this is the action for it
abbrev pub on_making : Action → Option Verdict
on_making action.Allow = None
on_making action.Deny = Some verdict.Denied
on_making action.Kill = Some verdict.Killed

-- how a policy ends a call with this fault of its operands, or this condition of its object
abbrev pub verdict_by : (Condition → Action) → Option Status → Option Condition → Option Verdict
verdict_by decides (Some fault) c = on_fault decides fault
verdict_by decides None None = None
verdict_by decides None (Some c) = on_making (decides c)

-- the same by the policy of the job in which the process is; without a job nothing ends
abbrev pub verdict_in : Map Object → Option ℕ → Option Status → Option Condition → Option Verdict
verdict_in objects None fault c = None
verdict_in objects (Some job) fault c = verdict_by (action_here (job_at objects job)) fault c

-- how the policy of the process's job ends the request, if it does
abbrev pub verdict_on : Map Entry → Map Object → (pid : ℕ) → Request → Option Verdict
verdict_on entries objects pid request =
    verdict_in objects (job_in (get objects pid)) (operands_fault entries [] (handle_operands request)) (condition_of request)

-- ---- what it does

-- the call of the site is answered ACCESS_DENIED, and nothing else changes
pub record IsDenied (s : Site) (p : Process) (r : Objects) (o : Outcome) (p2 : Process) (r2 : Objects) : Type 0 where
  pub ends : o ≡ outcome.Answered status.AccessDenied
  pub replied : IsTold s (told_by no_value (Err status.AccessDenied)) p p2
  pub table : p2.table ≡ p.table
  pub objects : r2 ≡ r

-- a call is answered ACCESS_DENIED, and nothing else changes; or its caller ends
abbrev pub EndsBy : Verdict → Site → Process → Objects → Outcome → Process → Objects → Type 0
EndsBy verdict.Denied s p r o p2 r2 = IsDenied s p r o p2 r2
EndsBy verdict.Killed s p r o p2 r2 = Exits BY_POLICY p r o p2 r2

-- the policy of the process's job ends the call of the site so
pub record Policed (s : Site) (p : Process) (r : Objects) (o : Outcome) (p2 : Process) (r2 : Objects) : Type 0 where
  pub verdict : Verdict
  pub is_verdict : verdict_on p.table.entries r.objects p.pid s.request ≡ Some verdict
  pub ends : EndsBy verdict s p r o p2 r2
