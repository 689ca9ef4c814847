-- The refusal of a call: the verdict of a policy, and behind it the refusal where no policy decides.
use Rattle.zl_calls.proofs.Common.{BY_POLICY, Body, Bool, Condition, Entry, Err, Library, List, Map, None, Object, Ok, Operand, Option, Outcome, Request}
use Rattle.zl_calls.proofs.Common.{Result, Some, Status, Verdict, World, [], action_here, ap, body_in, body_value, condition_number, condition_of, contains}
use Rattle.zl_calls.proofs.Common.{entry_at, examined, false, first_some, get, get_seen, granted, handle_operands, if◌then◌else◌, is_job_at, is_job_here}
use Rattle.zl_calls.proofs.Common.{is_job_in, job_at, job_in, job_of, listed, map, object_entry, object_value, on_fault_by, operand, operands_fault, option_map}
use Rattle.zl_calls.proofs.Common.{option_or, parent_of, policy_in, refl, result_err, subst, sym, table_of, true, true≢false, unwrap_or, verdict_by, verdict_in}
use Rattle.zl_calls.proofs.Common.{verdict_on, ℕ, ◌&&◌, ◌==◌, ◌∙◌, ◌∷◌, ◌≡◌}
use Rattle.zl_rights.specs.declared.policy.Action.TheVariants as action
use Rattle.zl_rights.specs.declared.policy.Condition.TheVariants as condition
use Rattle.zl_rights.specs.declared.status.Status.TheVariants as status
use Rattle.zl_code.proofs.Common.{Action, action_of, by_look_up, by_policy, creates, ends_if_kill, operand_after, parent_in, refusal, seen_after}
use Rattle.zl_code.proofs.Common.{unless_allowed}
use Rattle.zl_code.specs.declared.history.Outcome.TheVariants as outcome
use Rattle.zl_objects.specs.Jobs.{as_job, as_job_in}
use Rattle.zl_objects.specs.declared.object.Body.TheVariants as body
use Rattle.zl_calls.specs.Policed.{fault_after, on_making}
use Rattle.zl_calls.specs.declared.policy.Verdict.TheVariants as verdict
use Rattle.zl_calls.proofs.policy.Plain.{answers, plain_refusal}

-- ---- verdicts

-- how a verdict ends the call
abbrev pub ending : Verdict → Outcome
ending verdict.Denied = outcome.Answered status.AccessDenied
ending verdict.Killed = outcome.Ended BY_POLICY

-- the world has these objects, and the process p these handles; what is at p is no job, and nothing is at 0
pub record IsSeen (w : World) (p : ℕ) (entries : Map Entry) (objects : Map Object) : Type 0 where
  pub objects_are : w.objects ≡ map object_entry objects
  pub table_is : table_of w p ≡ entries
  pub no_job : is_job_at objects p ≡ false
  pub none_at_zero : get objects 0 ≡ None

-- ---- faults and objects, where conditions are decided so

-- a fault of a handle operand, or the end of the caller for it
abbrev pub by_fault : (Condition → Action) → Option Status → Option Outcome
by_fault decides None = None
by_fault decides (Some status.BadHandle) = Some (ends_if_kill (decides condition.BadHandle) (outcome.Answered status.BadHandle))
by_fault decides (Some status.WrongType) = Some (ends_if_kill (decides condition.WrongObject) (outcome.Answered status.WrongType))
by_fault decides (Some s) = Some (outcome.Answered s)

-- how a call ends for making an object, if it does
abbrev pub by_making : (Condition → Action) → Option Condition → Option Outcome
by_making decides None = None
by_making decides (Some c) = unless_allowed (decides c)

first_fault : (decides : Condition → Action) (f g : Option Status)
    → first_some (by_fault decides f ∷ by_fault decides g ∷ []) ≡ by_fault decides (option_or f g)
first_fault decides None g = alone (by_fault decides g)
  where
    alone : (o : Option Outcome) → first_some (o ∷ []) ≡ o
    alone None = refl
    alone (Some x) = refl
first_fault decides (Some status.BadHandle) g = refl
first_fault decides (Some status.WrongType) g = refl
first_fault decides (Some _) g = refl

-- what isn't faulted by the definitions has no fault
unfaulted : (decides : Condition → Action) (f : Option Status) → by_fault decides f ≡ None → f ≡ None
unfaulted decides None none = refl
unfaulted decides (Some status.BadHandle) none = cc
unfaulted decides (Some status.WrongType) none = cc
unfaulted decides (Some _) none = cc

-- what may be made has no verdict
unmade : (decides : Condition → Action) (c : Option Condition) → by_making decides c ≡ None → verdict_by decides None c ≡ None
unmade decides None none = refl
unmade decides (Some c) none = by_action (decides c) none
  where
    by_action : (a : Action) → unless_allowed a ≡ None → on_making a ≡ None
    by_action action.Allow none = refl
    by_action _ none = cc

-- a verdict, or what is left of the refusal
pub by_verdict : (decides : Condition → Action) (f : Option Status) (c : Option Condition) (rest : List (Option Outcome))
    → first_some (by_fault decides f ∷ by_making decides c ∷ rest) ≡ option_or (option_map ending (verdict_by decides f c)) (first_some (answers f ∷ rest))
by_verdict decides None None rest = refl
by_verdict decides None (Some c) rest = by_action (decides c)
  where
    by_action : (a : Action) → first_some (None ∷ unless_allowed a ∷ rest) ≡ option_or (option_map ending (on_making a)) (first_some (None ∷ rest))
    by_action action.Allow = refl
    by_action _ = refl
by_verdict decides (Some status.BadHandle) c rest = by_kill (decides condition.BadHandle) status.BadHandle
  where
    by_kill : (a : Action) (s : Status) → Some (ends_if_kill a (outcome.Answered s)) ≡ option_or (option_map ending (on_fault_by a)) (Some (outcome.Answered s))
    by_kill action.Allow s = refl
    by_kill _ s = refl
by_verdict decides (Some status.WrongType) c rest = by_kill (decides condition.WrongObject) status.WrongType
  where
    by_kill : (a : Action) (s : Status) → Some (ends_if_kill a (outcome.Answered s)) ≡ option_or (option_map ending (on_fault_by a)) (Some (outcome.Answered s))
    by_kill action.Allow s = refl
    by_kill _ s = refl
by_verdict decides (Some _) c rest = refl

-- ---- what the definitions examine

module _ (w : World) (p : ℕ) where
  -- the policy of the process's job, as the definitions see it
  abbrev pub decides : Condition → Action
  decides c = action_of w (parent_of w p) c

  look_up_fault : (x : Result Entry Status) → by_look_up w p x ≡ by_fault decides (result_err x)
  look_up_fault (Ok e) = refl
  look_up_fault (Err status.BadHandle) = refl
  look_up_fault (Err status.WrongType) = refl
  look_up_fault (Err _) = refl

  operand_fault : (seen : List ℕ) (o : Operand) → operand_after w p seen o ≡ by_fault decides (fault_after (table_of w p) seen o)
  unfolding operand
  operand_fault seen o = by_tests (o.may_be_zero && (o.value == 0)) (o.is_taken && contains seen o.value)
    where
      by_tests : (a b : Bool) → (if a then None else (if b then Some (ends_if_kill (decides condition.BadHandle) (outcome.Answered status.BadHandle))
          else by_look_up w p (granted (entry_at w p o.value) o.kinds o.needed)))
          ≡ by_fault decides (if a then None else (if b then Some status.BadHandle else result_err (granted (entry_at w p o.value) o.kinds o.needed)))
      by_tests true b = refl
      by_tests false true = refl
      by_tests false false = look_up_fault (granted (entry_at w p o.value) o.kinds o.needed)

  pub examined_fault : (seen : List ℕ) (os : List Operand) → examined w p seen os ≡ by_fault decides (operands_fault (table_of w p) seen os)
  unfolding examined operands_fault
  examined_fault seen [] = refl
  examined_fault seen (o ∷ os) =
      (λ i. first_some (operand_fault seen o i ∷ examined_fault (seen_after seen o) os i ∷ []))
      ∙ first_fault decides (fault_after (table_of w p) seen o) (operands_fault (table_of w p) (seen_after seen o) os)

  pub policy_making : (c : Option Condition) → by_policy w p c ≡ by_making decides c
  unfolding creates
  policy_making None = refl
  policy_making (Some c) = refl

-- ---- the policy of the job of a process

-- how the job decides, if there is one
abbrev decides_in : Map Object → Option ℕ → Condition → Action
decides_in objects None c = action.Allow
decides_in objects (Some job) c = action_here (job_at objects job) c

-- where everything is allowed, there is no verdict
pub verdict_allowed : (f : Option Status) (c : Option Condition) → verdict_by (λ _. action.Allow) f c ≡ None
verdict_allowed None None = refl
verdict_allowed None (Some c) = refl
verdict_allowed (Some status.BadHandle) c = refl
verdict_allowed (Some status.WrongType) c = refl
verdict_allowed (Some _) c = refl

verdict_decided : (objects : Map Object) (job : Option ℕ) (f : Option Status) (c : Option Condition)
    → verdict_by (decides_in objects job) f c ≡ verdict_in objects job f c
verdict_decided objects (Some job) f c = refl
verdict_decided objects None f c = verdict_allowed f c

-- the action of an object that was found
pub seen_action : (o : Option Object) (c : Condition)
    → unwrap_or (get (policy_in (body_in (option_map object_value o))) (condition_number c)) action.Allow ≡ action_here (as_job_in o) c
unfolding get
seen_action None c = refl
seen_action (Some o) c = by_body o.body
  where
    by_body : (b : Body) → unwrap_or (get (policy_in (Some (body_value b))) (condition_number c)) action.Allow ≡ action_here (as_job b) c
    by_body (body.Job job) = refl
    by_body _ = refl

module _ (w : World) (p : ℕ) (entries : Map Entry) (objects : Map Object) (seen : IsSeen w p entries objects) where
  found : (k : ℕ) → get w.objects k ≡ option_map object_value (get objects k)
  found k = ap (λ m. get m k) seen.objects_are ∙ get_seen objects k

  action_seen : (k : ℕ) (c : Condition) → action_of w k c ≡ action_here (job_at objects k) c
  action_seen k c = rw (found k) (seen_action (get objects k) c)

  parent_seen : parent_of w p ≡ unwrap_or (job_in (get objects p)) 0
  parent_seen = rw (found p) (by_object (get objects p) seen.no_job)
    where
      by_body : (b : Body) → is_job_here b ≡ false → parent_in (Some (body_value b)) ≡ unwrap_or (job_of b) 0
      by_body (body.Job job) free = absurd (true≢false free)
      by_body (body.Process job life) free = refl
      by_body _ free = refl

      by_object : (o : Option Object) → is_job_in o ≡ false → parent_in (body_in (option_map object_value o)) ≡ unwrap_or (job_in o) 0
      by_object None free = refl
      by_object (Some o) free = by_body o.body free

  decided : (c : Condition) → decides w p c ≡ decides_in objects (job_in (get objects p)) c
  decided c = ap (λ k. action_of w k c) parent_seen ∙ by_job (job_in (get objects p))
    where
      by_job : (job : Option ℕ) → action_of w (unwrap_or job 0) c ≡ decides_in objects job c
      by_job None = action_seen 0 c ∙ rw seen.none_at_zero refl
      by_job (Some job) = action_seen job c

module _ (lib : Library) (w : World) (p : ℕ) (entries : Map Entry) (objects : Map Object) (seen : IsSeen w p entries objects) (request : Request) where
  -- what the definitions find, and decide for it
  abbrev fault : Option Status
  fault = operands_fault (table_of w p) [] (handle_operands request)

  same_verdict : verdict_by (decides w p) fault (condition_of request) ≡ verdict_on entries objects p request
  same_verdict =
      (λ i. verdict_by (λ c. decided w p entries objects seen c i) fault (condition_of request))
      ∙ (verdict_decided objects (job_in (get objects p)) fault (condition_of request)
      ∙ ap (λ t. verdict_in objects (job_in (get objects p)) (operands_fault t [] (handle_operands request)) (condition_of request)) seen.table_is)

  -- the verdict comes first, and the plain refusal behind it
  pub refused_by : refusal lib w p request ≡ option_or (option_map ending (verdict_on entries objects p request)) (plain_refusal lib w p request)
  unfolding refusal plain_refusal
  refused_by =
      (λ i. first_some (examined_fault w p [] (handle_operands request) i ∷ policy_making w p (condition_of request) i ∷ listed lib w p request))
      ∙ (by_verdict (decides w p) fault (condition_of request) (listed lib w p request)
      ∙ ap (λ v. option_or (option_map ending v) (first_some (answers fault ∷ listed lib w p request))) same_verdict)

  -- where no policy has a verdict, the refusal is that without policies
  pub unpoliced : verdict_on entries objects p request ≡ None → refusal lib w p request ≡ plain_refusal lib w p request
  unpoliced none = refused_by ∙ ap (λ v. option_or (option_map ending v) (plain_refusal lib w p request)) none

  -- and a verdict is the refusal
  pub policed : (v : Verdict) → verdict_on entries objects p request ≡ Some v → refusal lib w p request ≡ Some (ending v)
  policed v is = refused_by ∙ ap (λ x. option_or (option_map ending x) (plain_refusal lib w p request)) is

  -- where the definitions find neither a fault nor what a policy forbids, there is none, and no verdict
  module _ (passes : examined w p [] (handle_operands request) ≡ None) (allowed : by_policy w p (condition_of request) ≡ None) where
    no_fault : fault ≡ None
    no_fault = unfaulted (decides w p) fault (sym (examined_fault w p [] (handle_operands request)) ∙ passes)

    pub faultless : operands_fault entries [] (handle_operands request) ≡ None
    faultless = subst (λ t. operands_fault t [] (handle_operands request) ≡ None) seen.table_is no_fault

    pub unjudged : verdict_on entries objects p request ≡ None
    unjudged =
        sym same_verdict ∙ (ap (λ f. verdict_by (decides w p) f (condition_of request)) no_fault
        ∙ unmade (decides w p) (condition_of request) (sym (policy_making w p (condition_of request)) ∙ allowed))
