-- What a verdict makes of a call for the definitions: it is answered, or its caller ends.
use Rattle.zl_calls.proofs.Common.{BY_POLICY, Bool, Calls, Condition, Entry, Library, Map, None, Object, Option, Refused, Request, Site, Some, Status, Verdict}
use Rattle.zl_calls.proofs.Common.{World, [], action_here, ap, chan_create, chan_read_etc, condition_of, ended, false, get, gives_refused, handle_operands}
use Rattle.zl_calls.proofs.Common.{if◌then◌else◌, is_some, job_at, job_in, none-some, on_fault_by, operands_fault, refl, remove_all, replied, sym}
use Rattle.zl_calls.proofs.Common.{taken_handles, true, true≢false, verdict_by, verdict_in, verdict_on, wait_poll, ℕ, ◌∙◌, ◌≡◌}
use Rattle.zl_code.proofs.Common.{Action, refusal}
use Rattle.zl_rights.specs.declared.policy.Action.TheVariants as action
use Rattle.zl_rights.specs.declared.policy.Condition.TheVariants as condition
use Rattle.zl_rights.specs.declared.status.Status.TheVariants as status
use Rattle.zl_code.specs.declared.history.Outcome.TheVariants as outcome
use Rattle.zl_calls.specs.declared.policy.Verdict.TheVariants as verdict
use Rattle.zl_calls.proofs.policy.Policies.{ending}

-- ---- a verdict

abbrev is_denial : Option Verdict → Bool
is_denial (Some verdict.Denied) = true
is_denial _ = false

-- no fault is denied
undenied : (a : Action) → on_fault_by a ≡ Some verdict.Denied → ⊥
undenied action.Allow is = none-some _ is
undenied action.Deny is = none-some _ is
undenied action.Kill is = true≢false (sym (ap is_denial is))

-- just what makes an object is denied
denied_makes : (o : Condition → Action) (f : Option Status) (c : Option Condition) → verdict_by o f c ≡ Some verdict.Denied → (x : Condition) × (c ≡ Some x)
denied_makes o None None is = absurd (none-some _ is)
denied_makes o None (Some c) is = (c, refl)
denied_makes o (Some status.BadHandle) c is = absurd (undenied (o condition.BadHandle) is)
denied_makes o (Some status.WrongType) c is = absurd (undenied (o condition.WrongObject) is)
denied_makes o (Some _) c is = absurd (none-some _ is)

pub denied_object : (entries : Map Entry) (objects : Map Object) (p : ℕ) (request : Request) → verdict_on entries objects p request ≡ Some verdict.Denied
    → (c : Condition) × (condition_of request ≡ Some c)
denied_object entries objects p request is = by_job (job_in (get objects p)) is
  where
    by_job : (job : Option ℕ) → verdict_in objects job (operands_fault entries [] (handle_operands request)) (condition_of request) ≡ Some verdict.Denied
        → (c : Condition) × (condition_of request ≡ Some c)
    by_job None is = absurd (none-some _ is)
    by_job (Some job) is = denied_makes (action_here (job_at objects job)) (operands_fault entries [] (handle_operands request)) (condition_of request) is

-- a call that makes an object takes no handle
taken_if_making : (request : Request) → (if is_some (condition_of request) then taken_handles request else []) ≡ []
unfolding taken_handles handle_operands
taken_if_making chan_create = refl
taken_if_making _ = refl

pub making_takes_none : (request : Request) (c : Condition) → condition_of request ≡ Some c → taken_handles request ≡ []
making_takes_none request c is = ap (λ (o : Option Condition). if is_some o then taken_handles request else []) (sym is) ∙ taken_if_making request

-- a denial tells the status alone
denial_tells_none : (w : World) (p : ℕ) (request : Request) → gives_refused w p request status.AccessDenied ≡ []
unfolding gives_refused
denial_tells_none w p (chan_read_etc c address room places) = refl
denial_tells_none w p (wait_poll h mask) = refl
denial_tells_none w p _ = refl

module _ (lib : Library) (w : World) (p : ℕ) (s : Site) (w2 : World) where
  -- a call that is denied is answered, and nothing else changes
  pub denied_calls : (c : Condition) → condition_of s.request ≡ Some c → refusal lib w p s.request ≡ Some (ending verdict.Denied)
      → w2 ≡ replied w p s status.AccessDenied [] → Calls lib w p s (outcome.Answered status.AccessDenied) w2
  unfolding remove_all
  denied_calls c making is after = (
    Refused,
    rw is (
      refl,
      after ∙ (λ i. replied (remove_all w p (sym (making_takes_none s.request c making) i)) p s status.AccessDenied
          (sym (denial_tells_none w p s.request) i)),
    ),
  )

  -- a caller that a policy kills ends
  pub killed_calls : refusal lib w p s.request ≡ Some (ending verdict.Killed) → w2 ≡ ended w p BY_POLICY → Calls lib w p s (outcome.Ended BY_POLICY) w2
  killed_calls is after = (Refused, rw is (refl, after))
