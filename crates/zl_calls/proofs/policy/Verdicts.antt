-- What the code finds of a policy's verdict: none where nothing is set, and what an answer of the code says of it.
use Rattle.zl_calls.proofs.Common.{Condition, Entry, IfSome, IsDenied, Job, Map, None, Object, Objects, Option, Outcome, Policed, Process, Request, Site, Some}
use Rattle.zl_calls.proofs.Common.{Status, [], action_here, ap, condition_of, false, get, handle_operands, is_empty, job_at, job_in, not, operands_fault, sym}
use Rattle.zl_calls.proofs.Common.{true≢false, verdict_by, verdict_in, verdict_on, ℕ, ◌∙◌, ◌∷◌, ◌≡◌}
use Rattle.zl_rights.specs.Policies.{action_in}
use Rattle.zl_rights.specs.declared.policy.Action.{Action}
use Rattle.zl_objects.specs.Jobs.{has_actions}
use Rattle.zl_calls.specs.declared.policy.Verdict.TheVariants as verdict
use Rattle.zl_calls.proofs.policy.Policies.{verdict_allowed}

-- what is true of each site is true of the one that is there
pub at_site : (at : Option Site) (P : Site → Type 0) → ((s : Site) → P s) → IfSome at P
at_site None P all = tt
at_site (Some s) P all = all s

-- where nothing is set in the policy of the job, there is no verdict
nothing_set : (o : Option Job) → has_actions o ≡ false → (f : Option Status) (c : Option Condition) → verdict_by (action_here o) f c ≡ None
unfolding get
nothing_set None bare f c = verdict_allowed f c
nothing_set (Some job) bare f c = by_actions job.policy bare
  where
    by_actions : (m : Map Action) → not (is_empty m) ≡ false → verdict_by (action_in m) f c ≡ None
    by_actions [] h = verdict_allowed f c
    by_actions (x ∷ xs) h = absurd (true≢false h)

pub unset : (entries : Map Entry) (objects : Map Object) (pid job : ℕ) (request : Request) → Some job ≡ job_in (get objects pid)
    → has_actions (job_at objects job) ≡ false → verdict_on entries objects pid request ≡ None
unset entries objects pid job request is bare =
    ap (λ (o : Option ℕ). verdict_in objects o (operands_fault entries [] (handle_operands request)) (condition_of request)) (sym is)
    ∙ nothing_set (job_at objects job) bare (operands_fault entries [] (handle_operands request)) (condition_of request)

-- a call that is denied is answered so by policy
pub denied_so : (o : Option Outcome) (at : Option Site) (p p2 : Process) (r : Objects)
    → IfSome o (λ x. (r1 : Objects) → IfSome at (λ s. IsDenied s p r1 x p2 r1))
    → IfSome at (λ s. Some verdict.Denied ≡ verdict_on p.table.entries r.objects p.pid s.request) → IfSome o (λ x. IfSome at (λ s. Policed s p r x p2 r))
denied_so None at p p2 r denied judged = tt
denied_so (Some x) None p p2 r denied judged = tt
denied_so (Some x) (Some s) p p2 r denied judged = record { verdict = verdict.Denied; is_verdict = sym judged; ends = denied r }
