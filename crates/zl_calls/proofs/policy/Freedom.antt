-- Where the policy of a process's job has no verdict on its call, no policy has a say at all.
use Rattle.zl_calls.proofs.Common.{AtCall, Body, Bool, CallName, IsConsistent, IsSound, JobBody, Library, List, Map, Next, None, Object, Objects, Option}
use Rattle.zl_calls.proofs.Common.{Process, ProcessValue, Site, Some, State, World, ap, arith, body_in, body_value, false, false≢true, get, get_seen, is_job_at}
use Rattle.zl_calls.proofs.Common.{is_job_here, is_job_in, is_ready, lives, map, next_for, object_entry, object_value, option_map, plain_refusal, process_entry}
use Rattle.zl_calls.proofs.Common.{process_value, refl, refusal, same_Some, state_value, subst, sym, true, verdict_on, world_blocked, ℕ, ◌∙◌, ◌≡◌}
use Rattle.zl_code.proofs.Common.{Body as BodyValue}
use Rattle.zl_objects.specs.declared.object.Body.TheVariants as body
use Rattle.zl_calls.specs.declared.process.State.TheVariants as state
use Rattle.zl_calls.proofs.step.FromConsistent.{IsFree}
use Rattle.zl_calls.proofs.policy.Policies.{IsSeen, unpoliced}

-- ---- what stands next

abbrev site_in : Next → Site → Site
site_in (AtCall call s) d = s
site_in _ d = d

-- ---- a process that is ready

-- what was found is a job
abbrev is_job_value : Option BodyValue → Bool
is_job_value (Some (JobBody parent depth policy killed)) = true
is_job_value _ = false

job_seen : (o : Option Object) → is_job_in o ≡ is_job_value (body_in (option_map object_value o))
job_seen None = refl
job_seen (Some o) = by_body o.body
  where
    by_body : (b : Body) → is_job_here b ≡ is_job_value (Some (body_value b))
    by_body (body.Job job) = refl
    by_body _ = refl

ready_lives : (s : State) → is_ready (state_value s) ≡ true → lives (state_value s) ≡ true
ready_lives state.Ready h = refl
ready_lives _ h = absurd (false≢true h)

module _ (lib : Library) (ps : List Process) (r : Objects) (consistent : IsConsistent ps r) (blocked : List ℕ)
    (sound : IsSound (world_blocked ps r blocked)) (p : Process)
    (there : get (map process_entry ps) p.pid ≡ Some (process_value p)) (ready : is_ready (state_value p.state) ≡ true) where
  -- its object is no job
  no_job : is_job_at r.objects p.pid ≡ false
  no_job =
      let own = sound.living p.pid (process_value p) there (ready_lives p.state ready) in
      job_seen (get r.objects p.pid) ∙ (ap (λ o. is_job_value (body_in o)) (sym (get_seen r.objects p.pid)) ∙ ap is_job_value own.there)

  none_at_zero : get r.objects 0 ≡ None
  none_at_zero = by_object (get r.objects 0) refl
    where
      by_object : (o : Option Object) → get r.objects 0 ≡ o → o ≡ None
      by_object None is = refl
      by_object (Some o) is = absurd (omega (arith, consistent.no_zero 0 (rw is refl)))

  pub is_seen : (w : World) → w.processes ≡ map process_entry ps → w.objects ≡ map object_entry r.objects → IsSeen w p.pid p.table.entries r.objects
  is_seen w processes objects = record { objects_are = objects; table_is = rw (processes, there) refl; no_job = no_job; none_at_zero = none_at_zero }

  module _ (name : CallName) (s : Site) (next : next_for lib (process_value p) ≡ AtCall name s)
      (none : verdict_on p.table.entries r.objects p.pid s.request ≡ None) where
    -- whatever waits
    pub is_free : (w : World) → w.processes ≡ map process_entry ps → w.objects ≡ map object_entry r.objects → IsFree lib w p.pid name
    is_free w processes objects q t at stands =
        let same : process_value p ≡ q = same_Some (process_value p) q (sym there ∙ (ap (λ (m : Map ProcessValue). get m p.pid) (sym processes) ∙ at)) in
        let is_site : s ≡ t = ap (λ n. site_in n s) (sym next ∙ (ap (next_for lib) same ∙ stands)) in
        let free : refusal lib w p.pid s.request ≡ plain_refusal lib w p.pid s.request =
        unpoliced lib w p.pid p.table.entries r.objects (is_seen w processes objects) s.request none in
        subst (λ (x : Site). refusal lib w p.pid x.request ≡ plain_refusal lib w p.pid x.request) is_site free
