-- The statements of a boot on jobs: a job is made in another, and a policy is set.
use Rattle.zl_calls.proofs.Common.{Body, Bool, BootCause, Condition, Err, IsCauseOf, IsMaking, IsTrue, Job, JobFault, Library, List, Made, Makes, Map, None}
use Rattle.zl_calls.proofs.Common.{Object, ObjectValue, Objects, Ok, OnOk, Option, Process, Result, ShowStates, Some, Status, World, [], ap, arith, body_of}
use Rattle.zl_calls.proofs.Common.{body_value, boot_effect, boot_fault, conflicts, false, false≢true, first_some, get, has_child, has_child_at, if◌then◌else◌}
use Rattle.zl_calls.proofs.Common.{is_above, is_deepest_here, is_in_job, is_job, is_job_at, is_job_here, is_job_in, is_killed, job_at, job_shown, job_within}
use Rattle.zl_calls.proofs.Common.{job_within_here, keeper_of, koid_fault, lacks_koids, new_in, object_value, on_object, policy_changed, process_shown, refl}
use Rattle.zl_calls.proofs.Common.{runs, seen, setting, setting_policy, subst, sym, then_some, true, with_new, with_object, with_policy_body, with_policy_set}
use Rattle.zl_calls.proofs.Common.{ℕ, ⊤, ◌||◌, ◌∙◌, ◌∷◌, ◌≡◌}
use Rattle.zl_code.proofs.Common.{Action}
use Rattle.zl_code.specs.declared.boot.BootCause.TheVariants as cause
use Rattle.zl_code.specs.declared.boot.Statement.TheVariants as statement
use Rattle.zl_rights.specs.declared.policy.Mode.TheVariants as mode
use Rattle.zl_rights.specs.declared.status.Status.TheVariants as status
use Rattle.zl_jobs.specs.declared.job.JobFault.TheVariants as fault
use Rattle.zl_objects.specs.declared.object.Body.TheVariants as body
use Rattle.zl_objects.specs.Jobs.{policy_answer}
use Rattle.zl_calls.proofs.objects.Active.{shown_all}
use Rattle.zl_calls.proofs.boot.BootFaults.{job_seen}
use Rattle.zl_calls.proofs.boot.BootObjects.{object_makes}
use Rattle.zl_calls.proofs.calls.JobCalls.{IsJobAt, body_seen, job_found, policy_keeps, policy_quiet, policy_seen, stands_grown}
use Rattle.zl_calls.proofs.objects.Rebodied.{quiet_sound, same_handles}
use Rattle.zl_calls.proofs.objects.SameBodies.{each_updated}
use Rattle.zl_calls.proofs.lists.Updates.{update_seen}

-- the job k, which is there
job_there : (os : Map Object) (k : ℕ) → is_job_at os k ≡ true → IsJobAt os k
job_there os k is = by_object (get os k) refl is
  where
    by_body : (o : Object) (b : Body) → get os k ≡ Some o → o.body ≡ b → is_job_here b ≡ true → IsJobAt os k
    by_body o (body.Job job) at same h = record { object = o; there = at; job = job; is = same }
    by_body o _ at same h = absurd (false≢true h)

    by_object : (o : Option Object) → get os k ≡ o → is_job_in o ≡ true → IsJobAt os k
    by_object None at h = absurd (false≢true h)
    by_object (Some o) at h = by_body o o.body at refl h

-- ---- the policy of a job is set

module _ (ps : List Process) (r : Objects) (making : IsMaking ps [] r) (k : ℕ) (c : Condition) (a : Action) where
  abbrev changed : Objects
  changed = setting_policy r k c a

  killed_too : (b : Body) → is_killed (with_policy_body c a b) ≡ is_killed b
  killed_too (body.Job job) = refl
  killed_too _ = refl

  set_making : IsMaking ps [] changed
  set_making = record {
    sound = quiet_sound (with_policy_set c a) (policy_keeps c a) (policy_quiet c a) ps r k (λ o. refl) [] making.sound;
    few = λ j. omega (arith, making.few j, same_handles (with_policy_set c a) (policy_keeps c a) (policy_quiet c a) ps r k j);
    unwatched = record { none = making.unwatched.none; none_made = making.unwatched.none_made };
    alive = each_updated (λ j q. is_killed q.body ≡ false) (with_policy_set c a) r.objects k (λ o old. killed_too o.body ∙ making.alive k o old)
        (λ j q apart old. making.alive j q old);
  }

-- ---- the statements

module _ (lib : Library) (before : Made) (making : IsMaking before.processes.items [] before.objects) where
  abbrev w : World
  w = seen before

  abbrev ps : List Process
  ps = before.processes.items

  abbrev r : Objects
  r = before.objects

  -- the world sees the job where it is
  is_seen : (k : ℕ) → is_job_at r.objects k ≡ true → is_job w k ≡ true
  is_seen k there = job_seen ps r k ∙ there

  -- ---- a job in another

  module _ (parent : ℕ) where
    abbrev new_job : Result Job JobFault
    new_job = new_in parent (job_at r.objects parent)

    pub no_parent : is_job_at r.objects parent ≡ false → IsCauseOf (boot_fault lib w (statement.Job parent)) cause.Unknown
    unfolding boot_fault
    no_parent missing = rw (job_seen ps r parent, missing) refl

    module _ (there : is_job_at r.objects parent ≡ true) where
      at : IsJobAt r.objects parent
      at = job_there r.objects parent there

      unkilled : at.job.killed ≡ false
      unkilled = ap is_killed (sym at.is) ∙ making.alive parent at.object at.there

      new_is : new_job ≡ (if is_deepest_here at.job then Err fault.OutOfRange else Ok (job_within_here parent at.job))
      new_is = rw (job_found r.objects parent at, unkilled) refl

      fault_is : boot_fault lib w (statement.Job parent) ≡ then_some (is_deepest_here at.job || lacks_koids w (statement.Job parent)) cause.Limit
      unfolding boot_fault
      fault_is = rw (is_seen parent there, body_seen ps r parent at) (alone (is_deepest_here at.job || lacks_koids w (statement.Job parent)))
        where
          alone : (b : Bool) → first_some (None ∷ then_some b cause.Limit ∷ []) ≡ then_some b cause.Limit
          alone true = refl
          alone false = refl

      -- it would stand too deep
      pub too_deep : ((x : Job) → new_job ≡ Ok x → ⊥) → IsCauseOf (boot_fault lib w (statement.Job parent)) cause.Limit
      too_deep none = rw fault_is (by_depth (is_deepest_here at.job) refl)
        where
          by_depth : (b : Bool) → is_deepest_here at.job ≡ b → IsCauseOf (then_some (b || lacks_koids w (statement.Job parent)) cause.Limit) cause.Limit
          by_depth true is = refl
          by_depth false is = absurd (none (job_within_here parent at.job) (new_is ∙ rw is refl))

      module _ (child : Job) (made : new_job ≡ Ok child) where
        by_depth : (b : Bool)
            → is_deepest_here at.job ≡ b → ◌≡◌ {A = Result Job JobFault} (if b then Err fault.OutOfRange else Ok (job_within_here parent at.job)) (Ok child)
            → (is_deepest_here at.job ≡ false) × (child ≡ job_within_here parent at.job)
        by_depth true is h = absurd cc
        by_depth false is h = (is, cc)

        fits : (is_deepest_here at.job ≡ false) × (child ≡ job_within_here parent at.job)
        fits = by_depth (is_deepest_here at.job) refl (sym new_is ∙ made)

        -- a koid is all that it may lack
        pub job_fault : boot_fault lib w (statement.Job parent) ≡ koid_fault before
        job_fault = fault_is ∙ rw fits.0 refl

        abbrev job : Body
        job = body.Job child

        stands : IsTrue (is_in_job (with_new r job 0).objects job)
        stands = subst (λ (o : Option ℕ). IsTrue (is_above (with_new r job 0).objects o)) (ap (λ (x : Job). keeper_of (body.Job x)) (sym fits.1))
            (stands_grown ps [] r making.sound job 0 parent at)

        body_is : body_value job ≡ job_within parent (body_of w parent)
        body_is = ap (λ (x : Job). body_value (body.Job x)) fits.1 ∙ ap (job_within parent) (sym (body_seen ps r parent at))

        pub job_makes : (x : Result ⊤ BootCause) (after : Made) → OnOk x (koid_fault before ≡ None)
            → OnOk x (after ≡ record before { objects = with_new r job 0 }) → OnOk x (Makes lib (statement.Job parent) before after)
        unfolding boot_effect
        job_makes = object_makes lib before making (statement.Job parent) job job_fault refl (ap (with_object w) body_is) refl refl (λ not. not runs) stands
            (ap (λ (x : Job). x.killed) fits.1)

  -- ---- a policy

  module _ (k : ℕ) (c : Condition) (a : Action) where
    abbrev answer : Result ⊤ Status
    answer = policy_answer (job_at r.objects k) c a mode.Absolute

    pub no_such_job : is_job_at r.objects k ≡ false → IsCauseOf (boot_fault lib w (statement.Policy k c a)) cause.Unknown
    unfolding boot_fault
    no_such_job missing = rw (job_seen ps r k, missing) refl

    child_is : has_child w k ≡ has_child_at r.objects k
    child_is = λ i. job_shown w r.objects shows k i || process_shown w r.objects shows k i
      where
        shows : ShowStates w r.objects
        shows = shown_all w r.objects making.sound.objects_in_order making.sound.no_zero making.sound.agrees

    module _ (there : is_job_at r.objects k ≡ true) where
      job_is : IsJobAt r.objects k
      job_is = job_there r.objects k there

      abbrev conflict : Bool
      conflict = conflicts job_is.job.policy c a

      policy_fault : boot_fault lib w (statement.Policy k c a)
          ≡ first_some (None ∷ then_some (has_child_at r.objects k) cause.BadState ∷ then_some conflict cause.Conflict ∷ [])
      unfolding boot_fault
      policy_fault = rw (is_seen k there, child_is, body_seen ps r k job_is) refl

      pub has_one : has_child_at r.objects k ≡ true → IsCauseOf (boot_fault lib w (statement.Policy k c a)) cause.BadState
      has_one child = rw (policy_fault, child) refl

      answer_is : answer ≡ (if conflict then Err status.AlreadyExists else Ok tt)
      answer_is = rw (job_found r.objects k job_is) refl

      module _ (childless : has_child_at r.objects k ≡ false) where
        pub conflicting : (s : Status) → answer ≡ Err s → IsCauseOf (boot_fault lib w (statement.Policy k c a)) cause.Conflict
        conflicting s refused = rw (policy_fault, childless) (by_test conflict (sym answer_is ∙ refused))
          where
            by_test : (b : Bool) → ◌≡◌ {A = Result ⊤ Status} (if b then Err status.AlreadyExists else Ok tt) (Err s)
                → IsCauseOf (first_some (None ∷ None ∷ then_some b cause.Conflict ∷ [])) cause.Conflict
            by_test true h = refl
            by_test false h = absurd cc

        pub policy_makes : answer ≡ Ok tt → (after : Objects) → after ≡ setting_policy r k c a
            → Makes lib (statement.Policy k c a) before (record before { objects = after })
        unfolding boot_effect on_object
        policy_makes done after is = record {
          no_fault = policy_fault ∙ rw childless (by_test conflict (sym answer_is ∙ done));
          values = [];
          own = refl;
          chosen = refl;
          fresh = λ all. all;
          effect = rw is (ap (λ (os : Map ObjectValue). record w { objects = os }) (update_seen object_value r.objects k (with_policy_set c a)
              (policy_changed (setting c a)) (policy_seen c a (record { mode = mode.Absolute; condition = c; action = a }) refl refl)));
          making = rw is (set_making ps r making k c a);
        }
          where
            by_test : (b : Bool) → ◌≡◌ {A = Result ⊤ Status} (if b then Err status.AlreadyExists else Ok tt) (Ok tt)
                → first_some (None ∷ None ∷ then_some b cause.Conflict ∷ []) ≡ None
            by_test true h = absurd cc
            by_test false h = refl
