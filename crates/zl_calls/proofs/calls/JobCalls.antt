-- The calls on jobs, job_create and job_set_policy, each from its table and objects to a step.
use Rattle.zl_calls.proofs.Common.{AreSound, Body, Bool, Condition, Entry, Err, IsConsistent, IsNamed, IsTrue, Job, JobBody, JobFault, Library, List}
use Rattle.zl_calls.proofs.Common.{MANAGE_JOB, Map, None, Object, Objects, Ok, Option, Process, Replies, Result, SET_POLICY, Setting, Site, Some, Status}
use Rattle.zl_calls.proofs.Common.{Values, World, [], answer_if, ap, body_of, body_value, conflicts, effect, false, false≢true, first_some, get, get_seen}
use Rattle.zl_calls.proofs.Common.{gives_ok, gives_refused, handle_operands, has_child, has_child_at, has_koids, has_room, has_room_in, if◌then◌else◌}
use Rattle.zl_calls.proofs.Common.{insert_all, is_above, is_deepest_here, is_in_job, is_job_at, is_some, job_at, job_create, job_set_policy, job_shown}
use Rattle.zl_calls.proofs.Common.{job_within, job_within_here, keeper_of, kind_of, listed, looked_up, map, may_choose, nat_le, new_entry, new_handles, new_in}
use Rattle.zl_calls.proofs.Common.{no_value, not, object_at, object_value, on_object, on_process, one_value, operands_fault, option_or, plain_refusal}
use Rattle.zl_calls.proofs.Common.{policy_changed, policy_in, process_entry, process_shown, process_value, process_with, queue_held, refl, remove_all, replied}
use Rattle.zl_calls.proofs.Common.{result_err, runs, setting_policy, subst, sym, taken_handles, takes, then_some, told_by, true, wants_memory, wants_nothing}
use Rattle.zl_calls.proofs.Common.{with_new, with_object, with_policy_body, with_policy_set, world_value, ℕ, ⊤, ◌&&◌, ◌+◌, ◌==◌, ◌^◌, ◌||◌, ◌∙◌, ◌∷◌, ◌≡◌}
use Rattle.zl_code.proofs.Common.{Action, Body as BodyValue, body_with_policy, policy_set, setting_of}
use Rattle.zl_rights.specs.declared.kind.Kind.TheVariants as kind
use Rattle.zl_rights.specs.declared.status.Status.TheVariants as status
use Rattle.zl_rights.specs.Policies.{is_absolute}
use Rattle.zl_jobs.specs.declared.job.JobFault.TheVariants as fault
use Rattle.zl_code.specs.declared.history.Outcome.TheVariants as outcome
use Rattle.zl_code.specs.Jobs.{is_conflict, is_dead, is_deepest}
use Rattle.zl_objects.specs.declared.object.Body.TheVariants as body
use Rattle.zl_calls.specs.calls.Job.{CreatesJob, JobCreateDoes, JobSetPolicyDoes, SetsPolicy, fault_status, job_refusal, job_refusal_of}
use Rattle.zl_calls.specs.calls.Job.{policy_refusal, policy_refusal_of}
use Rattle.zl_calls.proofs.objects.Active.{states_shown}
use Rattle.zl_calls.proofs.calls.Owned.{own_plain}
use Rattle.zl_calls.proofs.calls.Answered.{IsWrite, asking, replied_changed, table_is}
use Rattle.zl_calls.proofs.calls.DoneCalls.{IsDoneBy, IsCalled, answered_done}
use Rattle.zl_calls.proofs.objects.Grown.{job_grown}
use Rattle.zl_calls.proofs.calls.MakeCalls.{made_called}
use Rattle.zl_calls.proofs.objects.Rebodied.{IsAlike, KeepsKind, alike_itself, quiet_consistent}
use Rattle.zl_calls.proofs.calls.Refused.{answers, is_found, first_looked_up, is_of_kind, one_test}
use Rattle.zl_calls.proofs.objects.Settled.{sound_of}
use Rattle.zl_calls.proofs.processes.Written.{refusal_keeps}

-- ---- the job that a handle names

-- the object k is this job
pub record IsJobAt (os : Map Object) (k : ℕ) : Type 0 where
  pub object : Object
  pub there : get os k ≡ Some object
  pub job : Job
  pub is : object.body ≡ body.Job job

-- a handle of the kind names a job
pub job_named : (os : Map Object) (e : Entry) → IsNamed os e → takes (kind.Job ∷ []) e.kind ≡ true → IsJobAt os e.koid
job_named os e named fits = by_body named.object.body refl (ap (takes (kind.Job ∷ [])) (sym named.kind) ∙ fits)
  where
    by_body : (b : Body) → named.object.body ≡ b → takes (kind.Job ∷ []) (kind_of (body_value b)) ≡ true → IsJobAt os e.koid
    by_body (body.Job own) is passes = record { object = named.object; there = named.there; job = own; is = is }
    by_body _ is passes = absurd (false≢true passes)

-- what the definitions see of it
pub body_seen : (ps : List Process) (r : Objects) (k : ℕ) (at : IsJobAt r.objects k) → body_of (world_value ps r) k ≡ Some (body_value (body.Job at.job))
body_seen ps r k at = rw (get_seen r.objects k, at.there) (ap (λ (b : Body). Some (body_value b)) at.is)

pub job_found : (os : Map Object) (k : ℕ) (at : IsJobAt os k) → job_at os k ≡ Some at.job
job_found os k at = rw at.there (rw at.is refl)

-- it is there still beside a new object, which may stand in it
pub stands_grown : (ps : List Process) (m : Map Entry) (r : Objects) → AreSound ps m r → (b : Body) (count k : ℕ) → IsJobAt r.objects k
    → IsTrue (is_above (with_new r b count).objects (Some k))
stands_grown ps m r sound b count k at = by_test (k == 0)
  where
    by_test : (t : Bool) → IsTrue (t || is_job_at (with_new r b count).objects k)
    by_test true = refl
    by_test false = job_grown ps m r sound b count k (rw at.there (rw at.is refl))

-- a handle of a process that was looked up names a job
pub job_looked_up : (before : List Process) (r : Objects) → IsConsistent before r → (p : Process)
    → get (map process_entry before) p.pid ≡ Some (process_value p)
    → (h needed : ℕ) (e : Entry) → looked_up p.table.entries h (kind.Job ∷ []) needed ≡ Ok e → IsJobAt r.objects e.koid
job_looked_up before r consistent p there h needed e found =
    job_named r.objects e (consistent.named p.pid (process_value p) h e there (is_found (get p.table.entries h) (kind.Job ∷ []) needed e found))
    (is_of_kind (get p.table.entries h) (kind.Job ∷ []) needed e found)

-- ---- answers

by_job_tests : (j : Job) (a b c : Bool) → first_some (answer_if a status.OutOfRange ∷ answer_if b status.BadState ∷ answer_if c status.NoResources ∷ [])
    ≡ answers (option_or (fault_status (if a then Err fault.OutOfRange else (if b then Err fault.BadState else Ok j))) (then_some c status.NoResources))
by_job_tests j true b c = refl
by_job_tests j false true c = refl
by_job_tests j false false c = one_test c status.NoResources

abbrev set_if : Bool → Result ⊤ Status
set_if b = if b then Err status.AlreadyExists else Ok tt

by_policy_tests : (a b : Bool) → first_some (answer_if a status.BadState ∷ answer_if b status.AlreadyExists ∷ [])
    ≡ answers (option_or (then_some a status.BadState) (result_err (set_if b)))
by_policy_tests true b = refl
by_policy_tests false true = refl
by_policy_tests false false = refl

-- a living child stands below the job where the objects say so
child_seen : (before : List Process) (r : Objects) → IsConsistent before r → (k : ℕ) → has_child (world_value before r) k ≡ has_child_at r.objects k
child_seen before r consistent k = λ i. job_shown (world_value before r) r.objects (states_shown before r consistent) k i
    || process_shown (world_value before r) r.objects (states_shown before r consistent) k i

-- ---- a policy changes

module _ (c : Condition) (a : Action) where
  policy_alike : (b : Body) → IsAlike b (with_policy_body c a b)
  policy_alike (body.Job own) = record { kind = refl; living = λ j. refl; in_job = λ m. refl; alone = λ m k. refl; agrees = λ w k same. same }
  policy_alike b = alike_itself b

  pub policy_keeps : KeepsKind (with_policy_set c a)
  policy_keeps o = policy_alike o.body

  pub policy_quiet : (o : Object) → queue_held (with_policy_set c a o).body ≡ queue_held o.body
  policy_quiet o = by_body o.body
    where
      by_body : (b : Body) → queue_held (with_policy_body c a b) ≡ queue_held b
      by_body (body.Job own) = refl
      by_body _ = refl

  -- the definitions see it so
  pub policy_seen : (s : Setting) → s.condition ≡ c → s.action ≡ a → (o : Object)
      → object_value (with_policy_set c a o) ≡ policy_changed (Some s) (object_value o)
  policy_seen s is_condition is_action o = ap (λ b. record { body = b; raised = o.signals.raised }) (by_body o.body)
    where
      by_body : (b : Body) → body_value (with_policy_body c a b) ≡ body_with_policy (Some s) (body_value b)
      by_body (body.Job own) = λ i. JobBody own.parent own.depth (policy_set own.policy (sym is_condition i) (sym is_action i)) own.killed
      by_body _ = refl

-- ---- a process of the world, before and after its call

module _ {before after : List Process} {r : Objects} {p p2 : Process} (lib : Library) (r2 : Objects) (consistent : IsConsistent before r)
    (write : IsWrite before after p p2) where
  abbrev w : World
  w = world_value before r

  -- the job that a handle of the caller names
  job_here : (h needed : ℕ) (e : Entry) → looked_up p.table.entries h (kind.Job ∷ []) needed ≡ Ok e → IsJobAt r.objects e.koid
  job_here = job_looked_up before r consistent p write.there

  named_koid : (h needed : ℕ) (e : Entry) → looked_up p.table.entries h (kind.Job ∷ []) needed ≡ Ok e → object_at w p.pid h ≡ e.koid
  named_koid h needed e found = rw (table_is write r, is_found (get p.table.entries h) (kind.Job ∷ []) needed e found) refl

  -- ---- job_create

  module _ (j : ℕ) (base : Site) where
    abbrev create_site : Site
    create_site = asking (job_create j) base

    refused_create : plain_refusal lib w p.pid create_site.request ≡ answers (job_refusal p.table.entries r j)
    unfolding handle_operands operands_fault listed has_room has_koids
    refused_create =
        first_looked_up lib w p.pid p.table.entries (table_is write r) create_site.request (job_refusal p.table.entries r j)
        j (kind.Job ∷ []) MANAGE_JOB None refl (λ s is. rw is refl)
        (λ e is at. rw (is, table_is write r, at) (passes e (job_here j MANAGE_JOB e is)))
      where
        passes : (e : Entry) → IsJobAt r.objects e.koid
            → first_some (answer_if (is_deepest (body_of w e.koid)) status.OutOfRange ∷ answer_if (is_dead (body_of w e.koid)) status.BadState
            ∷ answer_if (not (has_room_in p.table.entries && nat_le (r.next_koid + 1) (2 ^ 62))) status.NoResources ∷ [])
            ≡ answers (job_refusal_of p.table.entries r (Ok e))
        passes e at = rw (body_seen before r e.koid at, job_found r.objects e.koid at)
            (by_job_tests (job_within_here e.koid at.job) (is_deepest_here at.job) at.job.killed
            (not (has_room_in p.table.entries && nat_le (r.next_koid + 1) (2 ^ 62))))

    module _ (made : ℕ) (creates : CreatesJob p.table r j made p2.table r2) (replies : Replies create_site status.Ok (made ∷ []) p p2) where
      abbrev k : ℕ
      k = creates.above.koid

      above : IsJobAt r.objects k
      above = job_here j MANAGE_JOB creates.above creates.is_above

      abbrev job : Body
      job = body.Job creates.child

      child_is : creates.child ≡ job_within_here k above.job
      child_is = by_tests (is_deepest_here above.job) above.job.killed (ap (new_in k) (sym (job_found r.objects k above)) ∙ creates.is_child)
        where
          by_tests : (a b : Bool) → ◌≡◌ {A = Result Job JobFault}
              (if a then Err fault.OutOfRange else (if b then Err fault.BadState else Ok (job_within_here k above.job))) (Ok creates.child)
              → creates.child ≡ job_within_here k above.job
          by_tests true b h = absurd cc
          by_tests false true h = absurd cc
          by_tests false false h = cc

      body_is : body_value job ≡ job_within (object_at w p.pid j) (body_of w (object_at w p.pid j))
      body_is =
          ap (λ (x : Job). body_value (body.Job x)) child_is ∙ (ap (λ (o : Option BodyValue). job_within k o) (sym (body_seen before r k above))
          ∙ ap (λ (i : ℕ). job_within i (body_of w i)) (sym (named_koid j MANAGE_JOB creates.above creates.is_above)))

      -- the job above is there still
      stands : IsTrue (is_in_job (with_new r job 1).objects job)
      stands = subst (λ (o : Option ℕ). IsTrue (is_above (with_new r job 1).objects o)) (ap (λ (x : Job). keeper_of (body.Job x)) (sym child_is))
          (stands_grown before [] r (sound_of before r consistent) job 1 k above)

      create_called : IsCalled lib before after r r2 p.pid create_site (outcome.Answered status.Ok)
      unfolding taken_handles handle_operands remove_all may_choose new_handles effect insert_all gives_ok
      create_called = made_called lib r2 consistent write create_site job (λ not. not runs) refl stands made creates.makes replies
          (record { none = refl; chosen = refl; made = refl; own = refl })
          (refused_create ∙ ap answers creates.unrefused) (λ may ends. (rw (write.there, may) refl, refl, ends ∙ ap with_child body_is))
        where
          with_child : BodyValue → World
          with_child b = replied (on_process (with_object w b) p.pid (process_with made (new_entry r.next_koid kind.Job))) p.pid create_site status.Ok
              (made ∷ [])

    pub job_done : IsDoneBy lib before after r r2 p p2 create_site (told_by one_value) (JobCreateDoes j)
    unfolding taken_handles handle_operands remove_all gives_refused
    job_done =
        answered_done lib r2 consistent write create_site one_value (JobCreateDoes j) (CreatesJob p.table r j) wants_memory
        (job_refusal p.table.entries r j) (λ answer acts. acts) refused_create refl refl (λ answer. refl) create_called

  -- ---- job_set_policy

  module _ (j mode condition action : ℕ) (base : Site) where
    abbrev set_site : Site
    set_site = asking (job_set_policy j mode condition action) base

    refused_set : plain_refusal lib w p.pid set_site.request ≡ answers (policy_refusal p.table.entries r.objects j mode condition action)
    unfolding handle_operands operands_fault listed
    refused_set =
        first_looked_up lib w p.pid p.table.entries (table_is write r) set_site.request
        (policy_refusal p.table.entries r.objects j mode condition action) j (kind.Job ∷ []) SET_POLICY None refl (λ s is. rw is refl)
        (λ e is at. rw (is, table_is write r, at) (passes e (job_here j SET_POLICY e is) (setting_of mode condition action)))
      where
        passes : (e : Entry) → IsJobAt r.objects e.koid → (o : Option Setting)
            → first_some (answer_if (not (is_some o)) status.InvalidArgs ∷ answer_if (is_dead (body_of w e.koid) || has_child w e.koid) status.BadState
            ∷ answer_if (is_conflict (policy_in (body_of w e.koid)) o) status.AlreadyExists ∷ [])
            ≡ answers (policy_refusal_of r.objects o (Ok e))
        passes e at None = refl
        passes e at (Some x) = rw (body_seen before r e.koid at, job_found r.objects e.koid at, child_seen before r consistent e.koid)
            (by_policy_tests (at.job.killed || has_child_at r.objects e.koid) (is_absolute x.mode && conflicts at.job.policy x.condition x.action))

    module _ (sets : SetsPolicy p.table r j mode condition action p2.table r2) (replies : Replies set_site status.Ok [] p p2) where
      abbrev job_koid : ℕ
      job_koid = sets.job.koid

      abbrev c : Condition
      c = sets.setting.condition

      abbrev a : Action
      a = sets.setting.action

      set_ends : world_value after r2 ≡ replied (on_object w job_koid (policy_changed (Some sets.setting))) p.pid set_site status.Ok []
      set_ends =
          replied_changed write r r2 job_koid (with_policy_set c a) (policy_changed (Some sets.setting))
          (policy_seen c a sets.setting refl refl) sets.objects sets.table set_site [] replies

      set_called : IsCalled lib before after r r2 p.pid set_site (outcome.Answered status.Ok)
      unfolding may_choose effect gives_ok new_handles insert_all remove_all taken_handles handle_operands
      set_called = record {
        calls = (
          Values [],
          rw (refused_set, sets.unrefused) (
            rw write.there refl,
            refl,
            set_ends ∙ (λ i. replied (on_object w (sym (named_koid j SET_POLICY sets.job sets.is_job) i) (policy_changed (sym sets.is_setting i))) p.pid
                set_site status.Ok []),
          ),
        );
        own = λ living. own_plain write r living set_site.request
            (record { none = refl; chosen = refl; made = refl; own = refl }) [] [] refl sets.table;
        keeps = rw sets.objects
            (refusal_keeps write (setting_policy r job_koid c a)
            (quiet_consistent (with_policy_set c a) (policy_keeps c a) (policy_quiet c a) before r job_koid (λ o. refl) consistent) sets.table
            (ap (λ (q : Process). q.state) replies));
      }

    pub job_set_policy_done : IsDoneBy lib before after r r2 p p2 set_site (told_by no_value) (JobSetPolicyDoes j mode condition action)
    unfolding taken_handles handle_operands remove_all gives_refused
    job_set_policy_done =
        answered_done lib r2 consistent write set_site no_value (JobSetPolicyDoes j mode condition action)
        (λ _. SetsPolicy p.table r j mode condition action) wants_nothing
        (policy_refusal p.table.entries r.objects j mode condition action) (λ answer acts. acts) refused_set refl refl (λ answer. refl) (λ done. set_called)
