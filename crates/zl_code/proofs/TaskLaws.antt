-- What the calls on jobs and processes say where they aren't refused: who is made, started or killed, and in which job.
use Rattle.zl_code.proofs.Common.{Action, All, All-cons, All-nil, Body, Created, DESTROY, Entry, IsSound, IsSoundWait, IsTrue, JobBody, Library, List}
use Rattle.zl_code.proofs.Common.{MANAGE_PROCESS, Map, None, Object, Option, Process, ProcessBody, Ready, Request, Some, StandsBelow, State, TRANSFER, WRITE}
use Rattle.zl_code.proofs.Common.{Wait, World, [], ap, arith, body_of, cases_Bool, created_process, entry_at, eq-eqb, eqb-true, examined, false, false≢true}
use Rattle.zl_code.proofs.Common.{first_some, get, get-put, get-update, gets_all, handle_operands, handles_in, inl, inr, insert_all, is_by_handle, is_process}
use Rattle.zl_code.proofs.Common.{is_some, job_create, job_within, kind_of, length, listed, ne_eqb, new_entry, none-some, not-false, object_at, on_process}
use Rattle.zl_code.proofs.Common.{operand, operand_of, option_to_list, process_create, process_start, process_without, refl, refusal, remove_all, row_of, runs}
use Rattle.zl_code.proofs.Common.{same_Some, slice_index_or, started_with, state_passes, subst, sym, taken_handles, takes, task_kill, true, with_object}
use Rattle.zl_code.proofs.Common.{with_process, ℕ, ◌<◌, ◌==◌, ◌∙◌, ◌∷◌, ◌≡◌, ◌≤◌}
use Rattle.zl_rights.specs.declared.kind.Kind.TheVariants as kind
use Rattle.zl_rights.specs.declared.status.Status.TheVariants as status
use Rattle.zl_code.specs.Starting.{cpu_given, is_created}
use Rattle.zl_code.proofs.CanStart.{started_may_get}
use Rattle.zl_code.proofs.Killing.{living_job, lives_beside, new_job_stands}
use Rattle.zl_code.proofs.Changes.{AreUnmade, process_is_made, Changes, changes, object_is_made, process_starts}
use Rattle.zl_code.proofs.Entering.{IsFine, HaveRoom, left_behind, all_enter, entry_is_fine, new_is_fine, no_process}
use Rattle.zl_code.proofs.Passing.{IsGranted, first_is_none, first_none, is_granted, listed_none, named_object, test_fails, unmade}

module _ (lib : Library) (w : World) (p : ℕ) (q : Process) (there : get w.processes p ≡ Some q) (ready : q.state ≡ Ready) where
  -- the world without the handles that the call takes
  abbrev left_by : Request → World
  left_by r = remove_all w p (taken_handles r)

  -- the job in which a process is to be is one
  pub has_job : (job program : ℕ) → refusal lib w p (process_create job program) ≡ None → IsGranted (kind.Job ∷ []) MANAGE_PROCESS (entry_at w p job)
  unfolding row_of refusal handle_operands examined operand
  has_job job program passes = is_granted w p (kind.Job ∷ []) MANAGE_PROCESS (entry_at w p job) (first_is_none _ _ (first_is_none _ _ passes))

  -- a process is made, and the first handle to it
  pub process_made : (job program : ℕ) (vs : List ℕ) → refusal lib w p (process_create job program) ≡ None
      → HaveRoom q (new_entry w.next_koid kind.Process ∷ [])
      → IsTrue (gets_all (get (left_by (process_create job program)).processes p) (new_entry w.next_koid kind.Process ∷ []) vs)
      → Changes w (left_by (process_create job program)) (insert_all
      (with_process (with_object (left_by (process_create job program)) (ProcessBody (object_at w p job))) w.next_koid (created_process lib program))
      p (new_entry w.next_koid kind.Process ∷ []) vs)
  unfolding taken_handles handle_operands row_of remove_all with_object listed
  process_made job program vs passes room gets =
      changes w made _ (object_is_made w w (ProcessBody (object_at w p job)) refl tt (λ s. below_next s))
      (changes made begun _ (process_is_made w made w.next_koid (created_process lib program) (record {
        free = no_process w;
        given = omega arith;
        empty = refl;
        nothing_last = refl;
        object = λ s. record {
          job = object_at w p job;
          there = rw (get-put w.objects w.next_koid new_object w.next_koid, eq-eqb w.next_koid w.next_koid refl) refl;
          depth = living.0;
          lives = lives_beside w (ProcessBody (object_at w p job)) (object_at w p job) living.0 living.1 living.2 living.3 s;
        };
      }) refl)
      (all_enter w begun p q (new_entry w.next_koid kind.Process ∷ []) vs
      (λ s. get-put w.processes w.next_koid (created_process lib program) p ∙ rw (ne_eqb w.next_koid p (λ e. apart s e)) there) (ap runs ready)
      (rw there at gets) (λ s. room)
      (record { free = λ s v none. unmade w p q there s v none; last = λ s v is. ((s.tables p q there).free v is).1 })
      (new_is_fine w w (ProcessBody (object_at w p job)) w.next_koid refl)))
    where
      made : World
      made = with_object w (ProcessBody (object_at w p job))

      new_object : Object
      new_object = record { body = ProcessBody (object_at w p job); raised = 0 }

      begun : World
      begun = with_process made w.next_koid (created_process lib program)

      apart : IsSound w → w.next_koid ≡ p → ⊥
      apart s e = let below : p < w.next_koid = s.processes p (ap is_some there) in omega (arith, e, below)

      living : (depth : ℕ) × (parent : ℕ) × (policy : Map Action) × (body_of w (object_at w p job) ≡ Some (JobBody parent depth policy false))
      living = living_job w (object_at w p job) (test_fails _ status.BadState (listed_none lib w p (process_create job program) passes).1.0)

      below_next : IsSound w → object_at w p job < w.next_koid
      below_next s =
          let (o, at, fits) = named_object w p job (kind.Job ∷ []) MANAGE_PROCESS (has_job job program passes) s.named in
          s.objects.below (object_at w p job) (ap is_some at)

  -- a new job stands below the one in which it is made
  pub job_stands : (j : ℕ) → refusal lib w p (job_create j) ≡ None → IsSound w
      → StandsBelow (with_object (left_by (job_create j)) (job_within (object_at w p j) (body_of w (object_at w p j)))).objects
      (left_by (job_create j)).next_koid (job_within (object_at w p j) (body_of w (object_at w p j)))
  unfolding taken_handles handle_operands row_of remove_all listed
  job_stands j passes s =
      let none = listed_none lib w p (job_create j) passes in
      new_job_stands w (object_at w p j) (test_fails _ status.BadState none.1.0) (test_fails _ status.OutOfRange none.0) s

  -- ---- a start and a kill

  -- of others the table is as it was
  pub leave_other : (v : World) (k : ℕ) (hs : List ℕ) → (p == k) ≡ false → get (remove_all v p hs).processes k ≡ get v.processes k
  unfolding remove_all on_process
  leave_other v k [] apart = refl
  leave_other v k (h ∷ hs) apart =
      leave_other (on_process v p (process_without h)) k hs apart ∙ (get-update v.processes p (process_without h) k ∙ rw apart refl)

  -- handles that leave end no wait by themselves
  pub leave_waits : (v : World) (hs : List ℕ) → (remove_all v p hs).waits ≡ v.waits
  unfolding remove_all on_process
  leave_waits v [] = refl
  leave_waits v (h ∷ hs) = leave_waits (on_process v p (process_without h)) hs

  -- the child of a start was made, and not started
  pub child_of : (process h word : ℕ) → refusal lib w p (process_start process h word) ≡ None
      → (x : Process) × (get w.processes (object_at w p process) ≡ Some x) × (x.state ≡ Created)
  unfolding is_process listed
  child_of process h word passes =
      by_process (get w.processes (object_at w p process)) refl
      (not-false _ (test_fails _ status.BadState (listed_none lib w p (process_start process h word) passes).0))
    where
      by_state : (x : Process) (s : State) → x.state ≡ s → is_created s ≡ true → x.state ≡ Created
      by_state x Created is h2 = is
      by_state x _ is h2 = absurd (false≢true h2)

      by_process : (o : Option Process) → get w.processes (object_at w p process) ≡ o → state_passes is_created o ≡ true
          → (x : Process) × (get w.processes (object_at w p process) ≡ Some x) × (x.state ≡ Created)
      by_process None is h2 = absurd (false≢true h2)
      by_process (Some x) is h2 = (x, is, by_state x x.state refl h2)

  -- so it isn't the caller
  pub child_apart : (process h word : ℕ) → refusal lib w p (process_start process h word) ≡ None → (p == object_at w p process) ≡ false
  child_apart process h word passes =
      ne_eqb p (object_at w p process)
      (λ e. created_ready (sym child.2 ∙ (ap (λ (y : Process). y.state) (same_Some child.0 q (sym child.1 ∙ (ap (get w.processes) (sym e) ∙ there))) ∙ ready)))
    where
      child : (x : Process) × (get w.processes (object_at w p process) ≡ Some x) × (x.state ≡ Created)
      child = child_of process h word passes

      created_ready : Created ≡ Ready → ⊥
      created_ready e = cc

  -- the handle that it starts with is live
  pub arg_there : (process h word : ℕ) → refusal lib w p (process_start process h word) ≡ None → (e : Entry) × (entry_at w p h ≡ Some e)
  unfolding row_of refusal handle_operands examined operand
  arg_there process h word passes =
      let first = operand_of w p (kind.Process ∷ []) WRITE (entry_at w p process) in
      let second = operand_of w p [] TRANSFER (entry_at w p h) in
      let both : first_some (first ∷ first_some (second ∷ None ∷ []) ∷ []) ≡ None = first_is_none _ _ passes in
      let granted = is_granted w p [] TRANSFER (entry_at w p h)
      (first_is_none second (None ∷ []) (first_is_none (first_some (second ∷ None ∷ [])) [] (first_none first (first_some (second ∷ None ∷ []) ∷ []) both))) in
      (granted.0, granted.1)

  pub one_entry : (o : Option Entry) → length (option_to_list o) ≤ 1
  one_entry None = omega arith
  one_entry (Some e) = omega arith

  -- a process that is started gets its handle, and is ready
  pub process_begins : (process h word : ℕ) (vs : List ℕ) → refusal lib w p (process_start process h word) ≡ None
      → IsTrue (gets_all (get (left_by (process_start process h word)).processes (object_at w p process)) (option_to_list (entry_at w p h)) vs)
      → Changes w (left_by (process_start process h word))
      (insert_all (on_process (left_by (process_start process h word)) (object_at w p process) (started_with vs word)) (object_at w p process)
      (option_to_list (entry_at w p h)) vs)
  unfolding on_process get
  process_begins process h word vs passes gets =
      changes u begun _
      (process_starts w u k (λ x. cpu_given vs word x.cpu) (λ x at. ap (λ (y : Process). y.state) (same_Some x child.0 (sym at ∙ there_in_u)) ∙ child.2))
      (all_enter w begun k (started_with vs word child.0) (option_to_list (entry_at w p h)) vs (λ s. there_begun) refl
      (rw (started_may_get (option_to_list (entry_at w p h)) vs vs word child.0) (rw there_in_u at gets))
      (λ s. let few : length (option_to_list (entry_at w p h)) ≤ 1 = one_entry (entry_at w p h) in rw (idle s).0 (omega (arith, few)))
      (record {
        free = λ s v none. subst (λ ws. AreUnmade ws k v) (sym (leave_waits w (taken_handles (process_start process h word)))) (nothing_made s v);
        last = λ s v is. absurd (none-some v (sym (idle s).1 ∙ is));
      })
      (entry_fine (entry_at w p h) refl))
    where
      u : World
      u = left_by (process_start process h word)

      k : ℕ
      k = object_at w p process

      begun : World
      begun = on_process u k (started_with vs word)

      child : (x : Process) × (get w.processes k ≡ Some x) × (x.state ≡ Created)
      child = child_of process h word passes

      there_in_u : get u.processes k ≡ Some child.0
      there_in_u = leave_other w k (taken_handles (process_start process h word)) (child_apart process h word passes) ∙ child.1

      there_begun : get begun.processes k ≡ Some (started_with vs word child.0)
      there_begun = get-update u.processes k (started_with vs word) k ∙ rw (eq-eqb k k refl, there_in_u) refl

      idle : IsSound w → (child.0.handles ≡ []) × (child.0.last ≡ None)
      idle s = (s.tables k child.0 child.1).idle (ap runs child.2)

      nothing_made : IsSound w → (v : ℕ) → AreUnmade w.waits k v
      nothing_made s v i d inside = by_wait (slice_index_or w.waits i d) (s.waits i d inside)
        where
          by_wait : (x : Wait) → IsSoundWait w x → is_by_handle k v x ≡ false
          by_wait x t = elim (cases_Bool (x.pid == k)) as (λ _. is_by_handle k v x ≡ false) [
            | inl made ↦
                let at : get (handles_in (get w.processes k)) x.value ≡ Some t.handle.0 = rw (eqb-true x.pid k made) at t.handle.1 in
                absurd (none-some t.handle.0 (sym (ap (λ m. get m x.value) (ap handles_in child.1 ∙ (idle s).0)) ∙ at))
            | inr other ↦ rw other refl
          ]

      entry_fine : (o : Option Entry) → entry_at w p h ≡ o → All (IsFine w begun.objects) (option_to_list o)
      entry_fine None is = All-nil (IsFine w begun.objects)
      entry_fine (Some e) is =
          All-cons (IsFine w begun.objects) e []
          (subst (λ (m : Map Object). IsFine w m e) (sym (left_behind w p q (taken_handles (process_start process h word)) there).1.objects)
          (entry_is_fine w p h e is)) (All-nil (IsFine w begun.objects))

  -- a task that is to be killed has a koid
  pub task_is_some : (task : ℕ) → refusal lib w p (task_kill task) ≡ None → IsSound w → (0 == object_at w p task) ≡ false
  unfolding row_of refusal handle_operands examined operand
  task_is_some task passes s =
      let (o, at, fits) = named_object w p task (kind.Process ∷ kind.Job ∷ []) DESTROY
      (is_granted w p (kind.Process ∷ kind.Job ∷ []) DESTROY (entry_at w p task) (first_is_none _ _ (first_is_none _ _ passes))) s.named in
      ne_eqb 0 (object_at w p task) (λ e. by_body o.body fits (s.tree (object_at w p task) o at) e)
    where
      by_body : (b : Body) → IsTrue (takes (kind.Process ∷ kind.Job ∷ []) (kind_of b)) → StandsBelow w.objects (object_at w p task) b
          → 0 ≡ object_at w p task → ⊥
      by_body (JobBody parent depth policy killed) fits h e = omega (arith, h.later, e)
      by_body (ProcessBody job) fits h e = omega (arith, h, e)
      by_body _ fits h e = false≢true fits
