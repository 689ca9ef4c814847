-- The call process_create: how it is refused, and what a process that is made leaves of the world and of the invariant.
use Rattle.zl_calls.proofs.Common.{Agrees, AreBlocked, AreSound, Body, Bool, Created, Entry, Free, Inserts, IsConsistent, IsTable, IsTrue, Library, List}
use Rattle.zl_calls.proofs.Common.{MANAGE_PROCESS, Map, None, Objects, Ok, Option, PlainCalls, Process, ProcessBody, ProcessValue, Program, Replies, Site, Some}
use Rattle.zl_calls.proofs.Common.{State, StateValue, Values, World, [], action_here, answer_if, ap, arith, body_of, cases_Bool, cond, count_by, create_refusal}
use Rattle.zl_calls.proofs.Common.{created_process, effect, entered_free, eqb-true, false, false≢true, first_some, free_entry, free_of, free_or, get, gives_ok}
use Rattle.zl_calls.proofs.Common.{handle_operands, has_ended, has_koids, has_room, has_room_in, if◌then◌else◌, inl, inr, insert_all, is_blocked, is_dead_here}
use Rattle.zl_calls.proofs.Common.{is_process, is_some, job_at, lacks_need, listed, lives, looked_up, map, map-append, may_choose, nat_le, ne_eqb, needs_more}
use Rattle.zl_calls.proofs.Common.{new_entry, new_free, new_handles, none-some, not, object_at, object_entry, on_process, operands_fault, option_map, option_or}
use Rattle.zl_calls.proofs.Common.{plain_refusal, process_at, process_create, process_entry, process_value, process_with, put, refl, remove_all, replied, runs}
use Rattle.zl_calls.proofs.Common.{slice_get, state_passes, state_value, subst, sum_by-cons, sym, taken, taken_handles, then_some, true, update, with_effect}
use Rattle.zl_calls.proofs.Common.{with_new, with_object, with_process, world_value, ℕ, ◌&&◌, ◌++◌, ◌+◌, ◌<◌, ◌==◌, ◌^◌, ◌∙◌, ◌∷◌, ◌≡◌}
use Rattle.zl_code.specs.Jobs.{is_dead}
use Rattle.zl_code.specs.declared.history.Outcome.TheVariants as outcome
use Rattle.zl_rights.specs.declared.kind.Kind.TheVariants as kind
use Rattle.zl_rights.specs.declared.status.Status.TheVariants as status
use Rattle.zl_objects.specs.declared.object.Body.TheVariants as body
use Rattle.zl_objects.specs.declared.object.Life.TheVariants as life
use Rattle.zl_calls.proofs.calls.Owned.{IsOwn, own_in, own_plain}
use Rattle.zl_calls.proofs.processes.Freed.{appended_by, entry_there}
use Rattle.zl_calls.proofs.parts.StartCalls.{process_there}
use Rattle.zl_calls.proofs.calls.Answered.{IsWrite, asking, may_get_inserted, replied_inserted, table_is}
use Rattle.zl_calls.proofs.objects.Grown.{IsGrowing, grown_seen, kept_grown, there_grown}
use Rattle.zl_calls.proofs.calls.JobCalls.{IsJobAt, body_seen, job_found, job_looked_up, stands_grown}
use Rattle.zl_calls.proofs.calls.MakeCalls.{HasRoom, first_entered}
use Rattle.zl_calls.proofs.processes.OneProcess.{found_process, get_process, new_is, process_sound, processes_are}
use Rattle.zl_calls.proofs.waking.BlockedLists.{still_blocked}
use Rattle.zl_calls.proofs.calls.Refused.{answers, is_found, first_looked_up, three_tests}
use Rattle.zl_calls.proofs.objects.Settled.{sound_of}

-- ---- lists

-- a change of an entry that isn't the last
get_before : {X : Type 0} (m : Map X) (n k : ℕ) (v x : X) → get m k ≡ Some x → get (m ++ (n, v) ∷ []) k ≡ Some x
unfolding get
get_before [] n k v x at = absurd (none-some x at)
get_before {X} (e ∷ m) n k v x at = elim (cases_Bool (e.0 == k)) as (λ _. get ((e ∷ m) ++ (n, v) ∷ []) k ≡ Some x) [
  | inl here ↦ rw here (rw here at at)
  | inr apart ↦ rw apart (get_before m n k v x (rw apart at at))
]

update_before : {X : Type 0} (m : Map X) (k n : ℕ) (f : X → X) (v : X) → (n == k) ≡ false → update (m ++ (n, v) ∷ []) k f ≡ update m k f ++ (n, v) ∷ []
unfolding update
update_before [] k n f v apart = rw apart refl
update_before {X} (e ∷ m) k n f v apart = elim (cases_Bool (e.0 == k)) as (λ _. update ((e ∷ m) ++ (n, v) ∷ []) k f ≡ update (e ∷ m) k f ++ (n, v) ∷ []) [
  | inl here ↦ rw here refl
  | inr other ↦ rw other (ap (λ (rest : Map X). e ∷ rest) (update_before m k n f v apart))
]

-- ---- the answer

module _ (lib : Library) (before : List Process) (r : Objects) (consistent : IsConsistent before r) (p : Process)
    (there : get (map process_entry before) p.pid ≡ Some (process_value p)) (job program : ℕ) where
  abbrev old_world : World
  old_world = world_value before r

  pub create_refused : plain_refusal lib old_world p.pid (process_create job program) ≡ answers (create_refusal lib p.table.entries r job program)
  unfolding handle_operands operands_fault listed has_room has_koids
  create_refused =
      first_looked_up lib old_world p.pid p.table.entries (rw there refl) (process_create job program) (create_refusal lib p.table.entries r job program)
      job (kind.Job ∷ []) MANAGE_PROCESS None refl (λ s is. rw is refl)
      (λ e is at. rw (is, there, at) (passes e (job_looked_up before r consistent p there job MANAGE_PROCESS e is) (slice_get lib program)))
    where
      room : Bool
      room = has_room_in p.table.entries && nat_le (r.next_koid + 1) (2 ^ 62)

      passes : (e : Entry) → IsJobAt r.objects e.koid → (o : Option Program)
          → first_some (answer_if (not (is_some o)) status.InvalidArgs ∷ answer_if (is_dead (body_of old_world e.koid)) status.BadState
          ∷ answer_if (lacks_need old_world e.koid o) status.NotSupported ∷ answer_if (not room) status.NoResources ∷ [])
          ≡ answers (option_or (then_some (not (is_some o)) status.InvalidArgs) (option_or (then_some (is_dead_here (job_at r.objects e.koid)) status.BadState)
          (option_or (then_some (needs_more (action_here (job_at r.objects e.koid)) o) status.NotSupported) (then_some (not room) status.NoResources))))
      passes e at None = refl
      passes e at (Some x) =
          rw (body_seen before r e.koid at, job_found r.objects e.koid at)
          (three_tests at.job.killed (needs_more (action_here (Some at.job)) (Some x)) (not room) status.BadState status.NotSupported status.NoResources)

-- ---- a process is made

-- p has become p2, whose table has the handle to the new process
module _ (lib : Library) (before mid : List Process) (r : Objects) (consistent : IsConsistent before r) (p p2 : Process) (write : IsWrite before mid p p2)
    (state : p2.state ≡ p.state)
    (job program made : ℕ) (above : Entry) (is_above : looked_up p.table.entries job (kind.Job ∷ []) MANAGE_PROCESS ≡ Ok above)
    (unrefused : create_refusal lib p.table.entries r job program ≡ None)
    (inserts : Inserts p.table (new_entry r.next_koid kind.Process) made p2.table) (has : HasRoom p.table.entries r.next_koid)
    (new : Process) (pid : new.pid ≡ r.next_koid) (created : process_value new ≡ created_process lib program) where
  abbrev n : ℕ
  n = r.next_koid

  abbrev b : Body
  b = body.Process above.koid life.Created

  abbrev grown : Objects
  grown = with_new r b 1

  abbrev entry : Entry
  entry = new_entry n kind.Process

  -- the processes with the new one, before the caller has its answer
  abbrev both : List Process
  both = before ++ new ∷ []

  abbrev after : List Process
  after = mid ++ new ∷ []

  abbrev w : World
  w = world_value before r

  sound : AreSound before [] r
  sound = sound_of before r consistent

  above_there : IsJobAt r.objects above.koid
  above_there = job_looked_up before r consistent p write.there job MANAGE_PROCESS above is_above

  -- ---- the caller stands there still

  apart : (n == p.pid) ≡ false
  apart = elim (cases_Bool (n == p.pid)) as (λ _. (n == p.pid) ≡ false) [
    | inl here ↦ absurd (omega (arith, eqb-true n p.pid here, consistent.given_processes p.pid (rw write.there refl)))
    | inr other ↦ other
  ]

  write_both : IsWrite both after p p2
  write_both = record {
    there = get_process before [] r sound new pid above.koid life.Created 1 p.pid ∙ rw apart write.there;
    writes = λ f is.
        map-append process_entry mid (new ∷ []) ∙ ap (λ (m : Map ProcessValue). m ++ process_entry new ∷ []) (write.writes f is)
        ∙ sym (ap (λ (m : Map ProcessValue). update m p.pid f) (map-append process_entry before (new ∷ []))
        ∙ update_before (map process_entry before) p.pid new.pid f (process_value new) (rw pid apart));
    free_there = ap (λ (m : Map Free). get m p.pid) (map-append free_entry before (new ∷ []))
        ∙ get_before (map free_entry before) new.pid p.pid (free_of new) (free_of p) write.free_there;
    frees =
        map-append free_entry mid (new ∷ []) ∙ ap (λ (m : Map Free). m ++ free_entry new ∷ []) write.frees
        ∙ sym (ap (λ (m : Map Free). update m p.pid (λ _. free_of p2)) (map-append free_entry before (new ∷ []))
        ∙ update_before (map free_entry before) p.pid new.pid (λ _. free_of p2) (free_of new) (rw pid apart));
  }

  -- ---- the invariant

  agrees_new : Agrees (world_value both grown) n b
  agrees_new = record { running = sym (is runs); living = sym (is lives); over = sym (is has_ended) }
    where
      is : (test : StateValue → Bool) → is_process (world_value both grown) test n ≡ test Created
      is test = new_is before [] r sound new pid above.koid life.Created 1 test ∙ ap (λ (x : ProcessValue). test x.state) created

  growing : IsGrowing both ((made, entry) ∷ []) grown
  unfolding get
  growing = record {
    sound = process_sound before [] r sound new pid above.koid life.Created 1
        (subst (λ (x : ProcessValue). IsTable x.handles) (sym created)
        (record { sorted = refl; few = omega arith; values = λ value has. absurd (false≢true has) }))
        (λ v e at. absurd (none-some e (ap (λ (x : ProcessValue). get x.handles v) (sym created) ∙ at)))
        agrees_new (stands_grown before [] r sound b 1 above.koid above_there) has.koid refl ((made, entry) ∷ [])
        (λ j. omega (
          arith,
          ap (λ (x : ProcessValue). count_by (λ h. h.1.koid == j) x.handles) created,
          sum_by-cons (λ (h : ℕ × Entry). cond (h.1.koid == j) 1 0) (made, entry) [],
        ));
    kept = kept_grown before [] r sound b 1 refl consistent.kept;
  }

  pub created_keeps : IsConsistent after grown
  created_keeps = first_entered both after p p2 write_both state r b made inserts has.place growing (there_grown before [] r sound b 1)

  -- ---- the list of the blocked

  pub created_blocked : is_blocked (state_value p.state) ≡ false → (blocked : List ℕ) → AreBlocked before blocked → AreBlocked after blocked
  created_blocked unblocked_is blocked are =
      still_blocked write_both unblocked_is (ap (λ (s : State). is_blocked (state_value s)) state ∙ unblocked_is) blocked (record {
        once = λ k. are.once k ∙ ap (λ (t : Bool). if t then 1 else 0) (sym (same_there k));
        counters = λ k q at waits. found_process before [] r sound new pid above.koid life.Created 1 (q.cpu.counter < 2 ^ 32) k q at
            (λ is. absurd (false≢true (sym (ap (λ (x : ProcessValue). is_blocked x.state) created)
            ∙ (ap (λ (x : ProcessValue). is_blocked x.state) is ∙ waits))))
            (λ old. are.counters k q old waits);
      })
    where
      no_new : get (map process_entry before) n ≡ None
      no_new = by_process (get (map process_entry before) n) refl
        where
          by_process : (o : Option ProcessValue) → get (map process_entry before) n ≡ o → o ≡ None
          by_process None is = refl
          by_process (Some q) is = absurd (omega (arith, consistent.given_processes n (rw is refl)))

      same_there : (k : ℕ) → state_passes is_blocked (get (map process_entry both) k) ≡ state_passes is_blocked (get (map process_entry before) k)
      same_there k = elim (cases_Bool (n == k))
          as (λ _. state_passes is_blocked (get (map process_entry both) k) ≡ state_passes is_blocked (get (map process_entry before) k)) [
            | inl here ↦ rw (get_process before [] r sound new pid above.koid life.Created 1 k, here, ← eqb-true n k here, no_new)
                (ap (λ (x : ProcessValue). is_blocked x.state) created)
            | inr apart ↦ rw (get_process before [] r sound new pid above.koid life.Created 1 k, apart) refl
          ]

  -- ---- the relation of calls

  module _ (base : Site) (replies : Replies (asking (process_create job program) base) status.Ok (made ∷ []) p p2) where
    abbrev create_site : Site
    create_site = asking (process_create job program) base

    koid_is : object_at w p.pid job ≡ above.koid
    koid_is = rw (table_is write r, is_found (get p.table.entries job) (kind.Job ∷ []) MANAGE_PROCESS above is_above) refl

    abbrev with_one : World
    with_one = with_process (with_object w (ProcessBody (object_at w p.pid job))) n (created_process lib program)

    with_one_is : world_value both grown ≡ with_one
    unfolding with_object
    with_one_is = λ i. record w {
      processes = (processes_are before [] r sound new pid above.koid life.Created 1 ∙ ap (put (map process_entry before) n) created) i;
      objects = (sym (grown_seen r b 1 consistent.given_objects)
          ∙ ap (λ (k : ℕ). put (map object_entry r.objects) n (record { body = ProcessBody k; raised = 0 })) (sym koid_is)) i;
      next_koid = n + 1;
    }

    create_pair : world_value after grown
        ≡ replied (with_effect lib w (taken w p.pid create_site) p.pid (process_create job program) (made ∷ [])) p.pid create_site status.Ok (made ∷ [])
    unfolding taken_handles handle_operands remove_all new_handles effect insert_all
    create_pair =
        replied_inserted write_both grown create_site made entry (world_value both grown) refl refl inserts replies
        ∙ ap (λ (x : World). replied (on_process x p.pid (process_with made entry)) p.pid create_site status.Ok (made ∷ [])) with_one_is

    create_chosen : IsTrue (may_choose w (taken w p.pid create_site) p.pid (process_create job program) (made ∷ []))
    unfolding taken_handles handle_operands remove_all may_choose new_handles
    create_chosen = rw (write.there, may_get_inserted p p2 (new_entry n kind.Process) made inserts) refl

    -- the lab would give the same value, and the new process has a new table
    fresh_by : new.table.free ≡ new_free → free_of new
        ≡ (if lives (state_value new.state) then entered_free (own_in before r) p.pid (process_create job program) new.pid else new_free)
    fresh_by fresh = ap (λ (x : ProcessValue). if lives x.state then new.table.free else new_free) created ∙ (fresh ∙ sym
        (ap (λ (x : ProcessValue). if lives x.state then entered_free (own_in before r) p.pid (process_create job program) new.pid else new_free) created
        ∙ rw (pid_apart) (ap free_or (entry_there free_of before new.pid ∙ none_yet (process_at before new.pid) (sym (process_there before new.pid))))))
      where
        pid_apart : (p.pid == new.pid) ≡ false
        pid_apart = rw pid (ne_eqb p.pid n (λ e. absurd (omega (arith, e, consistent.given_processes p.pid (rw write.there refl)))))

        none_yet : (q : Option Process) → option_map process_value q ≡ get (map process_entry before) new.pid → option_map free_of q ≡ None
        none_yet None is = refl
        none_yet (Some q) is = absurd (omega (arith, pid, consistent.given_processes new.pid (rw (← is) refl)))

    pub created_calls : new.table.free ≡ new_free → (c : PlainCalls lib w p.pid create_site (outcome.Answered status.Ok) (world_value after grown))
        × (is_process w lives p.pid ≡ true → IsOwn before after r p.pid (process_create job program) c.0)
    unfolding gives_ok new_handles taken_handles handle_operands
    created_calls fresh = (
      (Values (made ∷ []), rw (create_refused lib before r consistent p write.there job program, unrefused) (create_chosen, refl, create_pair)),
      λ living.
          let own = own_plain write r living (process_create job program) (record { none = refl; chosen = refl; made = refl; own = refl }) (entry ∷ [])
          (made ∷ []) refl
          (record { between = p2.table; inserts = inserts; rest = refl }) in
          (own.0, appended_by mid new (entered_free (own_in before r) p.pid (process_create job program)) own.1 (fresh_by fresh)),
    )
