-- A process of the list is written: the map by pids, and what the invariant says of processes.
use Rattle.zl_calls.proofs.Common.{Agrees, AreKeptBut, AreSound, Body, Bool, Entry, Inserts, IsConsistent, IsNamed, IsPlaceOf, IsTable, IsTrue, List, Map}
use Rattle.zl_calls.proofs.Common.{MatchOption, None, Objects, Option, Process, ProcessValue, Some, State, StateValue, [], ap, arith, cases_Bool, cond}
use Rattle.zl_calls.proofs.Common.{count_by, eqb-true, false, free_of, get, get-update, get_or, handles_to, has_key-update, inl, inr, is_process}
use Rattle.zl_calls.proofs.Common.{is_sorted-update, length, map, none-some, option_map, position, process_entry, process_value, refl, same_Some, set}
use Rattle.zl_calls.proofs.Common.{slice_get-get_or, state_passes, state_value, subst, sum_by-cons, sym, update, world_value, ℕ, ◌+◌, ◌<◌, ◌==◌, ◌∙◌, ◌∷◌, ◌≡◌}
use Rattle.zl_calls.proofs.Common.{◌⊎◌}
use Rattle.zl_calls.proofs.calls.Answered.{IsWrite}
use Rattle.zl_calls.proofs.objects.Counting.{count_put, counts_written, queues}
use Rattle.zl_calls.proofs.lists.Positions.{IsFirst, first_at, get_first, get_missing, update_first}
use Rattle.zl_calls.proofs.objects.SameBodies.{still_agrees}
use Rattle.zl_calls.proofs.objects.Settled.{consistent_of, sound_of}
use Rattle.zl_calls.proofs.tables.Tables.{inserted_table, found_inserted}

pub write_at : (ps : List Process) (pid place : ℕ) (p p2 : Process) → Some place ≡ position (λ q. q.pid == pid) ps → p ≡ get_or ps place p → p2.pid ≡ p.pid
    → IsWrite ps (set ps place p2) p p2
write_at ps pid place p p2 found read same =
    let first : IsFirst (λ (q : Process). q.pid) ps pid place p = first_at (λ (q : Process). q.pid) process_value ps pid place p (sym found) in
    let key : p.pid ≡ pid = ap (λ (q : Process). q.pid) read ∙ eqb-true (get_or ps place p).pid pid first.here in
    record {
      there = rw key (get_first (λ (q : Process). q.pid) process_value ps pid place p first ∙ ap (λ (q : Process). Some (process_value q)) (sym read));
      writes = λ f is. rw key (update_first (λ (q : Process). q.pid) process_value ps pid place p f p2 first
          (is ∙ ap (λ (q : Process). f (process_value q)) read) (same ∙ ap (λ (q : Process). q.pid) read));
      free_there = rw key (get_first (λ (q : Process). q.pid) free_of ps pid place p first ∙ ap (λ (q : Process). Some (free_of q)) (sym read));
      frees = rw key (update_first (λ (q : Process). q.pid) free_of ps pid place p (λ _. free_of p2) p2 first refl (same ∙ ap (λ (q : Process). q.pid) read));
    }

pub pid_read : (ps : List Process) (pid place : ℕ) (p : Process) → Some place ≡ position (λ q. q.pid == pid) ps → p ≡ get_or ps place p → p.pid ≡ pid
pid_read ps pid place p found read =
    let first : IsFirst (λ (q : Process). q.pid) ps pid place p = first_at (λ (q : Process). q.pid) process_value ps pid place p (sym found) in
    ap (λ (q : Process). q.pid) read ∙ eqb-true (get_or ps place p).pid pid first.here

-- the first place with the pid holds what the map has at the pid
pub place_is : (ps : List Process) (pid : ℕ) (o : Option ℕ) → o ≡ position (λ q. q.pid == pid) ps
    → MatchOption o (get (map process_entry ps) pid ≡ None) (IsPlaceOf ps pid)
place_is ps pid None is = get_missing (λ (q : Process). q.pid) process_value ps pid (sym is)
place_is [] pid (Some i) is = absurd (none-some i (sym is))
place_is (p ∷ ps) pid (Some i) is =
    let first : IsFirst (λ (q : Process). q.pid) (p ∷ ps) pid i p = first_at (λ (q : Process). q.pid) process_value (p ∷ ps) pid i p (sym is) in
    record {
      within = first.within;
      holds = get_first (λ (q : Process). q.pid) process_value (p ∷ ps) pid i p first
          ∙ sym (ap (option_map process_value) (slice_get-get_or (p ∷ ps) i p first.within));
    }

-- ---- what is found afterwards

module _ {before after : List Process} {p p2 : Process} (write : IsWrite before after p p2) where
  pub after_is : map process_entry after ≡ update (map process_entry before) p.pid (λ _. process_value p2)
  after_is = write.writes (λ _. process_value p2) refl

  pub get_after : (k : ℕ) → get (map process_entry after) k ≡ cond (p.pid == k) (Some (process_value p2)) (get (map process_entry before) k)
  get_after k =
      ap (λ (m : Map ProcessValue). get m k) after_is
      ∙ (get-update (map process_entry before) p.pid (λ _. process_value p2) k ∙ by_key (cases_Bool (p.pid == k)))
    where
      by_key : (IsTrue (p.pid == k)) ⊎ ((p.pid == k) ≡ false)
          → cond (p.pid == k) (option_map (λ _. process_value p2) (get (map process_entry before) k)) (get (map process_entry before) k)
          ≡ cond (p.pid == k) (Some (process_value p2)) (get (map process_entry before) k)
      by_key (inl here) = rw (here, ← eqb-true p.pid k here, write.there) refl
      by_key (inr apart) = rw apart refl

  -- what is there afterwards is the new process, or was there before
  pub found_after : (A : Type 0) (k : ℕ) (q : ProcessValue) → get (map process_entry after) k ≡ Some q → (process_value p2 ≡ q → A)
      → (get (map process_entry before) k ≡ Some q → A) → A
  found_after A k q at new old = elim (cases_Bool (p.pid == k)) as (λ _. A) [
    | inl here ↦ new (same_Some (process_value p2) q (rw (get_after k, here) at at))
    | inr apart ↦ old (rw (get_after k, apart) at at)
  ]

  -- a test of the process says what it said before
  pub alike_states : (test : StateValue → Bool) → test (state_value p2.state) ≡ test (state_value p.state) → (r r2 : Objects) (k : ℕ)
      → is_process (world_value after r2) test k ≡ is_process (world_value before r) test k
  unfolding is_process
  alike_states test alike r r2 k =
      elim (cases_Bool (p.pid == k)) as (λ _. state_passes test (get (map process_entry after) k) ≡ state_passes test (get (map process_entry before) k)) [
        | inl here ↦ rw (get_after k, here, ← eqb-true p.pid k here, write.there) alike
        | inr apart ↦ rw (get_after k, apart) refl
      ]

  pub same_states : p2.state ≡ p.state → (r r2 : Objects) (k : ℕ) (test : StateValue → Bool)
      → is_process (world_value after r2) test k ≡ is_process (world_value before r) test k
  same_states same r r2 k test = alike_states test (ap (λ (s : State). test (state_value s)) same) r r2 k

  -- ---- the invariant

  pub same_agrees : p2.state ≡ p.state → (r : Objects) (k : ℕ) (b : Body) → Agrees (world_value before r) k b → Agrees (world_value after r) k b
  same_agrees same r k b = still_agrees (world_value before r) (world_value after r) k b (same_states same r r k)

  -- the handles m counted beside those in tables and queues, and m2 do now
  pub written_sound : (m m2 : Map Entry) (r : Objects) → AreSound before m r
      → ((k : ℕ) (b : Body) → Agrees (world_value before r) k b → Agrees (world_value after r) k b)
      → IsTable p2.table.entries → ((v : ℕ) (e : Entry) → get p2.table.entries v ≡ Some e → IsNamed r.objects e)
      → ((k : ℕ) → handles_to (world_value after r) k + count_by (λ h. h.1.koid == k) m2
      ≡ handles_to (world_value before r) k + count_by (λ h. h.1.koid == k) m) → AreSound after m2 r
  written_sound m m2 r sound agree table named counts = record {
    processes_in_order = rw (after_is, is_sorted-update (map process_entry before) p.pid (λ _. process_value p2)) sound.processes_in_order;
    objects_in_order = sound.objects_in_order;
    given_processes = λ k there. sound.given_processes k
        (sym (has_key-update (map process_entry before) p.pid (λ _. process_value p2) k) ∙ (rw after_is at there));
    given_objects = sound.given_objects;
    koids = sound.koids;
    above_zero = sound.above_zero;
    no_zero = sound.no_zero;
    tables = λ k q at. found_after (IsTable q.handles) k q at
        (λ is. subst (λ (x : ProcessValue). IsTable x.handles) is table) (sound.tables k q);
    named = λ k q v e at there. found_after (IsNamed r.objects e) k q at (λ is. named v e (ap (λ (x : ProcessValue). get x.handles v) is ∙ there))
        (λ old. sound.named k q v e old there);
    queued = sound.queued;
    counted = λ k o at. sound.counted k o at ∙ sym (counts k);
    agrees = λ k o at. agree k o.body (sound.agrees k o at);
    in_jobs = sound.in_jobs;
  }

  -- the handles m have entered its table
  pub entered : (m : Map Entry) (r : Objects) → AreSound before m r → AreKeptBut [] r.objects
      → ((k : ℕ) (b : Body) → Agrees (world_value before r) k b → Agrees (world_value after r) k b)
      → IsTable p2.table.entries → ((v : ℕ) (e : Entry) → get p2.table.entries v ≡ Some e → IsNamed r.objects e)
      → ((k : ℕ) → handles_to (world_value after r) k ≡ handles_to (world_value before r) k + count_by (λ h. h.1.koid == k) m) → IsConsistent after r
  entered m r sound kept agree table named counts = consistent_of after r (written_sound m [] r sound agree table named (λ k. omega (arith, counts k))) kept

  pub same_counts : (r r2 : Objects) (k : ℕ) → queues r2.objects k ≡ queues r.objects k → p2.table ≡ p.table
      → handles_to (world_value after r2) k ≡ handles_to (world_value before r) k
  same_counts r r2 k queued table =
      let none : count_by (λ h. h.1.koid == k) p2.table.entries ≡ count_by (λ h. h.1.koid == k) p.table.entries + 0 = rw table (omega arith) in
      counts_written before after p p2 r r2 k 0 write queued none ∙ omega arith

  -- its table stays
  pub keeps_table : (r : Objects) → IsConsistent before r
      → ((k : ℕ) (b : Body) → Agrees (world_value before r) k b → Agrees (world_value after r) k b) → p2.table ≡ p.table → IsConsistent after r
  keeps_table r consistent agree table = entered [] r (sound_of before r consistent) consistent.kept agree
      (rw table (consistent.tables p.pid (process_value p) write.there))
      (λ v e at. consistent.named p.pid (process_value p) v e write.there (rw table at at))
      (λ k. omega (arith, same_counts r r k refl table))

  -- nothing but registers and the counter changes
  pub refusal_keeps : (r : Objects) → IsConsistent before r → p2.table ≡ p.table → p2.state ≡ p.state → IsConsistent after r
  refusal_keeps r consistent table state = keeps_table r consistent (same_agrees state r) table

  -- a handle that counted beside the tables enters it
  module _ (e : Entry) (made : ℕ) (inserts : Inserts p.table e made p2.table) where
    inserted_counts : (r : Objects) (j : ℕ) → handles_to (world_value after r) j ≡ handles_to (world_value before r) j + cond (e.koid == j) 1 0
    inserted_counts r j = counts_written before after p p2 r r j (cond (e.koid == j) 1 0) write refl
        (ap (λ (m : Map Entry). count_by (λ x. x.1.koid == j) m) inserts.entries ∙ count_put (λ x. x.1.koid == j) p.table.entries made e inserts.unused)

    pub one_entered : (r : Objects) → AreSound before ((made, e) ∷ []) r → AreKeptBut [] r.objects → p2.state ≡ p.state → length p.table.entries < 1024
        → IsNamed r.objects e → IsConsistent after r
    one_entered r sound kept state room named = entered ((made, e) ∷ []) r sound kept (same_agrees state r)
        (inserted_table p.table e made p2.table (sound.tables p.pid (process_value p) write.there) room inserts)
        (λ v x at. found_inserted (IsNamed r.objects x) p.table e made p2.table inserts v x at
        (λ is. subst (λ (y : Entry). IsNamed r.objects y) is named)
        (λ old. sound.named p.pid (process_value p) v x write.there old))
        (λ j. omega (arith, inserted_counts r j, sum_by-cons (λ (h : ℕ × Entry). cond (h.1.koid == j) 1 0) (made, e) []))
