-- One process more, with its object: what the invariant says of both.
use Rattle.zl_calls.proofs.Common.{Agrees, All, All-nil, AreNamed, AreSound, Body, Bool, Entry, IsNamed, IsTable, IsTrue, Life, List, Map, Message, Object}
use Rattle.zl_calls.proofs.Common.{Objects, Process, ProcessValue, Some, StateValue, [], ap, arith, cases_Bool, cond, count_by, eq-eqb, eqb-true, false, get}
use Rattle.zl_calls.proofs.Common.{get-put, handles_to, if◌then◌else◌, inl, inr, is_in_job, is_process, map, map-append, new_object, process_entry}
use Rattle.zl_calls.proofs.Common.{process_value, put, put_key, put_last, queue_held, refl, same_Some, sorted_put, state_value, subst, sum_by, sum_by-append}
use Rattle.zl_calls.proofs.Common.{sum_by-cons, sym, with_new, world_value, ℕ, ◌++◌, ◌+◌, ◌<◌, ◌==◌, ◌^◌, ◌∙◌, ◌∷◌, ◌≡◌, ◌⊎◌}
use Rattle.zl_objects.specs.declared.object.Body.TheVariants as body
use Rattle.zl_calls.proofs.objects.Counting.{queues_grown}
use Rattle.zl_calls.proofs.objects.Grown.{found_grown, grown_in_order, grown_named, still_in_job, unnamed}
use Rattle.zl_calls.proofs.objects.SameBodies.{still_agrees, still_named}

-- so many handles name the object of the process p, which is the last of all
module _ (ps : List Process) (m : Map Entry) (r : Objects) (sound : AreSound ps m r) (p : Process) (pid : p.pid ≡ r.next_koid) (job : ℕ) (own : Life)
    (count : ℕ) where
  abbrev n : ℕ
  n = r.next_koid

  abbrev b : Body
  b = body.Process job own

  abbrev fresh : Object
  fresh = new_object b count

  abbrev grown : Objects
  grown = with_new r b count

  abbrev after : List Process
  after = ps ++ p ∷ []

  pub processes_are : map process_entry after ≡ put (map process_entry ps) n (process_value p)
  processes_are = map-append process_entry ps (p ∷ []) ∙ ap (λ (k : ℕ). map process_entry ps ++ (k, process_value p) ∷ []) pid
      ∙ sym (put_last (map process_entry ps) n (process_value p) sound.given_processes)

  -- ---- what is found afterwards

  pub get_process : (j : ℕ) → get (map process_entry after) j ≡ (if n == j then Some (process_value p) else get (map process_entry ps) j)
  get_process j = ap (λ (m : Map ProcessValue). get m j) processes_are ∙ get-put (map process_entry ps) n (process_value p) j

  pub found_process : (A : Type 0) (j : ℕ) (q : ProcessValue) → get (map process_entry after) j ≡ Some q → (process_value p ≡ q → A)
      → (get (map process_entry ps) j ≡ Some q → A) → A
  found_process A j q at new old =
      let read : (if n == j then Some (process_value p) else get (map process_entry ps) j) ≡ Some q = sym (get_process j) ∙ at in
      elim (cases_Bool (n == j)) as (λ _. A) [ inl here ↦ new (same_Some (process_value p) q (rw here at read)) | inr apart ↦ old (rw apart at read) ]

  pub new_is : (test : StateValue → Bool) → is_process (world_value after grown) test n ≡ test (state_value p.state)
  unfolding is_process
  new_is test = rw (get_process n, eq-eqb n n refl) refl

  others : (j : ℕ) → (n == j) ≡ false → (test : StateValue → Bool) → is_process (world_value after grown) test j ≡ is_process (world_value ps r) test j
  unfolding is_process
  others j apart test = rw (get_process j, apart) refl

  abbrev in_one : ℕ → ℕ × ProcessValue → ℕ
  in_one j e = count_by (λ h. h.1.koid == j) e.1.handles

  pub counts : (j : ℕ) → handles_to (world_value after grown) j ≡ handles_to (world_value ps r) j + count_by (λ h. h.1.koid == j) p.table.entries
  unfolding handles_to
  counts j =
      let tables : sum_by (in_one j) (map process_entry ps ++ process_entry p ∷ []) ≡ sum_by (in_one j) (map process_entry ps) + sum_by (in_one j)
      (process_entry p ∷ [])
      = sum_by-append (in_one j) (map process_entry ps) (process_entry p ∷ []) in
      let one : sum_by (in_one j) (process_entry p ∷ []) ≡ in_one j (process_entry p) + 0 = sum_by-cons (in_one j) (process_entry p) [] in
      rw (map-append process_entry ps (p ∷ [])) (omega (arith, tables, one, queues_grown r b count j refl))

  -- ---- the invariant

  -- none of the handles m names the object; its own handles have entered, and the handles m2 are to enter
  module _ (table : IsTable p.table.entries) (names : (v : ℕ) (e : Entry) → get p.table.entries v ≡ Some e → IsNamed r.objects e)
      (agrees : Agrees (world_value after grown) n b) (in_job : IsTrue (is_in_job grown.objects b)) (koid : n < 2 ^ 62)
      (apart_from : ◌≡◌ {A = ℕ} (count_by (λ h. h.1.koid == n) m) 0) (m2 : Map Entry)
      (counted_is : (j : ℕ)
      → count_by (λ h. h.1.koid == j) p.table.entries + count_by (λ h. h.1.koid == j) m2 ≡ cond (n == j) count 0 + count_by (λ h. h.1.koid == j) m) where
    objects_are : grown.objects ≡ put r.objects n fresh
    objects_are = sym (put_last r.objects n fresh sound.given_objects)

    below : {P : Type 0} {k : ℕ} → (k ≡ n) ⊎ P → (P → k < n) → k < n + 1
    below (inl same) old = omega (arith, same)
    below (inr there) old = omega (arith, old there)

    pub process_sound : AreSound after m2 grown
    process_sound = record {
      processes_in_order = rw processes_are (sorted_put (map process_entry ps) n (process_value p) sound.processes_in_order);
      objects_in_order = grown_in_order ps m r sound b count;
      given_processes = λ k there. below (put_key (map process_entry ps) n (process_value p) k (rw processes_are at there)) (sound.given_processes k);
      given_objects = λ k there. below (put_key r.objects n fresh k (rw objects_are at there)) (sound.given_objects k);
      koids = omega (arith, koid);
      above_zero = omega arith;
      no_zero = λ k there. elim (put_key r.objects n fresh k (rw objects_are at there)) as (λ _. 0 < k) [
        | inl same ↦ omega (arith, same, sound.above_zero)
        | inr old ↦ sound.no_zero k old
      ];
      tables = λ k q at. found_process (IsTable q.handles) k q at
          (λ is. subst (λ (x : ProcessValue). IsTable x.handles) is table) (sound.tables k q);
      named = λ k q v e at there. grown_named ps m r sound b count e
          (found_process (IsNamed r.objects e) k q at (λ is. names v e (ap (λ (x : ProcessValue). get x.handles v) is ∙ there))
          (λ old. sound.named k q v e old there));
      queued = λ j q at. found_grown ps m r sound b count (AreNamed grown.objects (queue_held q.body)) j q at
          (λ here is. subst (λ (x : Object). AreNamed grown.objects (queue_held x.body)) is (All-nil (λ (x : Message). All (IsNamed grown.objects) x.handles)))
          (λ apart old. still_named r.objects grown.objects (grown_named ps m r sound b count) (queue_held q.body) (sound.queued j q old));
      counted = λ j q at. found_grown ps m r sound b count (q.handles ≡ handles_to (world_value after grown) j + count_by (λ h. h.1.koid == j) m2) j q at
          (λ here is.
          let same : n ≡ j = eqb-true n j here in
          let none : ◌≡◌ {A = ℕ} (handles_to (world_value ps r) j) 0 = rw (← same) (unnamed ps m r sound) in
          let none_of_m : ◌≡◌ {A = ℕ} (count_by (λ h. h.1.koid == j) m) 0 = rw (← same) apart_from in
          let all : cond (n == j) count 0 ≡ count = rw here refl in
          omega (arith, ap (λ (o : Object). o.handles) is, counts j, none, none_of_m, counted_is j, all))
          (λ apart old.
          let other : ◌≡◌ {A = ℕ} (cond (n == j) count 0) 0 = rw apart refl in
          omega (arith, sound.counted j q old, counts j, counted_is j, other));
      agrees = λ j q at. found_grown ps m r sound b count (Agrees (world_value after grown) j q.body) j q at
          (λ here is. subst (λ (i : ℕ). Agrees (world_value after grown) i q.body) (eqb-true n j here)
          (subst (λ (x : Object). Agrees (world_value after grown) n x.body) is agrees))
          (λ apart old. still_agrees (world_value ps r) (world_value after grown) j q.body (others j apart) (sound.agrees j q old));
      in_jobs = λ j q at. found_grown ps m r sound b count (IsTrue (is_in_job grown.objects q.body)) j q at
          (λ here is. subst (λ (x : Object). IsTrue (is_in_job grown.objects x.body)) is in_job)
          (λ apart old. still_in_job ps m r sound b count q.body (sound.in_jobs j q old));
    }
