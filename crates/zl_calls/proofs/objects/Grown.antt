-- One object more, with the handles that name it and are to enter a table: what the invariant says of both.
use Rattle.zl_calls.proofs.Common.{Agrees, All, All-nil, AreKeptBut, AreNamed, AreSound, Body, Bool, Entry, IsConsistent, IsNamed, IsTrue, List, Map, Message}
use Rattle.zl_calls.proofs.Common.{None, Object, Objects, Option, Pair, Process, ProcessValue, Some, StateValue, World, [], ap, arith, body_value, cases_Bool}
use Rattle.zl_calls.proofs.Common.{cond, count_by, default_rights_of, end_to, eq-eqb, eqb-true, false, false≢true, get, get-put, handles_to, has_key}
use Rattle.zl_calls.proofs.Common.{has_living_child_here, has_seen, if◌then◌else◌, inl, inr, is_child, is_in_job, is_job_at, is_job_in, is_kept, is_killed}
use Rattle.zl_calls.proofs.Common.{is_process, is_some, is_sorted, kept_all, kind_of, kind_of_pair, list_any, map, map-append, more_in_job, nat_cmp, nat_lt}
use Rattle.zl_calls.proofs.Common.{new_object, object_entry, object_value, process_entry, put, put_key, put_last, queue_held, queued_to, refl, runs, same_Some}
use Rattle.zl_calls.proofs.Common.{sorted_put, state_passes, stays_alone, subst, sum_by-cons, sym, true, with_new, within, world_value, ℕ, ◌++◌, ◌+◌, ◌<◌, ◌==◌}
use Rattle.zl_calls.proofs.Common.{◌^◌, ◌||◌, ◌∙◌, ◌∷◌, ◌≡◌}
use Rattle.zl_objects.specs.declared.object.Body.TheVariants as body
use Rattle.zl_objects.specs.declared.object.Pair.TheVariants as pair
use Rattle.zl_calls.proofs.objects.Counted.{never_named}
use Rattle.zl_calls.proofs.objects.Counting.{queues_grown, same_tables}
use Rattle.zl_calls.proofs.objects.SameBodies.{kept_each, still_agrees, still_named}
use Rattle.zl_calls.proofs.objects.Settled.{sound_of}

any_more : {X : Type 0} (test : X → Bool) (xs : List X) (x : X) → IsTrue (list_any test xs) → IsTrue (list_any test (xs ++ x ∷ []))
any_more test [] x some = absurd (false≢true some)
any_more test (y ∷ xs) x some = by_first (test y) some (any_more test xs x)
  where
    by_first : (b : Bool) → IsTrue (b || list_any test xs) → (IsTrue (list_any test xs) → IsTrue (list_any test (xs ++ x ∷ [])))
        → IsTrue (b || list_any test (xs ++ x ∷ []))
    by_first true h more = refl
    by_first false h more = more h

-- what is seen of the objects with a new one
pub grown_seen : (r : Objects) (b : Body) (handles : ℕ) → ((k : ℕ) → IsTrue (has_key r.objects k) → k < r.next_koid)
    → put (map object_entry r.objects) r.next_koid (object_value (new_object b handles)) ≡ map object_entry (with_new r b handles).objects
grown_seen r b handles given =
    put_last (map object_entry r.objects) r.next_koid (object_value (new_object b handles)) (λ k there. given k (sym (has_seen r.objects k) ∙ there))
    ∙ sym (map-append object_entry r.objects ((r.next_koid, new_object b handles) ∷ []))

-- where no message is, no handle is
pub none_queued : (j : ℕ) (b : Body) → queue_held b ≡ [] → ◌≡◌ {A = ℕ} (queued_to j (body_value b)) 0
none_queued j (body.ChannelEnd peer queue) empty = rw empty refl
none_queued j _ empty = refl

-- an object that is neither a process nor a killed job, in which no message is, and which stands in no job
pub record IsQuiet (b : Body) : Type 0 where
  pub agrees : (w : World) (k : ℕ) → is_process w runs k ≡ false → Agrees w k b
  pub empty : queue_held b ≡ []
  pub in_job : (m : Map Object) → IsTrue (is_in_job m b)
  pub alive : is_killed b ≡ false

-- such is a new end of a pair, which is of its kind
pub end_quiet : (pair : Pair) (peer : ℕ) → IsQuiet (end_to pair peer)
end_quiet pair.Channel peer = record { agrees = λ w k not. not; empty = refl; in_job = λ m. refl; alive = refl }
end_quiet pair.Eventpair peer = record { agrees = λ w k not. not; empty = refl; in_job = λ m. refl; alive = refl }

pub end_kind : (pair : Pair) (peer : ℕ) → kind_of_pair pair ≡ kind_of (body_value (end_to pair peer))
end_kind pair.Channel peer = refl
end_kind pair.Eventpair peer = refl

pub end_rights : (pair : Pair) → IsTrue (within (default_rights_of (kind_of_pair pair)) (default_rights_of (kind_of_pair pair)))
end_rights pair.Channel = refl
end_rights pair.Eventpair = refl

-- the invariant, where the handles m count and are to enter a table
pub record IsGrowing (ps : List Process) (m : Map Entry) (r : Objects) : Type 0 where
  pub sound : AreSound ps m r
  pub kept : AreKeptBut [] r.objects

pub growing_none : (ps : List Process) (r : Objects) → IsConsistent ps r → IsGrowing ps [] r
growing_none ps r consistent = record { sound = sound_of ps r consistent; kept = consistent.kept }

module _ (ps : List Process) (m : Map Entry) (r : Objects) (sound : AreSound ps m r) where
  given_key : (k : ℕ) (o : Object) → get r.objects k ≡ Some o → k < r.next_koid
  given_key k o at = sound.given_objects k (rw at refl)

  pub unnamed : ◌≡◌ {A = ℕ} (handles_to (world_value ps r) r.next_koid) 0
  unnamed = never_named ps m r sound r.next_koid (λ there. omega (arith, sound.given_objects r.next_koid there))

  -- ---- the new object, which so many handles name

  module _ (b : Body) (count : ℕ) where
    abbrev n : ℕ
    n = r.next_koid

    abbrev fresh : Object
    fresh = new_object b count

    abbrev grown : Objects
    grown = with_new r b count

    grown_is : put r.objects n fresh ≡ grown.objects
    grown_is = put_last r.objects n fresh sound.given_objects

    pub get_grown : (j : ℕ) → get grown.objects j ≡ (if n == j then Some fresh else get r.objects j)
    get_grown j = ap (λ (os : Map Object). get os j) (sym grown_is) ∙ get-put r.objects n fresh j

    -- an object afterwards is the new one, or was there before
    pub found_grown : (A : Type 0) (j : ℕ) (q : Object) → get grown.objects j ≡ Some q → (IsTrue (n == j) → fresh ≡ q → A)
        → ((n == j) ≡ false → get r.objects j ≡ Some q → A) → A
    found_grown A j q at new old =
        let read : (if n == j then Some fresh else get r.objects j) ≡ Some q = sym (get_grown j) ∙ at in
        elim (cases_Bool (n == j)) as (λ _. A) [ inl here ↦ new here (same_Some fresh q (rw here at read)) | inr apart ↦ old apart (rw apart at read) ]

    pub grown_named : (e : Entry) → IsNamed r.objects e → IsNamed grown.objects e
    grown_named e named = record {
      object = named.object;
      there = elim (cases_Bool (n == e.koid)) as (λ _. get grown.objects e.koid ≡ Some named.object) [
        | inl here ↦ absurd (omega (arith, given_key e.koid named.object named.there, eqb-true n e.koid here))
        | inr apart ↦ get_grown e.koid ∙ rw apart named.there
      ];
      kind = named.kind;
      rights = named.rights;
    }

    pub there_grown : get grown.objects n ≡ Some fresh
    there_grown = get_grown n ∙ rw (eq-eqb n n refl) refl

    not_there : (test : StateValue → Bool) → is_process (world_value ps r) test n ≡ false
    unfolding is_process
    not_there test = by_process (get (map process_entry ps) n) refl
      where
        by_process : (o : Option ProcessValue) → get (map process_entry ps) n ≡ o → state_passes test o ≡ false
        by_process None is = refl
        by_process (Some q) is = absurd (omega (arith, sound.given_processes n (rw is refl)))

    pub grown_in_order : IsTrue (is_sorted nat_cmp grown.objects)
    grown_in_order = rw (← grown_is) (sorted_put r.objects n fresh sound.objects_in_order)

    -- a job stays one
    pub job_grown : (j : ℕ) → IsTrue (is_job_at r.objects j) → IsTrue (is_job_at grown.objects j)
    job_grown j there = elim (cases_Bool (n == j)) as (λ _. IsTrue (is_job_at grown.objects j)) [
      | inl here ↦ absurd (omega (arith, sound.given_objects j (job_there (get r.objects j) there), eqb-true n j here))
      | inr apart ↦ rw (get_grown j, apart) there
    ]
      where
        job_there : (o : Option Object) → IsTrue (is_job_in o) → IsTrue (is_some o)
        job_there None h = absurd (false≢true h)
        job_there (Some o) h = refl

    pub still_in_job : (c : Body) → IsTrue (is_in_job r.objects c) → IsTrue (is_in_job grown.objects c)
    still_in_job = more_in_job r.objects grown.objects job_grown

    still_alone : (j : ℕ) (c : Body) → IsTrue (stays_alone r.objects j c) → IsTrue (stays_alone grown.objects j c)
    unfolding has_living_child_here
    still_alone j (body.Job own) alone = any_more (λ e. is_child j e.1.body) r.objects (n, fresh) alone
    still_alone j _ alone = alone

    -- what was kept before is kept
    pub still_kept : (j : ℕ) (q : Object) → IsTrue (is_kept r.objects j q) → IsTrue (is_kept grown.objects j q)
    still_kept j q kept = by_count (nat_lt 0 q.handles) kept
      where
        by_count : (b : Bool) → IsTrue (b || stays_alone r.objects j q.body) → IsTrue (b || stays_alone grown.objects j q.body)
        by_count true h = refl
        by_count false h = still_alone j q.body h

    -- what it is agrees with there being no such process, and no message is in it; none of the handles m names it, and so many of m2 do
    module _ (quiet : ((test : StateValue → Bool) → is_process (world_value ps r) test n ≡ false) → Agrees (world_value ps r) n b) (empty : queue_held b ≡ [])
        (in_job : IsTrue (is_in_job grown.objects b)) (koid : n < 2 ^ 62)
        (apart_from : ◌≡◌ {A = ℕ} (count_by (λ h. h.1.koid == n) m) 0) (m2 : Map Entry)
        (counted_is : (j : ℕ) → count_by (λ h. h.1.koid == j) m2 ≡ cond (n == j) count 0 + count_by (λ h. h.1.koid == j) m) where
      same_handles : (j : ℕ) → handles_to (world_value ps grown) j ≡ handles_to (world_value ps r) j
      same_handles j = same_tables ps r grown j (queues_grown r b count j (none_queued j b empty))

      pub grown_sound : AreSound ps m2 grown
      unfolding is_process
      grown_sound = record {
        processes_in_order = sound.processes_in_order;
        objects_in_order = rw (← grown_is) (sorted_put r.objects n fresh sound.objects_in_order);
        given_processes = λ k there. omega (arith, sound.given_processes k there);
        given_objects = λ j there. elim (put_key r.objects n fresh j (rw (← grown_is) at there)) as (λ _. j < n + 1) [
          | inl same ↦ omega (arith, same)
          | inr old ↦ omega (arith, sound.given_objects j old)
        ];
        koids = omega (arith, koid);
        above_zero = omega arith;
        no_zero = λ j there. elim (put_key r.objects n fresh j (rw (← grown_is) at there)) as (λ _. 0 < j) [
          | inl same ↦ omega (arith, same, sound.above_zero)
          | inr old ↦ sound.no_zero j old
        ];
        tables = sound.tables;
        named = λ k p v e at there. grown_named e (sound.named k p v e at there);
        queued = λ j q at. found_grown (AreNamed grown.objects (queue_held q.body)) j q at
            (λ here is.
            subst (λ (o : Object). AreNamed grown.objects (queue_held o.body)) is (rw empty (All-nil (λ (y : Message). All (IsNamed grown.objects) y.handles))))
            (λ apart old. still_named r.objects grown.objects grown_named (queue_held q.body) (sound.queued j q old));
        counted = λ j q at. found_grown (q.handles ≡ handles_to (world_value ps grown) j + count_by (λ h. h.1.koid == j) m2) j q at
            (λ here is.
            let same : n ≡ j = eqb-true n j here in
            let none : ◌≡◌ {A = ℕ} (handles_to (world_value ps r) j) 0 = rw (← same) unnamed in
            let others : ◌≡◌ {A = ℕ} (count_by (λ h. h.1.koid == j) m) 0 = rw (← same) apart_from in
            let all : cond (n == j) count 0 ≡ count = rw here refl in
            omega (arith, ap (λ (o : Object). o.handles) is, same_handles j, none, others, counted_is j, all))
            (λ apart old.
            let other : ◌≡◌ {A = ℕ} (cond (n == j) count 0) 0 = rw apart refl in
            omega (arith, sound.counted j q old, same_handles j, counted_is j, other));
        agrees = λ j q at. found_grown (Agrees (world_value ps grown) j q.body) j q at
            (λ here is. subst (λ (i : ℕ). Agrees (world_value ps grown) i q.body) (eqb-true n j here)
            (subst (λ (o : Object). Agrees (world_value ps grown) n o.body) is (as_before n b (quiet not_there))))
            (λ apart old. as_before j q.body (sound.agrees j q old));
        in_jobs = λ j q at. found_grown (IsTrue (is_in_job grown.objects q.body)) j q at
            (λ here is. subst (λ (o : Object). IsTrue (is_in_job grown.objects o.body)) is in_job)
            (λ apart old. still_in_job q.body (sound.in_jobs j q old));
      }
        where
          as_before : (j : ℕ) (c : Body) → Agrees (world_value ps r) j c → Agrees (world_value ps grown) j c
          as_before j c = still_agrees (world_value ps r) (world_value ps grown) j c (λ test. refl)

    -- a handle keeps it
    pub kept_grown : ◌≡◌ {A = ℕ} count 1 → AreKeptBut [] r.objects → AreKeptBut [] grown.objects
    kept_grown one kept = kept_each grown.objects grown_in_order (λ j q at. found_grown (IsTrue (is_kept grown.objects j q)) j q at
        (λ here is. subst (λ (o : Object). IsTrue (is_kept grown.objects j o)) is (rw one refl))
        (λ apart old. still_kept j q (kept_all r.objects kept j q old)))

-- the handle x names it, and is to enter a table too
pub grown_one : (ps : List Process) (m : Map Entry) (r : Objects) → IsGrowing ps m r → (b : Body)
    → (((test : StateValue → Bool) → is_process (world_value ps r) test r.next_koid ≡ false) → Agrees (world_value ps r) r.next_koid b) → queue_held b ≡ []
    → IsTrue (is_in_job (with_new r b 1).objects b) → r.next_koid < 2 ^ 62 → ◌≡◌ {A = ℕ} (count_by (λ h. h.1.koid == r.next_koid) m) 0 → (x : ℕ × Entry)
    → x.1.koid ≡ r.next_koid → IsGrowing ps (x ∷ m) (with_new r b 1)
grown_one ps m r growing b quiet empty in_job koid apart_from x names = record {
  sound = grown_sound ps m r growing.sound b 1 quiet empty in_job koid apart_from (x ∷ m)
      (λ j. sum_by-cons (λ h. cond (h.1.koid == j) 1 0) x m ∙ rw names refl);
  kept = kept_grown ps m r growing.sound b 1 refl growing.kept;
}
