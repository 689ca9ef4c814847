-- Once no handle is left to go and nothing is left that nothing keeps, the largest held set is left.
use Rattle.zl_objects.proofs.Common.{Agrees, AreKeptBut, AreSameButWaits, Body, Bool, Cascades, ChannelEnd, Entry, IsExact, IsTrue, Koids, LeavesLargest, List}
use Rattle.zl_objects.proofs.Common.{Map, Message, None, Object, Objects, Option, Releases, Settles, Some, World, and_from, and_parts, ap, arith}
use Rattle.zl_objects.proofs.Common.{body_value, cases_Bool, cond, count_by, eq-eqb, eqb-true, false, false≢true, flat_map-cons, get, get-without, goes}
use Rattle.zl_objects.proofs.Common.{has_key, has_key-update, has_living_child_here, held_once_less, if◌then◌else◌, in_queue, in_table, inl, inr, is_above}
use Rattle.zl_objects.proofs.Common.{is_alive, is_child, is_held, is_in_job, is_job_at, is_job_here, is_kept, is_koid, is_process, is_process_of, is_some}
use Rattle.zl_objects.proofs.Common.{is_sorted-update, keeper_of, koids_in, let_go, list_any, lives, map, named_in, nat_lt, nat_tests, none_left, not}
use Rattle.zl_objects.proofs.Common.{object_entry, object_value, option_map, or_cases, or_left, or_parts, or_right, queue_held, refl, runs, sorted_without}
use Rattle.zl_objects.proofs.Common.{stays_alone, subst, sum_by, sum_by-append, sum_by-cons, sym, true, update, waits_end, with_all, with_objects, without, ℕ}
use Rattle.zl_objects.proofs.Common.{◌&&◌, ◌++◌, ◌+◌, ◌<◌, ◌==◌, ◌||◌, ◌∙◌, ◌∷◌, ◌≡◌, ◌⊎◌}
use Rattle.zl_rights.proofs.Common.{has_living_child, queue_of, []}
use Rattle.zl_rights.proofs.MapTests.{any_at}
use Rattle.zl_rights.specs.Counts.{handles_to, queued_to}
use Rattle.zl_rights.specs.World.{Object as ObjectValue, Body as BodyValue}
use Rattle.zl_rights.specs.Signals.{is_job_below}
use Rattle.zl_rights.specs.Settle.{IsHeld, names}
use Rattle.zl_objects.specs.declared.object.Body.TheVariants as body
use Rattle.zl_objects.proofs.Sums.{sum_without, any_summed, summed_any, any_counted, count_none, positive_part, any_there}
use Rattle.zl_objects.proofs.Bare.{IsAlike, agrees_same, alike, has_same, in_job_same, seen_same, sorted_same}
use Rattle.zl_objects.proofs.Bodies.{Changed, changed, changed_body, in_job_updated, found_left, has_left}
use Rattle.zl_objects.proofs.Found.{Found, any_found}
use Rattle.zl_objects.proofs.Removing.{settles_all, settles_removed}
use Rattle.std.proofs.Math.Bool.{and-false, and-true, or-false}

-- ---- what is seen of the objects

update_unseen : (m : Map Object) (k : ℕ) → map object_entry (update m k held_once_less) ≡ map object_entry m
unfolding update
update_unseen [] k = refl
update_unseen (e ∷ m) k = elim (cases_Bool (e.0 == k)) as (λ _. map object_entry (update (e ∷ m) k held_once_less) ≡ map object_entry (e ∷ m)) [
  | inl here ↦ rw (here, eqb-true e.0 k here) refl
  | inr apart ↦ rw apart (ap (λ (rest : Map ObjectValue). object_entry e ∷ rest) (update_unseen m k))
]

without_seen : (m : Map Object) (k : ℕ) → map object_entry (without m k) ≡ without (map object_entry m) k
unfolding without
without_seen [] k = refl
without_seen (e ∷ m) k = elim (cases_Bool (e.0 == k)) as (λ _. map object_entry (without (e ∷ m) k) ≡ without (map object_entry (e ∷ m)) k) [
  | inl here ↦ rw here (without_seen m k)
  | inr apart ↦ rw apart (ap (λ (rest : Map ObjectValue). object_entry e ∷ rest) (without_seen m k))
]

pub get_seen : (m : Map Object) (k : ℕ) → get (map object_entry m) k ≡ option_map object_value (get m k)
unfolding get
get_seen [] k = refl
get_seen (e ∷ m) k = elim (cases_Bool (e.0 == k)) as (λ _. get (map object_entry (e ∷ m)) k ≡ option_map object_value (get (e ∷ m) k)) [
  | inl here ↦ rw here refl
  | inr apart ↦ rw apart (get_seen m k)
]

pub has_seen : (m : Map Object) (k : ℕ) → has_key (map object_entry m) k ≡ has_key m k
has_seen m k = rw (get_seen m k) (by_object (get m k))
  where
    by_object : (o : Option Object) → is_some (option_map object_value o) ≡ is_some o
    by_object None = refl
    by_object (Some o) = refl

sum_seen : (n : ℕ × ObjectValue → ℕ) (m : Map Object) → sum_by n (map object_entry m) ≡ sum_by (λ e. n (object_entry e)) m
sum_seen n [] = refl
sum_seen n (e ∷ m) = omega (arith, sum_by-cons n (object_entry e) (map object_entry m), sum_by-cons (λ x. n (object_entry x)) e m, sum_seen n m)

-- ---- counts

-- a queue in which a handle names k counts
pub queue_named : (k : ℕ) (b : BodyValue) → IsTrue (names k (queue_of b)) → 0 < queued_to k b
queue_named k (ChannelEnd peer queue) h =
    any_summed (λ m. count_by (λ h. h.koid == k) m.handles) (λ m. list_any (λ h. h.koid == k) m.handles) (λ m. any_counted (λ h. h.koid == k) m.handles) queue h
queue_named k _ h = absurd (false≢true h)

-- and back
pub named_queue : (k : ℕ) (b : BodyValue) → names k (queue_of b) ≡ false → ◌≡◌ {A = ℕ} (queued_to k b) 0
named_queue k (ChannelEnd peer queue) h = no_sum queue h
  where
    no_count : (es : List Entry) → list_any (λ (h : Entry). h.koid == k) es ≡ false → ◌≡◌ {A = ℕ} (count_by (λ (h : Entry). h.koid == k) es) 0
    no_count [] h = refl
    no_count (e ∷ es) h =
        let both = or_parts (e.koid == k) (list_any (λ (h : Entry). h.koid == k) es) h in
        let zero : ◌≡◌ {A = ℕ} (cond (e.koid == k) 1 0) 0 = rw both.0 refl in
        omega (arith, sum_by-cons (λ (h : Entry). cond (h.koid == k) 1 0) e es, zero, no_count es both.1)

    no_sum : (ms : List Message) → names k ms ≡ false → ◌≡◌ {A = ℕ} (sum_by (λ m. count_by (λ h. h.koid == k) m.handles) ms) 0
    no_sum [] h = refl
    no_sum (m ∷ ms) h =
        let both = or_parts (list_any (λ h. h.koid == k) m.handles) (names k ms) h in
        omega (arith, sum_by-cons (λ m. count_by (λ h. h.koid == k) m.handles) m ms, no_count m.handles both.0, no_sum ms both.1)
named_queue k _ h = refl

queue_counts : (k : ℕ) (es : List Entry) → count_by (λ j. j == k) (koids_in es) ≡ count_by (λ (h : Entry). h.koid == k) es
queue_counts k [] = refl
queue_counts k (e ∷ es) =
    omega (arith, sum_by-cons (λ j. cond (j == k) 1 0) e.koid (koids_in es), sum_by-cons (λ (h : Entry). cond (h.koid == k) 1 0) e es, queue_counts k es)

one_queue : (k : ℕ) (ms : List Message) → sum_by (λ (m : Message). count_by (λ (h : Entry). h.koid == k) m.handles) ms ≡ count_by (λ j. j == k) (named_in ms)
one_queue k [] = refl
one_queue k (m ∷ ms) = rw (flat_map-cons (λ (x : Message). koids_in x.handles) m ms) (omega (
  arith,
  sum_by-cons (λ (x : Message). count_by (λ (h : Entry). h.koid == k) x.handles) m ms,
  sum_by-append (λ j. cond (j == k) 1 0) (koids_in m.handles) (named_in ms),
  queue_counts k m.handles,
  one_queue k ms,
))

-- what the queue of an object counts, once its handles have left
queue_moved : (k : ℕ) (b : Body) → queued_to k (body_value b) ≡ count_by (λ j. j == k) (named_in (queue_held b))
queue_moved k (body.ChannelEnd peer queue) = one_queue k queue
queue_moved k _ = refl

-- ---- children

-- the world sees a living child where the object is one
pub seen_child : (w : World) (k j : ℕ) (b : Body) → Agrees w j b
    → (is_job_below k (body_value b) || (is_process_of k (body_value b) && is_process w lives j)) ≡ is_child k b
seen_child w k j (body.Job own) agrees = by_state own.killed
  where
    by_state : (killed : Bool) → (((own.parent == k) && not killed) || false) ≡ is_koid k (if killed then None else Some own.parent)
    by_state true = or-false _ ∙ and-false (own.parent == k)
    by_state false = or-false _ ∙ and-true (own.parent == k)
seen_child w k j (body.Process job life) agrees = ap (λ b. (job == k) && b) (sym agrees.living) ∙ by_state (is_alive life)
  where
    by_state : (alive : Bool) → ((job == k) && alive) ≡ is_koid k (if alive then Some job else None)
    by_state true = and-true (job == k)
    by_state false = and-false (job == k)
seen_child w k j _ agrees = refl

-- ---- the law, after each change

pub any_seen : (test : ℕ × ObjectValue → Bool) (m : Map Object) → list_any test (map object_entry m) ≡ list_any (λ e. test (object_entry e)) m
any_seen test [] = refl
any_seen test (o ∷ m) = ap (λ b. test (object_entry o) || b) (any_seen test m)

module _ (w : World) (ks : List ℕ) (m : Map Object) (exact : IsExact w ks m) where
  -- one handle less
  pub less_exact : (k : ℕ) (rest : List ℕ) → ks ≡ k ∷ rest → IsExact w rest (update m k held_once_less)
  unfolding handles_to
  less_exact k rest is = record {
    in_order = rw (is_sorted-update m k held_once_less) exact.in_order;
    no_zero = λ j has. exact.no_zero j (sym (has_key-update m k held_once_less j) ∙ has);
    counted = λ j q at. by_key j q (changed held_once_less m k j q at) (cases_Bool (k == j));
    named = λ j some. rw (has_key-update m k held_once_less j) (exact.named j (omega (arith, some, parts j, same j)));
    agrees = λ j q at.
        let c : Changed held_once_less m k j q = changed held_once_less m k j q at in
        subst (Agrees w j) (sym (changed_body held_once_less (λ x. refl) m k j q c)) (exact.agrees j c.before c.there);
    in_jobs = λ j q at.
        let c : Changed held_once_less m k j q = changed held_once_less m k j q at in
        rw (changed_body held_once_less (λ x. refl) m k j q c, in_job_updated held_once_less (λ x. refl) m k c.before.body) (exact.in_jobs j c.before c.there);
  }
    where
      parts : (j : ℕ) → count_by (λ i. i == j) ks ≡ cond (k == j) 1 0 + count_by (λ i. i == j) rest
      parts j = rw is (sum_by-cons (λ i. cond (i == j) 1 0) k rest)

      same : (j : ℕ) → handles_to (with_objects w (update m k held_once_less)) j ≡ handles_to (with_objects w m) j
      same j = ap (λ (os : Map ObjectValue). handles_to (record w { objects = os }) j) (update_unseen m k)

      by_key : (j : ℕ) (q : Object) → Changed held_once_less m k j q → IsTrue (k == j) ⊎ ((k == j) ≡ false)
          → q.handles ≡ handles_to (with_objects w (update m k held_once_less)) j + count_by (λ i. i == j) rest
      by_key j q c (inl here) =
          let one : ◌≡◌ {A = ℕ} (cond (k == j) 1 0) 1 = rw here refl in
          let was : q ≡ held_once_less c.before = c.is ∙ rw here refl in
          let fewer : q.handles ≡ (held_once_less c.before).handles = ap (λ (x : Object). x.handles) was in
          omega (arith, fewer, exact.counted j c.before c.there, parts j, one, same j)
      by_key j q c (inr apart) =
          let none : ◌≡◌ {A = ℕ} (cond (k == j) 1 0) 0 = rw apart refl in
          let was : q ≡ c.before = c.is ∙ rw apart refl in
          let still : q.handles ≡ c.before.handles = ap (λ (x : Object). x.handles) was in
          omega (arith, still, exact.counted j c.before c.there, parts j, none, same j)

  -- waits and reserved places don't count
  pub same_exact : (mid : Map Object) → AreSameButWaits m mid → IsExact w ks mid
  unfolding handles_to
  same_exact mid same = record {
    in_order = rw (sorted_same m mid same) exact.in_order;
    no_zero = λ k has. exact.no_zero k (sym (has_same m mid same k) ∙ has);
    counted = λ k o at. let was : IsAlike m k o = alike m mid same k o at in omega (arith, was.handles, exact.counted k was.before was.there, still k);
    named = λ k some. rw (has_same m mid same k) (exact.named k (omega (arith, some, still k)));
    agrees = λ k o at. let was : IsAlike m k o = alike m mid same k o at in
        agrees_same w k o.body was.before.body was.body (exact.agrees k was.before was.there);
    in_jobs = λ k o at. let was : IsAlike m k o = alike m mid same k o at in
        rw (in_job_same m mid same o.body was.before.body was.body) (exact.in_jobs k was.before was.there);
  }
    where
      still : (k : ℕ) → handles_to (with_objects w mid) k ≡ handles_to (with_objects w m) k
      still k = ap (λ (os : Map ObjectValue). handles_to (record w { objects = os }) k) (seen_same m mid same)

  -- an object that nothing keeps
  module _ (k : ℕ) (o : Object) (there : get m k ≡ Some o) (unkept : is_kept m k o ≡ false) where
    parts : (nat_lt 0 o.handles ≡ false) × (stays_alone m k o.body ≡ false)
    parts = or_parts (nat_lt 0 o.handles) (stays_alone m k o.body) unkept

    nothing : ◌≡◌ {A = ℕ} o.handles 0
    nothing = let no_handle : nat_lt 0 o.handles ≡ false = parts.0 in grind (arith, nat_tests, no_handle)

    -- a living child of the job k would keep it
    no_living : (j : ℕ) (q : Object) → get m j ≡ Some q → IsTrue (is_child k q.body) → ⊥
    unfolding has_living_child_here
    no_living j q at of = by_keeper (keeper_of q.body) (exact.in_jobs j q at) of
      where
        child : IsTrue (has_living_child_here m k)
        child = any_at (λ e. is_child k e.1.body) m j q at of

        by_body : (b : Body) → stays_alone m k b ≡ false → IsTrue (is_job_here b) → ⊥
        by_body (body.Job own) off h = false≢true (sym off ∙ child)
        by_body _ off h = false≢true h

        by_keeper : (o2 : Option ℕ) → IsTrue (is_above m o2) → IsTrue (is_koid k o2) → ⊥
        by_keeper None above here = false≢true here
        by_keeper (Some job) above here =
            let key : job ≡ k = eqb-true job k here in
            elim (or_cases (job == 0) (is_job_at m job) above) as (λ _. ⊥) [
              | inl zero ↦ let none : job ≡ 0 = eqb-true job 0 zero in omega (arith, key, none, exact.no_zero k (rw there refl))
              | inr in_job ↦ by_body o.body parts.1 (rw (key, there) at in_job)
            ]

    job_left : (j : ℕ) (q : Object) → get m j ≡ Some q → IsTrue (is_in_job m q.body) → IsTrue (is_in_job (without m k) q.body)
    job_left j q at in_job = by_keeper (keeper_of q.body) refl in_job
      where
        by_keeper : (o2 : Option ℕ) → keeper_of q.body ≡ o2 → IsTrue (is_above m o2) → IsTrue (is_above (without m k) o2)
        by_keeper None is above = refl
        by_keeper (Some job) is above = elim (cases_Bool (k == job)) as (λ _. IsTrue (is_above (without m k) (Some job))) [
          | inl here ↦ absurd (no_living j q at (rw is (eq-eqb job k (sym (eqb-true k job here)))))
          | inr apart ↦ rw (get-without m k job, apart) above
        ]

    pub left_exact : IsExact w (named_in (queue_held o.body) ++ ks) (without m k)
    unfolding handles_to
    left_exact = record {
      in_order = sorted_without m k exact.in_order;
      no_zero = λ j has. exact.no_zero j (has_left m k j has);
      counted = λ j q at. omega (arith, exact.counted j q (found_left m k j q at).1, moved j);
      named = λ j some. by_key j (omega (arith, some, moved j)) (cases_Bool (k == j));
      agrees = λ j q at. exact.agrees j q (found_left m k j q at).1;
      in_jobs = λ j q at. job_left j q (found_left m k j q at).1 (exact.in_jobs j q (found_left m k j q at).1);
    }
      where
        moved : (j : ℕ) → handles_to (with_objects w m) j + count_by (λ i. i == j) ks
            ≡ handles_to (with_objects w (without m k)) j + count_by (λ i. i == j) (named_in (queue_held o.body) ++ ks)
        moved j =
            let apart = sum_by-append (λ i. cond (i == j) 1 0) (named_in (queue_held o.body)) ks in
            omega (
              arith,
              apart,
              queue_moved j o.body,
              sum_seen (λ e. queued_to j e.1.body) m,
              sum_seen (λ e. queued_to j e.1.body) (without m k),
              sum_without (λ e. queued_to j (object_entry e).1.body) m k o exact.in_order there,
            )

        none_here : 0 < handles_to (with_objects w m) k + count_by (λ i. i == k) ks → ⊥
        none_here some = omega (arith, nothing, some, exact.counted k o there)

        by_key : (j : ℕ) → 0 < handles_to (with_objects w m) j + count_by (λ i. i == j) ks → IsTrue (k == j) ⊎ ((k == j) ≡ false)
            → IsTrue (has_key (without m k) j)
        by_key j some (inl here) =
            absurd (none_here (subst (λ (i : ℕ). 0 < handles_to (with_objects w m) i + count_by (λ x. x == i) ks) (sym (eqb-true k j here)) some))
        by_key j some (inr apart) = rw (get-without m k j, apart) (exact.named j some)

    none : ◌≡◌ {A = ℕ} (handles_to (with_objects w m) k) 0
    none = omega (arith, nothing, exact.counted k o there)

    no_table : in_table (with_objects w m) k ≡ false
    unfolding in_table handles_to
    no_table = elim (cases_Bool (in_table (with_objects w m) k)) as (λ _. in_table (with_objects w m) k ≡ false) [
      | inl some ↦ absurd (omega (
        arith,
        any_summed (λ p. count_by (λ h. h.1.koid == k) p.1.handles) (λ p. list_any (λ h. h.1.koid == k) p.1.handles)
            (λ p. any_counted (λ h. h.1.koid == k) p.1.handles) w.processes some,
        none,
      ))
      | inr not ↦ not
    ]

    no_queue : in_queue (with_objects w m) (has_key (map object_entry m)) k ≡ false
    unfolding in_queue handles_to
    no_queue =
        elim (cases_Bool (in_queue (with_objects w m) (has_key (map object_entry m)) k))
        as (λ _. in_queue (with_objects w m) (has_key (map object_entry m)) k ≡ false) [
          | inl some ↦ absurd (omega (
            arith,
            any_summed (λ e. queued_to k e.1.body) (λ e. has_key (map object_entry m) e.0 && names k (queue_of e.1.body))
                (λ e h. queue_named k e.1.body (and_parts (has_key (map object_entry m) e.0) _ h).1) (map object_entry m) some,
            none,
          ))
          | inr not ↦ not
        ]

    not_running : is_process w runs k ≡ false
    not_running = by_body o.body parts.1 (exact.agrees k o there)
      where
        by_body : (b : Body) → stays_alone m k b ≡ false → Agrees w k b → is_process w runs k ≡ false
        by_body (body.Job own) off agrees = agrees
        by_body (body.Process job life) off agrees = sym agrees.running ∙ off
        by_body _ off agrees = agrees

    no_child : has_living_child (with_objects w m) (has_key (map object_entry m)) k ≡ false
    unfolding has_living_child is_process
    no_child =
        elim (cases_Bool (has_living_child (with_objects w m) (has_key (map object_entry m)) k))
        as (λ _. has_living_child (with_objects w m) (has_key (map object_entry m)) k ≡ false) [ inl some ↦ absurd (found some) | inr not ↦ not ]
      where
        test : ℕ × ObjectValue → Bool
        test x = has_key (map object_entry m) x.0 && (is_job_below k x.1.body || (is_process_of k x.1.body && is_process w lives x.0))

        found : IsTrue (has_living_child (with_objects w m) (has_key (map object_entry m)) k) → ⊥
        found some =
            let f : Found (λ e. test (object_entry e)) m = any_found (λ e. test (object_entry e)) m exact.in_order (sym (any_seen test m) ∙ some) in
            no_living f.key f.value f.at (sym (seen_child w k f.key f.value.body (exact.agrees f.key f.value f.at))
            ∙ (and_parts (has_key (map object_entry m) f.key)
            (is_job_below k (body_value f.value.body) || (is_process_of k (body_value f.value.body) && is_process w lives f.key)) f.passes).1)

    not_held : is_held (with_objects w m) (has_key (map object_entry m)) k ≡ false
    unfolding is_held is_process
    not_held = rw (no_table, no_queue, not_running, no_child) (and-false (has_key (map object_entry m) k))

    -- it can go first
    pub left_leads : (v : World) → Settles (with_objects w (without m k)) v → Settles (with_objects w m) v
    left_leads v settles =
        settles_removed (with_objects w m) k not_held v (subst (λ (os : Map ObjectValue). Settles (record w { objects = os }) v) (without_seen m k) settles)

-- ---- all of it

pub record IsLeft (w : World) (m m2 : Map Object) : Type 0 where
  pub exact : IsExact w [] m2
  pub leads : (v : World) → Settles (with_objects w m2) v → Settles (with_objects w m) v

pub cascaded : (w : World) (ks : List ℕ) (m m2 : Map Object) → IsExact w ks m → Cascades ks m m2 → IsLeft w m m2
cascaded w _ _ _ exact (none_left m) = record { exact = exact; leads = λ v settles. settles }
cascaded w _ _ _ exact (let_go k ks m m2 more) =
    let later : IsLeft w (update m k held_once_less) m2 = cascaded w ks (update m k held_once_less) m2 (less_exact w (k ∷ ks) m exact k ks refl) more in
    record {
      exact = later.exact;
      leads = λ v settles. subst (λ (os : Map ObjectValue). Settles (record w { objects = os }) v) (update_unseen m k) (later.leads v settles);
    }
cascaded w _ _ _ exact (goes k o ks m m2 there unkept more) =
    let later : IsLeft w (without m k) m2 = cascaded w (named_in (queue_held o.body) ++ ks) (without m k) m2 (left_exact w ks m exact k o there unkept) more in
    record { exact = later.exact; leads = λ v settles. left_leads w ks m exact k o there unkept v (later.leads v settles) }
cascaded w _ _ _ exact (waits_end ks m mid m2 same more) =
    let later : IsLeft w mid m2 = cascaded w ks mid m2 (same_exact w ks m exact mid same) more in
    record {
      exact = later.exact;
      leads = λ v settles. subst (λ (os : Map ObjectValue). Settles (record w { objects = os }) v) (seen_same m mid same) (later.leads v settles);
    }

-- what is kept is held
module _ (w : World) (m : Map Object) (exact : IsExact w [] m) (kept : (k : ℕ) (o : Object) → get m k ≡ Some o → IsTrue (is_kept m k o)) where
  abbrev wm : World
  wm = with_objects w m

  abbrev all : Koids
  all = has_key (map object_entry m)

  -- something keeps the object k in the world
  abbrev IsHeldBy : ℕ → Type 0
  IsHeldBy k = IsTrue (in_table wm k || in_queue wm all k || is_process wm runs k || has_living_child wm all k)

  child_held : (k : ℕ) → IsTrue (has_living_child_here m k) → IsTrue (has_living_child wm all k)
  unfolding has_living_child_here has_living_child is_process
  child_held k some =
      let found : Found (λ e. is_child k e.1.body) m = any_found (λ e. is_child k e.1.body) m exact.in_order some in
      let seen : get (map object_entry m) found.key ≡ Some (object_value found.value) = get_seen m found.key ∙ rw found.at refl in
      any_at (λ x. all x.0 && (is_job_below k x.1.body || (is_process_of k x.1.body && is_process w lives x.0))) (map object_entry m) found.key
      (object_value found.value) seen
      (and_from (all found.key) _ (rw seen refl) (seen_child w k found.key found.value.body (exact.agrees found.key found.value found.at) ∙ found.passes))

  pub all_held : IsHeld wm all
  unfolding is_held handles_to in_table in_queue is_process
  all_held k has = and_from (all k) _ has (by_object (get m k) refl)
    where
      by_object : (o : Option Object) → get m k ≡ o → IsHeldBy k
      by_object None none = absurd (false≢true (rw (has_seen m k, none) at has))
      by_object (Some o) there = by_reason (or_cases (nat_lt 0 o.handles) (stays_alone m k o.body) (kept k o there))
        where
          by_part : (0 < sum_by (λ p. count_by (λ h. h.1.koid == k) p.1.handles) w.processes) ⊎ (0 < sum_by (λ e. queued_to k e.1.body) (map object_entry m))
              → IsHeldBy k
          by_part (inl tables) =
              or_left _ _ (or_left _ _ (or_left _ _ (summed_any (λ p. count_by (λ h. h.1.koid == k) p.1.handles)
              (λ p. list_any (λ h. h.1.koid == k) p.1.handles) (λ p none. count_none (λ h. h.1.koid == k) p.1.handles none) w.processes tables)))
          by_part (inr queues) =
              or_left _ _ (or_left _ _ (or_right _ _ (any_there (λ e. names k (queue_of e.1.body)) all (map object_entry m) (λ j there. there)
              (summed_any (λ e. queued_to k e.1.body) (λ e. names k (queue_of e.1.body)) (λ e none. named_queue k e.1.body none)
              (map object_entry m) queues))))

          alone : (b : Body) → o.body ≡ b → IsTrue (stays_alone m k b) → IsHeldBy k
          alone (body.Job own) is stays = or_right _ _ (child_held k stays)
          alone (body.Process job life) is stays =
              let agrees : Agrees w k (body.Process job life) = subst (Agrees w k) is (exact.agrees k o there) in
              or_left _ _ (or_right _ _ (sym agrees.running ∙ stays))
          alone _ is stays = absurd (false≢true stays)

          by_reason : IsTrue (nat_lt 0 o.handles) ⊎ IsTrue (stays_alone m k o.body) → IsHeldBy k
          by_reason (inl some) =
              let positive : 0 < o.handles = grind (arith, nat_tests, some) in
              by_part (positive_part _ _ (omega (arith, positive, exact.counted k o there)))
          by_reason (inr stays) = alone o.body refl stays

pub kept_all : (m : Map Object) → AreKeptBut [] m → (k : ℕ) (o : Object) → get m k ≡ Some o → IsTrue (is_kept m k o)
kept_all m all k o at = elim (cases_Bool (is_kept m k o)) as (λ _. IsTrue (is_kept m k o)) [
  | inl kept ↦ kept
  | inr unkept ↦ absurd (false≢true (all.noted k o at unkept))
]

-- once something keeps each object that is left, the largest held set is left
pub settles_left : (w : World) (ks : List ℕ) (m m2 : Map Object) → IsExact w ks m → Cascades ks m m2 → AreKeptBut [] m2
    → Settles (with_objects w m) (with_all w m2)
settles_left w ks m m2 exact cascades kept =
    let left : IsLeft w m m2 = cascaded w ks m m2 exact cascades in
    left.leads (with_all w m2) (settles_all (with_objects w m2) (all_held w m2 left.exact (kept_all m2 kept)))

-- the largest held set is what is left, and the counts are right again
pub leaves_largest : (ks loose : List ℕ) (r r2 : Objects) → Releases ks loose r r2 → LeavesLargest ks loose r r2
leaves_largest ks loose r r2 releases = record {
  settles = λ w exact kept. settles_left w ks r.objects r2.objects exact releases.cascades (releases.keeps [] kept);
  exact = λ w exact. (cascaded w ks r.objects r2.objects exact releases.cascades).exact;
}
