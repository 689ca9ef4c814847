-- Handles go, and what nothing keeps any more with them: the invariant holds afterwards, and the worlds are settled.
use Rattle.zl_calls.proofs.Common.{AreKeptBut, AreNamed, AreSound, Bool, Cascades, Drained, Entry, Found, IsConsistent, IsExact, IsNamed, IsTrue, List, Map}
use Rattle.zl_calls.proofs.Common.{Message, None, Object, Objects, Option, Process, ProcessValue, Releases, Settles, Some, Was, World, [], any_counted}
use Rattle.zl_calls.proofs.Common.{any_found, any_summed, ap, arith, body_value, cascaded, cascaded_was, cond, count_by, counted_any, eq-eqb, false≢true, get}
use Rattle.zl_calls.proofs.Common.{get_seen, handles_to, has_key, inl, inr, is_process, is_sorted, kind_of, length, list_any, map, names, nat_cmp, none-some}
use Rattle.zl_calls.proofs.Common.{none_drained, none_left, object_entry, object_value, or_left, or_right, positive_part, process_entry, queue_held}
use Rattle.zl_calls.proofs.Common.{queue_named, queue_of, queued_to, refl, releases_then, same_Some, settles_left, slice_index_or, sorted_without, subst, suc}
use Rattle.zl_calls.proofs.Common.{sum_by-cons, sym, was_queue, was_seen, was_there, with_objects, without, world_value, zero, ℕ, ◌<◌, ◌==◌, ◌∙◌, ◌∷◌, ◌≡◌, ◌⊎◌}
use Rattle.zl_rights.proofs.MapTests.{any_at}
use Rattle.zl_calls.specs.calls.Process.{one_more}
use Rattle.zl_calls.proofs.objects.Counted.{counted_there, is_there, queue_seen}
use Rattle.zl_calls.proofs.objects.Counting.{count_without}
use Rattle.zl_calls.proofs.processes.Departed.{all_stay, settled_world}
use Rattle.zl_calls.proofs.objects.SameBodies.{still_agrees}
use Rattle.zl_calls.proofs.tables.Taking.{none_goes}

-- the world with these objects meets the invariant, and settling leaves it, but for processes that go with their objects
pub record IsSettled (ps : List Process) (r r2 : Objects) : Type 0 where
  pub consistent : IsConsistent ps r2
  pub settles : Settles (world_value ps r) (settled_world ps r2)

any_place : {X : Type 0} (test : X → Bool) (xs : List X) (n : ℕ) (d : X) → n < length xs → IsTrue (test (slice_index_or xs n d)) → IsTrue (list_any test xs)
any_place test [] n d within passes = absurd (omega (arith, within))
any_place test (x ∷ xs) zero d within passes = or_left (test x) _ passes
any_place test (x ∷ xs) (suc n) d within passes = or_right (test x) _ (any_place test xs n d (omega (arith, within)) passes)

-- the handles m have left their tables, and those to ks are to go
module _ (ps : List Process) (m : Map Entry) (r : Objects) (sound : AreSound ps m r) (sorted : IsTrue (is_sorted nat_cmp m))
    (left : (v : ℕ) (e : Entry) → get m v ≡ Some e → IsNamed r.objects e)
    (ks : List ℕ) (counts : (k : ℕ) → count_by (λ j. j == k) ks ≡ count_by (λ (h : ℕ × Entry). h.1.koid == k) m) where
  abbrev w : World
  w = world_value ps r

  exact : IsExact w ks r.objects
  exact = record {
    in_order = sound.objects_in_order;
    no_zero = sound.no_zero;
    counted = λ k o at. omega (arith, sound.counted k o at, counts k);
    named = λ k some. by_part k (positive_part _ _ some);
    agrees = sound.agrees;
    in_jobs = sound.in_jobs;
  }
    where
      by_part : (k : ℕ) → (0 < handles_to w k) ⊎ (0 < count_by (λ j. j == k) ks) → IsTrue (has_key r.objects k)
      by_part k (inl inside) = counted_there ps m r sound k inside
      by_part k (inr gone) =
          let handle : Found (λ h. h.1.koid == k) m =
          any_found (λ h. h.1.koid == k) m sorted (counted_any (λ h. h.1.koid == k) m (omega (arith, gone, counts k))) in
          is_there ps m r sound k handle.value (left handle.key handle.value handle.at) handle.passes

  module _ (r2 : Objects) (cascades : Cascades ks r.objects r2.objects) (kept : AreKeptBut [] r2.objects) (koids : r2.next_koid ≡ r.next_koid) where
    exact_left : IsExact w [] r2.objects
    exact_left = (cascaded w ks r.objects r2.objects exact cascades).exact

    was : (k : ℕ) (o : Object) → get r2.objects k ≡ Some o → Was r.objects k o
    was = cascaded_was ks r.objects r2.objects cascades

    seen : with_objects w r2.objects ≡ world_value ps r2
    seen = ap (λ (n : ℕ). record (world_value ps r2) { next_koid = n }) (sym koids)

    -- a handle that counts still names what it named
    named_left : (e : Entry) → 0 < handles_to (world_value ps r2) e.koid → IsNamed r.objects e → IsNamed r2.objects e
    named_left e more named =
        by_object (get r2.objects e.koid) refl (exact_left.named e.koid (omega (arith, subst (λ (x : World). 0 < handles_to x e.koid) (sym seen) more)))
      where
        by_object : (o : Option Object) → get r2.objects e.koid ≡ o → IsTrue (has_key r2.objects e.koid) → IsNamed r2.objects e
        by_object None is there = absurd (false≢true (rw is at there))
        by_object (Some o) is there =
            let old : Was r.objects e.koid o = was e.koid o is in
            record {
              object = o;
              there = is;
              kind = named.kind ∙ (ap (λ (x : Object). kind_of (body_value x.body)) (same_Some named.object old.before (sym named.there ∙ old.there))
                  ∙ ap kind_of (sym (was_seen r.objects e.koid o old)));
              rights = named.rights;
            }

    in_table : (j v : ℕ) (p : ProcessValue) (e : Entry) → get (map process_entry ps) j ≡ Some p → get p.handles v ≡ Some e
        → 0 < handles_to (world_value ps r2) e.koid
    unfolding handles_to
    in_table j v p e at there =
        let some : IsTrue (list_any (λ q. list_any (λ h. h.1.koid == e.koid) q.1.handles) (map process_entry ps)) =
        any_at (λ q. list_any (λ h. h.1.koid == e.koid) q.1.handles) (map process_entry ps) j p at
        (any_at (λ h. h.1.koid == e.koid) p.handles v e there (eq-eqb e.koid e.koid refl)) in
        omega (
          arith,
          any_summed (λ q. count_by (λ h. h.1.koid == e.koid) q.1.handles) (λ q. list_any (λ h. h.1.koid == e.koid) q.1.handles)
              (λ q. any_counted (λ h. h.1.koid == e.koid) q.1.handles) (map process_entry ps) some,
        )

    in_queue : (k j : ℕ) (o : Object) → get r2.objects k ≡ Some o → IsTrue (names j (queue_held o.body)) → 0 < handles_to (world_value ps r2) j
    unfolding handles_to
    in_queue k j o at named =
        let seen_at : get (map object_entry r2.objects) k ≡ Some (object_value o) = get_seen r2.objects k ∙ rw at refl in
        let some : IsTrue (list_any (λ x. names j (queue_of x.1.body)) (map object_entry r2.objects)) =
        any_at (λ x. names j (queue_of x.1.body)) (map object_entry r2.objects) k (object_value o) seen_at
        (subst (λ (queue : List Message). IsTrue (names j queue)) (sym (queue_seen o.body)) named) in
        omega (
          arith,
          any_summed (λ x. queued_to j x.1.body) (λ x. names j (queue_of x.1.body)) (λ x. queue_named j x.1.body) (map object_entry r2.objects) some,
        )

    queued_left : (k : ℕ) (o : Object) → get r2.objects k ≡ Some o → AreNamed r2.objects (queue_held o.body)
    queued_left k o at = λ n x within i e inside.
        named_left (slice_index_or (slice_index_or (queue_held o.body) n x).handles i e)
        (in_queue k (slice_index_or (slice_index_or (queue_held o.body) n x).handles i e).koid o at
        (any_place (λ (y : Message). list_any (λ (h : Entry). h.koid == (slice_index_or (slice_index_or (queue_held o.body) n x).handles i e).koid) y.handles)
        (queue_held o.body) n x within
        (any_place (λ (h : Entry). h.koid == (slice_index_or (slice_index_or (queue_held o.body) n x).handles i e).koid)
        (slice_index_or (queue_held o.body) n x).handles i e inside (eq-eqb _ _ refl))))
        (before n x within i e inside)
      where
        before : AreNamed r.objects (queue_held o.body)
        before = let old : Was r.objects k o = was k o at in rw (was_queue r.objects k o old) (sound.queued k old.before old.there)

    pub settled : IsSettled ps r r2
    unfolding is_process
    settled = record {
      consistent = record {
        processes_in_order = sound.processes_in_order;
        given_processes = λ k there. rw koids (sound.given_processes k there);
        given_objects = λ k there. rw koids (sound.given_objects k (was_there r.objects r2.objects was k there));
        koids = rw koids sound.koids;
        above_zero = rw koids sound.above_zero;
        no_zero = exact_left.no_zero;
        tables = sound.tables;
        named = λ j p v e at there. named_left e (in_table j v p e at there) (sound.named j p v e at there);
        queued = queued_left;
        counted = λ k o at. subst (λ (x : World). o.handles ≡ handles_to x k) seen (omega (arith, exact_left.counted k o at));
        agrees = λ k o at. still_agrees w (world_value ps r2) k o.body (λ test. refl) (exact_left.agrees k o at);
        in_jobs = exact_left.in_jobs;
        kept = kept;
      };
      settles = subst (Settles w) (all_stay ps r r2 koids) (settles_left w ks r.objects r2.objects exact cascades kept);
    }

-- ---- no handle goes

pub sound_of : (ps : List Process) (r : Objects) → IsConsistent ps r → AreSound ps [] r
sound_of ps r consistent = record {
  processes_in_order = consistent.processes_in_order;
  objects_in_order = consistent.kept.in_order;
  given_processes = consistent.given_processes;
  given_objects = consistent.given_objects;
  koids = consistent.koids;
  above_zero = consistent.above_zero;
  no_zero = consistent.no_zero;
  tables = consistent.tables;
  named = consistent.named;
  queued = consistent.queued;
  counted = λ k o at. omega (arith, consistent.counted k o at);
  agrees = consistent.agrees;
  in_jobs = consistent.in_jobs;
}

-- where all is held, the invariant holds, and settling leaves the objects
all_held : (ps : List Process) (r : Objects) → AreSound ps [] r → AreKeptBut [] r.objects → IsSettled ps r r
unfolding get
all_held ps r sound kept = settled ps [] r sound refl (λ v e at. absurd (none-some e at)) [] (λ k. refl) r (none_left r.objects) kept refl

pub consistent_of : (ps : List Process) (r : Objects) → AreSound ps [] r → AreKeptBut [] r.objects → IsConsistent ps r
consistent_of ps r sound kept = (all_held ps r sound kept).consistent

pub still_settles : (ps : List Process) (r : Objects) → IsConsistent ps r → Settles (world_value ps r) (settled_world ps r)
still_settles ps r consistent = (all_held ps r (sound_of ps r consistent) consistent.kept).settles

-- ---- the handles of a table go

pub record AreGone (m : Map Entry) (r r2 : Objects) : Type 0 where
  pub koids : List ℕ
  pub counts : (k : ℕ) → count_by (λ j. j == k) koids ≡ count_by (λ (h : ℕ × Entry). h.1.koid == k) m
  pub releases : Releases koids [] r r2

pub drained : (m : Map Entry) (r r2 : Objects) → IsTrue (is_sorted nat_cmp m) → Drained m r r2 → AreGone m r r2
drained _ _ _ sorted (none_drained r) = record { koids = []; counts = λ k. refl; releases = none_goes r }
drained _ _ _ sorted (one_more m v e r mid r2 there first rest) =
    let later : AreGone (without m v) mid r2 = drained (without m v) mid r2 (sorted_without m v sorted) rest in
    record {
      koids = e.koid ∷ later.koids;
      counts =
          λ k. omega (arith, count_without (λ h. h.1.koid == k) m v e sorted there, sum_by-cons (λ j. cond (j == k) 1 0) e.koid later.koids, later.counts k);
      releases = releases_then (e.koid ∷ []) later.koids [] r mid r2 first later.releases;
    }
