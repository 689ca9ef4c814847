-- What is left once the newest object was taken back, which was no end, and at which nothing was registered.
use Rattle.zl_objects.proofs.Common.{All-weaker, BTreeMap, Body, Bool, Children, IfSome, IsAtRest, IsCalm, IsIndexed, IsPeerHere, IsKept, IsSome, IsTrue}
use Rattle.zl_objects.proofs.Common.{IsUpperBound, IsWhole, List, Listed, Map, None, Object, Option, OthersStayListed, Sleeper, Some, [], and_parts, ap, arith}
use Rattle.zl_objects.proofs.Common.{below_all, cases_Bool, ending_waits, ends_waits, eq-eqb, eqb-true, false, false≢true, get, get-without, has_key}
use Rattle.zl_objects.proofs.Common.{if◌then◌else◌, inl, inr, is_alive, is_at, is_end_at, is_end_body, is_lt, is_marked, is_sorted, is_watched_in, keeper_of}
use Rattle.zl_objects.proofs.Common.{kind_in, koid_of, length, length-append, lookup, nat_cmp, nat_tests, none-some, parent_at, parent_held, peer_of, refl}
use Rattle.zl_objects.proofs.Common.{reserved_in, sorted_parts, sym, true, unsigned_tied, waits_in, without, ℕ, ◌++◌, ◌+◌, ◌<◌, ◌==◌, ◌↔◌, ◌∙◌, ◌∷◌, ◌≡◌, ◌⊎◌}
use Rattle.zl_objects.specs.declared.marks.Marks.{Marks}
use Rattle.zl_objects.specs.declared.object.Body.TheVariants as body
use Rattle.zl_objects.proofs.Bodies.{found_left}
use Rattle.zl_objects.proofs.ByKoid.{looked_up}
use Rattle.zl_objects.proofs.Ending.{ending_places, none_ended, none_ends}
use Rattle.zl_objects.proofs.Gone.{gone_calm}
use Rattle.zl_objects.proofs.Index.{no_peer, removed_indexed}
use Rattle.zl_objects.proofs.Listed.{same_listed}

-- ---- the last entry goes

lower : (n : Map Object) (p : ℕ × Object) (k : ℕ) → IsTrue (below_all nat_cmp k (n ++ p ∷ [])) → k < p.0
lower [] p k h = grind (arith, nat_tests, h)
lower (e ∷ n) p k h = lower n p k (and_parts (is_lt (nat_cmp k e.0)) _ h).1

last_out : (n : Map Object) (p : ℕ × Object) → IsTrue (is_sorted nat_cmp (n ++ p ∷ [])) → without (n ++ p ∷ []) p.0 ≡ n
unfolding without
last_out [] p sorted = rw (eq-eqb p.0 p.0 refl) refl
last_out (e ∷ n) p sorted =
    let parts = sorted_parts e (n ++ p ∷ []) sorted in
    let apart : (e.0 == p.0) ≡ false = grind (arith, nat_tests, lower n p e.0 parts.0) in
    rw apart (ap (λ (m : Map Object). e ∷ m) (last_out n p parts.1))

filled : (m : Map Object) (k : ℕ) → IsTrue (has_key m k) → 0 < length m
unfolding get
filled [] k there = absurd (false≢true there)
filled (e ∷ m) k there = omega arith

-- it is the newest
newest_out : (m n : BTreeMap ℕ Object) (next koid : ℕ) (r : Option (ℕ × Object)) → IsTrue (is_sorted nat_cmp m.entries)
    → ((k : ℕ) → IsTrue (has_key m.entries k) → k < next) → next ≡ koid + 1 → IsTrue (has_key m.entries koid) → IsSome r ↔ (0 < length m.entries)
    → IfSome r (λ p. lookup (is_at (nat_cmp p.0)) m.entries ≡ Some p.1) → IfSome r (λ p. IsUpperBound nat_cmp m p.0)
    → IfSome r (λ p. m.entries ≡ n.entries ++ p ∷ []) → (n.entries ≡ without m.entries koid) × (length n.entries + 1 ≡ length m.entries)
newest_out m n next koid None sorted below newest there some value greatest removal = absurd (false≢true (some.1 (filled m.entries koid there)))
newest_out m n next koid (Some p) sorted below newest there some value greatest removal = (
  rw (removal, ← key) (sym (last_out n.entries p (rw removal at sorted))),
  rw removal (omega (arith, length-append n.entries (p ∷ []))),
)
  where
    last : p.0 < next
    last = below p.0 (rw (← looked_up m.entries p.0, value) refl)

    key : p.0 ≡ koid
    key = grind (arith, nat_tests, last, newest, greatest koid (rw (looked_up m.entries koid) there), unsigned_tied p.0 koid)

-- ---- the invariant

keeper_is : (P : ℕ → Type 0) (b : Body) → P (parent_held b) → IfSome (keeper_of b) P
keeper_is P (body.Job own) h = elim own.killed as (λ b. IfSome (if b then None else Some own.parent) P) [ true ↦ tt | false ↦ h ]
keeper_is P (body.Process job l) h = elim (is_alive l) as (λ b. IfSome (if b then Some job else None) P) [ true ↦ h | false ↦ tt ]
keeper_is P _ h = tt

module _ {children : Children} (m n : Map Object) (koid : ℕ) (o : Object) (at : get m koid ≡ Some o) (alone : is_end_body o.body ≡ false)
    (none : ends_waits o ≡ false) (indexed : IsIndexed children m) (left : n ≡ without m koid) (once : length n + 1 ≡ length m) where
  ended : n ≡ ending_waits koid o (without m koid)
  ended = left ∙ sym (none_ends (without m koid) koid o none)

  same_left : (j : ℕ) → (koid == j) ≡ false → get n j ≡ get m j
  same_left j apart = rw (left, get-without m koid j, apart) refl

  below_newest : (next j : ℕ) → next ≡ koid + 1 → j < next → (koid == j) ≡ false → j < koid
  below_newest next j newest lower apart = grind (arith, nat_tests, newest, lower, apart)

  popped_whole : (next room : ℕ) → next ≡ koid + 1 → IsWhole None m next room → IsWhole None n koid room
  popped_whole next room newest whole = record {
    below = λ j there. below j there (cases_Bool (koid == j));
    peers = λ j q here. let was = found_left m koid j q (rw left at here) in by_peer j q was.1 (peer_of q.body) refl (whole.peers j q was.1);
    places = rw ended (ending_places m koid o at (rw (← left) once) whole.places);
    enough = omega (arith, once, whole.enough);
  }
    where
      below : (j : ℕ) → IsTrue (has_key n j) → IsTrue (koid == j) ⊎ ((koid == j) ≡ false) → j < koid
      below j there (inl here) = absurd (false≢true (rw (left, get-without m koid j, here) at there))
      below j there (inr apart) = below_newest next j newest (whole.below j (rw (same_left j apart) at there)) apart

      by_peer : (j : ℕ) (q : Object) → get m j ≡ Some q → (x : Option ℕ) → peer_of q.body ≡ x → IfSome x (IsPeerHere (kind_in q.body) m next)
          → IfSome x (IsPeerHere (kind_in q.body) n koid)
      by_peer j q was None is has = tt
      by_peer j q was (Some p) is has = elim (cases_Bool (koid == p)) as (λ _. IsPeerHere (kind_in q.body) n koid p) [
        | inl here ↦ absurd (none-some j (sym (no_peer o.body alone)
            ∙ indexed.paired j koid q o was at (is ∙ ap (λ (i : ℕ). Some i) (sym (eqb-true koid p here)))))
        | inr apart ↦ (below_newest next p newest has.0 apart, λ there. rw (same_left p apart) (has.1 (rw (same_left p apart) at there)))
      ]

  popped_calm : {marked marked2 : ℕ → Bool} {sleepers : List Sleeper} → ((j : ℕ) → IsTrue (marked j) → IsTrue (marked2 j)) → (next : ℕ) → next ≡ koid + 1
      → o.asleep ≡ false → (IsTrue (is_watched_in (get n (parent_held o.body))) → IsTrue (marked2 (parent_held o.body))) → IsCalm marked m next sleepers
      → IsCalm marked2 n koid sleepers
  popped_calm {marked} {marked2} {sleepers} more next newest unslept job calm =
      let after : IsCalm marked2 n next sleepers =
      gone_calm m n koid o indexed at ended more (λ j h. h) (keeper_is _ o.body job) (rw (no_peer o.body alone) tt) next sleepers calm in
      record {
        waits = after.waits;
        resting = All-weaker (λ s. IsAtRest marked m next s × IsAtRest marked2 n next s) (IsAtRest marked2 n koid) one sleepers
            (λ i d inside. (calm.resting i d inside, after.resting i d inside));
      }
    where
      one : (s : Sleeper) → IsAtRest marked m next s × IsAtRest marked2 n next s → IsAtRest marked2 n koid s
      one s both = record {
        given = elim (cases_Bool (koid == koid_of s.awaited)) as (λ _. koid_of s.awaited < koid) [
          | inl here ↦
              absurd (false≢true (sym unslept ∙ both.0.known o (ap (get m) (sym (eqb-true koid (koid_of s.awaited) here)) ∙ at)))
          | inr apart ↦ below_newest next (koid_of s.awaited) newest both.0.given apart
        ];
        known = both.1.known;
        calm = both.1.calm;
      }

-- the invariant of the objects, of all waits and of who may be blocked
pub record IsSteady (marks : Marks) (children : Children) (m : Map Object) (next_koid room : ℕ) (waits : List Listed) (sleepers : List Sleeper) : Type 0 where
  pub kept : IsKept None m next_koid room waits
  pub calm : IsCalm (is_marked marks) m next_koid sleepers
  pub indexed : IsIndexed children m

pub taken_back : {marks marks2 : Marks} {children children2 : Children} {waits : List Listed} {sleepers : List Sleeper} {room : ℕ}
    (m n : BTreeMap ℕ Object) (next koid : ℕ) (r : Option (ℕ × Object)) → IsSteady marks children m.entries next room waits sleepers → next ≡ koid + 1
    → is_end_at m.entries koid ≡ false → reserved_in (get m.entries koid) ≡ 0 → waits_in (get m.entries koid) ≡ [] → IsTrue (has_key m.entries koid)
    → IfSome (get m.entries koid) (λ o. o.asleep ≡ false) → OthersStayListed koid children children2 → IsSome r ↔ (0 < length m.entries)
    → IfSome r (λ p. lookup (is_at (nat_cmp p.0)) m.entries ≡ Some p.1) → IfSome r (λ p. IsUpperBound nat_cmp m p.0)
    → IfSome r (λ p. m.entries ≡ n.entries ++ p ∷ []) → ((j : ℕ) → IsTrue (is_marked marks j) → IsTrue (is_marked marks2 j))
    → (IsTrue (is_watched_in (get n.entries (parent_at m.entries koid))) → IsTrue (is_marked marks2 (parent_at m.entries koid)))
    → IsSteady marks2 children2 n.entries koid room waits sleepers
taken_back {marks} {marks2} {children} {children2} {waits} {sleepers} {room} m n next koid r steady newest alone unreserved unwatched there unslept others
    some value greatest removal more job = by_object (get m.entries koid) refl
  where
    out : (n.entries ≡ without m.entries koid) × (length n.entries + 1 ≡ length m.entries)
    out = newest_out m n next koid r steady.indexed.in_order steady.kept.whole.below newest there some value greatest removal

    by_object : (q : Option Object) → get m.entries koid ≡ q → IsSteady marks2 children2 n.entries koid room waits sleepers
    by_object None is = absurd (false≢true (rw is at there))
    by_object (Some o) is =
        let none : ends_waits o ≡ false = rw (rw is at unreserved, rw is at unwatched) refl in
        record {
          kept = record {
            whole = popped_whole m.entries n.entries koid o is (rw is at alone) none steady.indexed out.0 out.1 next room newest steady.kept.whole;
            listed = same_listed waits m.entries n.entries (none_ended m.entries n.entries koid o is
                (ended m.entries n.entries koid o is (rw is at alone) none steady.indexed out.0 out.1) none) steady.kept.listed;
          };
          calm = popped_calm m.entries n.entries koid o is (rw is at alone) none steady.indexed out.0 out.1 more next newest (rw is at unslept) (rw is at job)
              steady.calm;
          indexed = removed_indexed koid steady.indexed others out.0;
        }
