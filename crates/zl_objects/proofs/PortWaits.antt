-- The index of the waits of each port beside the list of all waits: what it finds, and that it fits the list after each change.
use Rattle.zl_objects.proofs.Common.{All, All-filter, All-head, All-tail, AreFound, Bool, IsEarliest, IsFirst, IsInRange, IsKeyRangeOf, IsTrue, List, Listed}
use Rattle.zl_objects.proofs.Common.{None, Option, Some, Updates, Wait, [], and_from, and_parts, any-filter_same, ap, append-nil, arith, cases_Bool, cond}
use Rattle.zl_objects.proofs.Common.{entry_of, eq-eqb, eqb-true, false, false≢true, filter, filter-append, filter_passes, find, finds, inl, inr, is_at}
use Rattle.zl_objects.proofs.Common.{is_entry_to, is_pair, is_pair_of, list_any, list_any-append, list_any_none, nat_tests, ne_eqb, none-some, not, or_left}
use Rattle.zl_objects.proofs.Common.{or_right, order_entry, pair_cmp, refl, same_Some, sorted_parts, subst, sym, true, unsigned_tied, without_first, ℕ, ◌&&◌}
use Rattle.zl_objects.proofs.Common.{◌++◌, ◌<◌, ◌==◌, ◌||◌, ◌∙◌, ◌∷◌, ◌≡◌, ◌≤◌, ◌⊎◌}
use Rattle.std.specs.declared.ops.Bound.TheVariants.{Excluded, Included}
use Rattle.zl_rights.proofs.MapTests.{filter_all}
use Rattle.zl_objects.specs.declared.port_waits.PortWaits.{PortWaits}
use Rattle.zl_objects.proofs.Rising.{IsBelow, Rises, earliest_of_both, found_above, goes_by_order, none_of_both}
use Rattle.zl_rights.proofs.Settling.{same_tests}

-- ---- what is found

at_pair : (p n p2 n2 : ℕ) → is_at (pair_cmp (p, n)) (p2, n2) ≡ is_pair p n p2 n2
at_pair p n p2 n2 = grind (arith, nat_tests, unsigned_tied p p2, unsigned_tied n n2)

module _ (old new : PortWaits) (port n : ℕ) where
  pub added_finds : Updates pair_cmp old.pairs new.pairs (port, n) true → (p i : ℕ) → finds new p i ≡ (is_pair port n p i || finds old p i)
  added_finds updates p i = updates.0 (p, i) ∙ rw (at_pair port n p i) (by_test (is_pair port n p i))
    where
      by_test : (b : Bool) → cond b true (finds old p i) ≡ (b || finds old p i)
      by_test true = refl
      by_test false = refl

  pub removed_finds : Updates pair_cmp old.pairs new.pairs (port, n) false → (p i : ℕ) → finds new p i ≡ (not (is_pair port n p i) && finds old p i)
  removed_finds updates p i = updates.0 (p, i) ∙ rw (at_pair port n p i) (by_test (is_pair port n p i))
    where
      by_test : (b : Bool) → cond b false (finds old p i) ≡ (not b && finds old p i)
      by_test true = refl
      by_test false = refl

module _ (index : PortWaits) (port made : ℕ) (r : List (ℕ × ℕ))
    (part : IsKeyRangeOf pair_cmp (Included (port, 0)) (Excluded (port, made)) index.pairs r) where
  within : (i : ℕ) → i < made → IsInRange pair_cmp (Included (port, 0)) (Excluded (port, made)) (port, i)
  within i less = (
    grind (arith, nat_tests, unsigned_tied port port, unsigned_tied 0 i),
    grind
        (arith, nat_tests, unsigned_tied port port, unsigned_tied i made, less),
  )

  pub none_first : r ≡ [] → IsFirst index port made None
  none_first is i less = part.5 is (port, i) (within i less)

  pub first_is : (x : ℕ × ℕ) (t : List (ℕ × ℕ)) → r ≡ x ∷ t → IsEarliest index port made x.1
  first_is x t is = record {
    there = ap (λ (p : ℕ). finds index p x.1) (sym own) ∙ ((rw is at part).1).1;
    least = λ i less there.
        let before = (rw is at part).2 (port, i) (within i less) there in
        grind (arith, nat_tests, unsigned_tied x.0 port, unsigned_tied x.1 i, own, before);
  }
    where
      first : IsInRange pair_cmp (Included (port, 0)) (Excluded (port, made)) x
      first = ((rw is at part).1).0

      own : x.0 ≡ port
      own = grind (arith, nat_tests, unsigned_tied port x.0, unsigned_tied x.0 port, unsigned_tied 0 x.1, unsigned_tied x.1 made, first.0, first.1)

-- ---- one of the list, by a test and by its order

any_of : (p q : Listed → Bool) (xs : List Listed) (x : Listed) → find p xs ≡ Some x → IsTrue (q x) → IsTrue (list_any q xs)
any_of p q [] x found passes = absurd (none-some x found)
any_of p q (y ∷ ys) x found passes = by_test (p y) found (λ rest. any_of p q ys x rest passes)
  where
    by_test : (b : Bool) → cond b (Some y) (find p ys) ≡ Some x → (find p ys ≡ Some x → IsTrue (list_any q ys)) → IsTrue (q y || list_any q ys)
    by_test true same later = or_left (q y) _ (ap q (same_Some y x same) ∙ passes)
    by_test false rest later = or_right (q y) _ (later rest)

found_in : (P : Listed → Type 0) (p : Listed → Bool) (xs : List Listed) (x : Listed) → find p xs ≡ Some x → All P xs → IsTrue (p x) × P x
found_in P p [] x found all = absurd (none-some x found)
found_in P p (y ∷ ys) x found all = by_test (p y) refl found (λ rest. found_in P p ys x rest (All-tail P y ys all))
  where
    by_test : (b : Bool) → p y ≡ b → cond b (Some y) (find p ys) ≡ Some x → (find p ys ≡ Some x → IsTrue (p x) × P x) → IsTrue (p x) × P x
    by_test true is same later = subst (λ (z : Listed). IsTrue (p z) × P z) (same_Some y x same) (is, All-head P y ys all)
    by_test false is rest later = later rest

-- the first that passes
record Found (p : Listed → Bool) (xs : List Listed) : Type 0 where
  one : Listed
  is : find p xs ≡ Some one
  passes : IsTrue (p one)

find_any : (p : Listed → Bool) (xs : List Listed) → IsTrue (list_any p xs) → Found p xs
find_any p [] some = absurd (false≢true some)
find_any p (y ∷ ys) some = by_test (p y) refl some (λ rest. find_any p ys rest)
  where
    by_test : (b : Bool) → p y ≡ b → IsTrue (b || list_any p ys) → (IsTrue (list_any p ys) → Found p ys) → Found p (y ∷ ys)
    by_test true is some later = record { one = y; is = rw is refl; passes = is }
    by_test false is some later = let rest : Found p ys = later some in record { one = rest.one; is = rw is rest.is; passes = rest.passes }

-- the first that passes is found by its order too
found_by_order : (p : Listed → Bool) (xs : List Listed) (x : Listed) → Rises xs → find p xs ≡ Some x → find (λ y. y.order == x.order) xs ≡ Some x
found_by_order p [] x rising found = absurd (none-some x found)
found_by_order p (y ∷ ys) x rising found = by_test (p y) found (λ rest. found_by_order p ys x parts.1 rest)
  where
    parts : IsBelow y.order ys × Rises ys
    parts = sorted_parts (order_entry y) _ rising

    by_test : (b : Bool) → cond b (Some y) (find p ys) ≡ Some x → (find p ys ≡ Some x → find (λ z. z.order == x.order) ys ≡ Some x)
        → find (λ z. z.order == x.order) (y ∷ ys) ≡ Some x
    by_test true same later = rw (eq-eqb y.order x.order (ap (λ (z : Listed). z.order) (same_Some y x same))) same
    by_test false rest later =
        let less : y.order < x.order = found_above p y.order ys x parts.0 rest in
        rw (ne_eqb y.order x.order (λ same. absurd (omega (arith, same, less)))) (later rest)

-- no other has its number
only_one : (xs : List Listed) → Rises xs → (x : Listed) → find (λ y. y.order == x.order) xs ≡ Some x → (p : ℕ)
    → list_any (is_pair_of p x.order) xs ≡ (x.wait.port == p)
only_one xs rising x found p = same_tests (list_any (is_pair_of p x.order) xs) (x.wait.port == p) there
    (λ here. any_of (λ y. y.order == x.order) (is_pair_of p x.order) xs x found (and_from (x.order == x.order) _ (eq-eqb x.order x.order refl) here))
  where
    there : IsTrue (list_any (is_pair_of p x.order) xs) → IsTrue (x.wait.port == p)
    there some =
        let own : Found (is_pair_of p x.order) xs = find_any (is_pair_of p x.order) xs some in
        let parts = and_parts (own.one.order == x.order) _ own.passes in
        let same : own.one ≡ x =
        same_Some own.one x (sym (found_by_order (is_pair_of p x.order) xs own.one rising own.is)
        ∙ (ap (λ (n : ℕ). find (λ y. y.order == n) xs) (eqb-true own.one.order x.order parts.0) ∙ found)) in
        ap (λ (y : Listed). y.wait.port == p) (sym same) ∙ parts.1

-- ---- the index fits the list

module _ (index : PortWaits) (xs : List Listed) (fits : AreFound index xs) where
  pub pushed_found : (index2 : PortWaits) (n : ℕ) (w : Wait) → ((p i : ℕ) → finds index2 p i ≡ (is_pair w.port n p i || finds index p i)) → AreFound
      index2 (xs ++ entry_of n w ∷ [])
  pushed_found index2 n w added p i =
      added p i
      ∙ (ap (λ b. is_pair w.port n p i || b) (fits p i)
      ∙ (last_too (is_pair w.port n p i) (list_any (is_pair_of p i) xs) ∙ sym (list_any-append (is_pair_of p i) xs (entry_of n w ∷ []))))
    where
      last_too : (b d : Bool) → (b || d) ≡ (d || (b || false))
      last_too true true = refl
      last_too true false = refl
      last_too false true = refl
      last_too false false = refl

  module _ (rising : Rises xs) (made : ℕ) (below : All (λ x. x.order < made) xs) where
    pub removed_found : (index2 : PortWaits) (n : ℕ) (x : Listed) → find (λ y. y.order == n) xs ≡ Some x
        → ((p i : ℕ) → finds index2 p i ≡ (not (is_pair x.wait.port n p i) && finds index p i)) → AreFound index2 (filter (λ y. not (y.order == n)) xs)
    removed_found index2 n x found removed p i =
        removed p i ∙ (ap (λ b. not (is_pair x.wait.port n p i) && b) (fits p i) ∙ by_order (cases_Bool (n == i)))
      where
        number : x.order ≡ n
        number = eqb-true x.order n (found_in (λ (y : Listed). y.order < made) (λ y. y.order == n) xs x found below).0

        only : (q : ℕ) → list_any (is_pair_of q n) xs ≡ (x.wait.port == q)
        only q = subst (λ (j : ℕ). list_any (is_pair_of q j) xs ≡ (x.wait.port == q)) number
            (only_one xs rising x (ap (λ (j : ℕ). find (λ y. y.order == j) xs) number ∙ found) q)

        never : (b : Bool) → (not b && b) ≡ false
        never true = refl
        never false = refl

        by_order : IsTrue (n == i) ⊎ ((n == i) ≡ false)
            → (not (is_pair x.wait.port n p i) && list_any (is_pair_of p i) xs) ≡ list_any (is_pair_of p i) (filter (λ y. not (y.order == n)) xs)
        by_order (inl here) = subst (λ (j : ℕ). (not (is_pair x.wait.port n p j) && list_any (is_pair_of p j) xs)
            ≡ list_any (is_pair_of p j) (filter (λ y. not (y.order == n)) xs)) (eqb-true n i here)
            (rw (only p, eq-eqb n n refl) (never (x.wait.port == p) ∙ sym (any-filter_same (is_pair_of p n) (λ y. not (y.order == n)) false
            (λ y passes. ap not (and_parts (y.order == n) _ passes).0) xs)))
        by_order (inr apart) = rw apart (sym (any-filter_same (is_pair_of p i) (λ y. not (y.order == n)) true other xs))
          where
            other : (y : Listed) → IsTrue (is_pair_of p i y) → IsTrue (not (y.order == n))
            other y passes =
                let key : y.order ≡ i = eqb-true y.order i (and_parts (y.order == i) _ passes).0 in
                rw key (ap not (ne_eqb i n (λ same. false≢true (sym apart ∙ eq-eqb n i (sym same)))))

    -- ---- the earliest of a port

    pub none_given : (port : ℕ) → IsFirst index port made None → find (is_entry_to port) xs ≡ None
    none_given port none = by_find (find (is_entry_to port) xs) refl
      where
        by_find : (o : Option Listed) → find (is_entry_to port) xs ≡ o → o ≡ None
        by_find None is = refl
        by_find (Some x) is =
            let own : IsTrue (is_entry_to port x) × (x.order < made) = found_in (λ (y : Listed). y.order < made) (is_entry_to port) xs x is below in
            absurd (false≢true (sym (none x.order own.1) ∙ (fits port x.order ∙ any_of (is_entry_to port) (is_pair_of port x.order) xs x is
            (and_from (x.order == x.order) _ (eq-eqb x.order x.order refl) own.0))))

    -- the wait with this number is the earliest of the port
    record IsGiven (port n : ℕ) : Type 0 where
      pub one : Listed
      pub is : find (is_entry_to port) xs ≡ Some one
      pub order : one.order ≡ n

    first_given : (port n : ℕ) → IsEarliest index port made n → IsGiven port n
    first_given port n first = by_find (find (is_entry_to port) xs) refl
      where
        own : Found (is_pair_of port n) xs
        own = find_any (is_pair_of port n) xs (sym (fits port n) ∙ first.there)

        parts : IsTrue (own.one.order == n) × IsTrue (is_entry_to port own.one)
        parts = and_parts (own.one.order == n) _ own.passes

        by_find : (o : Option Listed) → find (is_entry_to port) xs ≡ o → IsGiven port n
        by_find None is = absurd (none-some own.one (sym (none_of_both (is_entry_to port) (λ y. y.order == n) xs is) ∙ own.is))
        by_find (Some x) is =
            let it : IsTrue (is_entry_to port x) × (x.order < made) = found_in (λ (y : Listed). y.order < made) (is_entry_to port) xs x is below in
            let least : n ≤ x.order =
            first.least x.order it.1 (fits port x.order ∙ any_of (is_entry_to port) (is_pair_of port x.order) xs x is
            (and_from (x.order == x.order) _ (eq-eqb x.order x.order refl) it.0)) in
            let number : own.one.order ≡ n = eqb-true own.one.order n parts.0 in
            let both = earliest_of_both (is_entry_to port) (λ y. y.order == n) xs x own.one rising is own.is (omega (arith, number, least)) in
            record { one = x; is = is; order = ap (λ (y : Listed). y.order) both.0 ∙ number }

    pub given_first : (port n : ℕ) → IsEarliest index port made n → find (λ y. y.order == n) xs ≡ find (is_entry_to port) xs
    given_first port n first =
        let it : IsGiven port n = first_given port n first in
        ap (λ (i : ℕ). find (λ y. y.order == i) xs) (sym it.order) ∙ (found_by_order (is_entry_to port) xs it.one rising it.is ∙ sym it.is)

    pub given_goes : (port n : ℕ) → IsEarliest index port made n → filter (λ y. not (y.order == n)) xs ≡ without_first (is_entry_to port) xs
    given_goes port n first =
        let it : IsGiven port n = first_given port n first in
        ap (λ (i : ℕ). filter (λ y. not (y.order == i)) xs) (sym it.order) ∙ goes_by_order (is_entry_to port) xs it.one rising it.is

-- ---- one is taken back

pub left_below : (n : ℕ) (xs : List Listed) → All (λ x. x.order ≤ n) xs → All (λ x. x.order < n) (filter (λ x. not (x.order == n)) xs)
left_below n xs most i d inside =
    let low = All-filter (λ x. not (x.order == n)) (λ x. x.order ≤ n) xs most i d inside in
    let other = filter_passes (λ (x : Listed). not (x.order == n)) xs i d inside in
    grind (arith, nat_tests, low, other)

pub listed_back : (n : ℕ) (w : Wait) (xs : List Listed) → All (λ x. x.order < n) xs → filter (λ x. not (x.order == n)) (xs ++ entry_of n w ∷ []) ≡ xs
listed_back n w xs below =
    filter-append (λ (x : Listed). not (x.order == n)) xs (entry_of n w ∷ [])
    ∙ rw (eq-eqb n n refl, append-nil (filter (λ (x : Listed). not (x.order == n)) xs)) (filter_all (λ (x : Listed). x.order == n) xs
    (list_any_none (λ (x : Listed). x.order == n) xs (λ i d inside. ne_eqb _ n (λ same. absurd (omega (arith, same, below i d inside))))))
