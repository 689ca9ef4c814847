-- The list of all waits, in which the orders of registration rise.
use Rattle.zl_objects.proofs.Common.{All, All-tail, Bool, IsTrue, List, Listed, None, Some, Wait, [], and_from, and_parts, ap, arith, below_all, below_parts}
use Rattle.zl_objects.proofs.Common.{cases_Bool, cond, entry_of, eq-eqb, eqb-true, false, filter, find, inl, inr, is_lt, is_sorted, map, nat_cmp, nat_tests}
use Rattle.zl_objects.proofs.Common.{ne_eqb, none-some, not, order_entry, refl, same_Some, sorted_parts, sym, true, without_first, ℕ, ◌&&◌, ◌++◌, ◌<◌, ◌==◌}
use Rattle.zl_objects.proofs.Common.{◌∙◌, ◌∷◌, ◌≡◌, ◌≤◌}
use Rattle.zl_objects.proofs.Places.{first_out}
use Rattle.std.proofs.Math.Bool.{and-false}

-- the order lies below those of all entries
abbrev pub IsBelow : ℕ → List Listed → Type 0
IsBelow k xs = IsTrue (below_all nat_cmp k (map order_entry xs))

-- the orders rise
abbrev pub Rises : List Listed → Type 0
Rises xs = IsTrue (is_sorted nat_cmp (map order_entry xs))

-- ---- some are left

below_left : (p : Listed → Bool) (k : ℕ) (xs : List Listed) → IsBelow k xs → IsBelow k (filter p xs)
below_left p k [] below = below
below_left p k (x ∷ xs) below =
    let both = and_parts (is_lt (nat_cmp k x.order)) (below_all nat_cmp k (map order_entry xs)) below in
    elim (p x) as (λ b. IsBelow k (cond b (x ∷ filter p xs) (filter p xs))) [
      | true ↦ and_from (is_lt (nat_cmp k x.order)) (below_all nat_cmp k (map order_entry (filter p xs))) both.0 (below_left p k xs both.1)
      | false ↦ below_left p k xs both.1
    ]

pub rises_left : (p : Listed → Bool) (xs : List Listed) → Rises xs → Rises (filter p xs)
rises_left p [] rising = rising
rises_left p (x ∷ xs) rising =
    let both = sorted_parts (order_entry x) (map order_entry xs) rising in
    elim (p x) as (λ b. Rises (cond b (x ∷ filter p xs) (filter p xs))) [
      | true ↦ and_from (below_all nat_cmp x.order (map order_entry (filter p xs))) (is_sorted nat_cmp (map order_entry (filter p xs)))
          (below_left p x.order xs both.0) (rises_left p xs both.1)
      | false ↦ rises_left p xs both.1
    ]

-- ---- one more comes last

module _ (n : ℕ) (w : Wait) where
  below_last : (k : ℕ) (xs : List Listed) → IsBelow k xs → k < n → IsBelow k (xs ++ entry_of n w ∷ [])
  below_last k [] below less = grind (arith, nat_tests, less)
  below_last k (x ∷ xs) below less =
      let both = and_parts (is_lt (nat_cmp k x.order)) (below_all nat_cmp k (map order_entry xs)) below in
      and_from (is_lt (nat_cmp k x.order)) (below_all nat_cmp k (map order_entry (xs ++ entry_of n w ∷ []))) both.0 (below_last k xs both.1 less)

  pub rises_last : (xs : List Listed) → Rises xs → All (λ x. x.order < n) xs → Rises (xs ++ entry_of n w ∷ [])
  rises_last [] rising below = refl
  rises_last (x ∷ xs) rising below =
      let both = sorted_parts (order_entry x) (map order_entry xs) rising in
      let rest : All (λ y. y.order < n) xs = All-tail (λ y. y.order < n) x xs below in
      and_from (below_all nat_cmp x.order (map order_entry (xs ++ entry_of n w ∷ []))) (is_sorted nat_cmp (map order_entry (xs ++ entry_of n w ∷ [])))
      (below_last x.order xs both.0 (below 0 x (omega arith))) (rises_last xs both.1 rest)

-- ---- one goes

-- it is among those with higher orders
pub found_above : (p : Listed → Bool) (k : ℕ) (xs : List Listed) (x : Listed) → IsBelow k xs → find p xs ≡ Some x → k < x.order
found_above p k [] x below found = absurd (none-some x found)
found_above p k (y ∷ ys) x below found = by_test (p y) found (λ later. found_above p k ys x parts.1 later)
  where
    parts : (k < y.order) × IsBelow k ys
    parts = below_parts k (order_entry y) (map order_entry ys) below

    by_test : (b : Bool) → cond b (Some y) (find p ys) ≡ Some x → (find p ys ≡ Some x → k < x.order) → k < x.order
    by_test true same later = let one : y.order ≡ x.order = ap (λ (z : Listed). z.order) (same_Some y x same) in omega (arith, one, parts.0)
    by_test false rest later = later rest

-- no other has its order
others_left : (k : ℕ) (xs : List Listed) → IsBelow k xs → filter (λ y. not (y.order == k)) xs ≡ xs
others_left k [] below = refl
others_left k (x ∷ xs) below =
    let parts = below_parts k (order_entry x) (map order_entry xs) below in
    rw (ne_eqb x.order k (λ same. absurd (omega (arith, same, parts.0)))) (ap (λ (ys : List Listed). x ∷ ys) (others_left k xs parts.1))

-- the first with the order is the only one
pub first_is_only : (k : ℕ) (xs : List Listed) → Rises xs → without_first (λ y. y.order == k) xs ≡ filter (λ y. not (y.order == k)) xs
first_is_only k [] rising = refl
first_is_only k (x ∷ xs) rising =
    let both = sorted_parts (order_entry x) (map order_entry xs) rising in
    first_out (λ y. y.order == k) x xs ∙ elim (cases_Bool (x.order == k)) as (λ _. cond (x.order == k) xs (x ∷ without_first (λ y. y.order == k) xs)
    ≡ filter (λ y. not (y.order == k)) (x ∷ xs)) [
      | inl here ↦ let same : x.order ≡ k = eqb-true x.order k here in rw here (sym (others_left k xs (rw same at both.0)))
      | inr apart ↦ rw apart (ap (λ (ys : List Listed). x ∷ ys) (first_is_only k xs both.1))
    ]

-- the first that passes goes with its order
pub goes_by_order : (p : Listed → Bool) (xs : List Listed) (x : Listed) → Rises xs → find p xs ≡ Some x
    → filter (λ y. not (y.order == x.order)) xs ≡ without_first p xs
goes_by_order p [] x rising found = absurd (none-some x found)
goes_by_order p (y ∷ ys) x rising found = by_test (p y) found (λ later. goes_by_order p ys x parts.1 later) ∙ sym (first_out p y ys)
  where
    parts : IsBelow y.order ys × Rises ys
    parts = sorted_parts (order_entry y) (map order_entry ys) rising

    by_test : (b : Bool) → cond b (Some y) (find p ys) ≡ Some x → (find p ys ≡ Some x → filter (λ z. not (z.order == x.order)) ys ≡ without_first p ys)
        → filter (λ z. not (z.order == x.order)) (y ∷ ys) ≡ cond b ys (y ∷ without_first p ys)
    by_test true same later =
        let one : y.order ≡ x.order = ap (λ (z : Listed). z.order) (same_Some y x same) in
        rw (eq-eqb y.order x.order one) (others_left x.order ys (rw one at parts.0))
    by_test false rest later =
        let less : y.order < x.order = found_above p y.order ys x parts.0 rest in
        rw (ne_eqb y.order x.order (λ same. absurd (omega (arith, same, less)))) (ap (λ (zs : List Listed). y ∷ zs) (later rest))

-- ---- the earliest

module _ (p r : Listed → Bool) where
  -- of those that pass p it is the earliest that passes r too, where it does
  pub first_of_both : (xs : List Listed) (x : Listed) → find p xs ≡ Some x → r x ≡ true → find (λ y. r y && p y) xs ≡ Some x
  first_of_both [] x found passes = absurd (none-some x found)
  first_of_both (y ∷ ys) x found passes = by_test (p y) refl found (λ later. first_of_both ys x later passes)
    where
      by_test : (b : Bool) → p y ≡ b → cond b (Some y) (find p ys) ≡ Some x → (find p ys ≡ Some x → find (λ z. r z && p z) ys ≡ Some x)
          → find (λ z. r z && p z) (y ∷ ys) ≡ Some x
      by_test true is same later = rw (ap r (same_Some y x same) ∙ passes, is) same
      by_test false is rest later = rw (is, and-false (r y)) (later rest)

  -- none passes both where none passes p
  pub none_of_both : (xs : List Listed) → find p xs ≡ None → find (λ y. r y && p y) xs ≡ None
  none_of_both [] none = refl
  none_of_both (y ∷ ys) none = by_test (p y) refl none (λ later. none_of_both ys later)
    where
      by_test : (b : Bool) → p y ≡ b → cond b (Some y) (find p ys) ≡ None → (find p ys ≡ None → find (λ z. r z && p z) ys ≡ None)
          → find (λ z. r z && p z) (y ∷ ys) ≡ None
      by_test true is same later = absurd (none-some y (sym same))
      by_test false is rest later = rw (is, and-false (r y)) (later rest)

  -- the earliest that passes both, where its order isn't above that of the earliest that passes p
  pub earliest_of_both : (xs : List Listed) (x y : Listed) → Rises xs → find p xs ≡ Some x → find (λ z. r z && p z) xs ≡ Some y → y.order ≤ x.order
      → (x ≡ y) × (r y ≡ true)
  earliest_of_both [] x y rising found both less = absurd (none-some x found)
  earliest_of_both (z ∷ zs) x y rising found both less =
      by_test (p z) refl (r z) refl found both (λ first second. earliest_of_both zs x y parts.1 first second less)
    where
      parts : IsBelow z.order zs × Rises zs
      parts = sorted_parts (order_entry z) (map order_entry zs) rising

      by_test : (b : Bool) → p z ≡ b → (d : Bool) → r z ≡ d → cond b (Some z) (find p zs) ≡ Some x → cond (d && b) (Some z) (find (λ v. r v && p v) zs) ≡ Some y
          → (find p zs ≡ Some x → find (λ v. r v && p v) zs ≡ Some y → (x ≡ y) × (r y ≡ true)) → (x ≡ y) × (r y ≡ true)
      by_test true is true also same same2 later = (sym (same_Some z x same) ∙ same_Some z y same2, ap r (sym (same_Some z y same2)) ∙ also)
      by_test true is false other same rest later =
          let one : z.order ≡ x.order = ap (λ (v : Listed). v.order) (same_Some z x same) in
          absurd (omega (arith, one, less, found_above (λ v. r v && p v) z.order zs y parts.0 rest))
      by_test false is true also rest rest2 later = later rest rest2
      by_test false is false other rest rest2 later = later rest rest2
