-- Two lists that rise and hold each number equally often are the same.
use Rattle.zl_sched.proofs.Common.{Bool, IsTrue, List, Map, [], ap, arith, below_all, cases_Bool, eq-eqb, eqb-true, false, filter, if◌then◌else◌, inl, inr}
use Rattle.zl_sched.proofs.Common.{is_sorted, length, map, nat_cmp, refl, subst, suc, true, ℕ, ⊤, ◌+◌, ◌<◌, ◌==◌, ◌∙◌, ◌∷◌, ◌≡◌, ◌≤◌}
use Rattle.std.specs.Prelude.{slice_index_or}
use Rattle.std.specs.List.Sorted.{IsNonDecreasing}
use Rattle.zl_code.proofs.Changes.{times}
use Rattle.zl_calls.proofs.lists.Positions.{times-filter, times_cons}
use Rattle.zl_rights.proofs.MapEdits.{below_parts, sorted_parts}

-- no number of the list is below x
abbrev IsLeast : ℕ → List ℕ → Type 0
IsLeast x xs = (k : ℕ) → 0 < times k xs → x ≤ k

-- no number is above one that comes after it
abbrev pub IsRising : List ℕ → Type 0
IsRising [] = ⊤
IsRising (x ∷ xs) = IsLeast x xs × IsRising xs

-- ---- the same numbers

one_more : (x : ℕ) (xs : List ℕ) → ◌≡◌ {A = ℕ} (times x (x ∷ xs)) (1 + times x xs)
one_more x xs = times_cons x x xs ∙ rw (eq-eqb x x refl) refl

least_of_all : (x : ℕ) (xs : List ℕ) → IsLeast x xs → IsLeast x (x ∷ xs)
least_of_all x xs least k some = elim (cases_Bool (x == k)) as (λ _. x ≤ k) [
  | inl here ↦ omega (arith, eqb-true x k here)
  | inr apart ↦ least k (subst (λ (n : ℕ). 0 < n) (times_cons k x xs ∙ rw apart (omega arith)) some)
]

pub same_rising : (xs ys : List ℕ) → IsRising xs → IsRising ys → ((k : ℕ) → times k xs ≡ times k ys) → xs ≡ ys
same_rising [] [] rises too same = refl
same_rising [] (y ∷ ys) rises too same = absurd (omega (arith, same y, one_more y ys))
same_rising (x ∷ xs) [] rises too same = absurd (omega (arith, same x, one_more x xs))
same_rising (x ∷ xs) (y ∷ ys) rises too same =
    let first : x ≡ y = omega (
      arith,
      least_of_all x xs rises.0 y (omega (arith, same y, one_more y ys)),
      least_of_all y ys too.0 x (omega (arith, same x, one_more x xs)),
    ) in
    λ i. first i ∷ same_rising xs ys rises.1 too.1 (λ k. rest first k) i
  where
    rest : x ≡ y → (k : ℕ) → times k xs ≡ times k ys
    rest first k =
        let heads : ◌≡◌ {A = ℕ} (if x == k then 1 else 0) (if y == k then 1 else 0) = ap (λ (z : ℕ). if z == k then 1 else 0) first in
        omega (arith, same k, times_cons k x xs, times_cons k y ys, heads)

-- ---- who rises

-- what a sort leaves
least_by_place : (x : ℕ) (xs : List ℕ) → ((i d : ℕ) → i < length xs → x ≤ slice_index_or xs i d) → IsLeast x xs
least_by_place x [] below k some = absurd (omega (arith, some))
least_by_place x (y ∷ ys) below k some = elim (cases_Bool (y == k)) as (λ _. x ≤ k) [
  | inl here ↦ omega (arith, below 0 y (omega arith), eqb-true y k here)
  | inr apart ↦ least_by_place x ys (λ i d within. below (suc i) d (omega (arith, within))) k
      (subst (λ (n : ℕ). 0 < n) (times_cons k y ys ∙ rw apart (omega arith)) some)
]

pub sorted_rises : (xs : List ℕ) → IsNonDecreasing xs → IsRising xs
sorted_rises [] sorted = tt
sorted_rises (x ∷ xs) sorted = (
  least_by_place x xs (λ i d within. sorted 0 (suc i) d (omega arith) (omega (arith, within))),
  sorted_rises xs (λ i j d le within. sorted (suc i) (suc j) d (omega (arith, le)) (omega (arith, within))),
)

-- the numbers of a list that rises which pass a test
pub filter_rises : (f : ℕ → Bool) (xs : List ℕ) → IsRising xs → IsRising (filter f xs)
filter_rises f [] rises = tt
filter_rises f (x ∷ xs) rises = by_test (f x) (filter_rises f xs rises.1)
  where
    fewer : (k : ℕ) → 0 < times k (filter f xs) → 0 < times k xs
    fewer k some = by_pass (f k) (subst (λ (n : ℕ). 0 < n) (times-filter f k xs) some)
      where
        by_pass : (b : Bool) → 0 < (if b then times k xs else 0) → 0 < times k xs
        by_pass true h = h
        by_pass false h = absurd (omega (arith, h))

    by_test : (b : Bool) → IsRising (filter f xs) → IsRising (if b then x ∷ filter f xs else filter f xs)
    by_test true rest = (λ k some. rises.0 k (fewer k some), rest)
    by_test false rest = rest

-- the keys of a map in order
module _ {X : Type 0} where
  key_above : (a : ℕ) (m : Map X) → IsTrue (below_all nat_cmp a m) → (k : ℕ) → 0 < times k (map (λ e. e.0) m) → a ≤ k
  key_above a [] below k some = absurd (omega (arith, some))
  key_above a (e ∷ m) below k some =
      let parts = below_parts a e m below in
      elim (cases_Bool (e.0 == k)) as (λ _. a ≤ k) [
        | inl here ↦ omega (arith, parts.0, eqb-true e.0 k here)
        | inr apart ↦ key_above a m parts.1 k (subst (λ (n : ℕ). 0 < n) (times_cons k e.0 (map (λ x. x.0) m) ∙ rw apart (omega arith)) some)
      ]

  pub keys_rise : (m : Map X) → IsTrue (is_sorted nat_cmp m) → IsRising (map (λ e. e.0) m)
  keys_rise [] sorted = tt
  keys_rise (e ∷ m) sorted = let parts = sorted_parts e m sorted in (key_above e.0 m parts.0, keys_rise m parts.1)
