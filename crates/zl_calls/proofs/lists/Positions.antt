-- The first element with a key: what it reads and writes, in the map by keys.
use Rattle.zl_calls.proofs.Common.{Bool, List, Map, None, Some, [], ap, arith, cases_Bool, eqb-true, false, filter, get, get_or, if◌then◌else◌, inl, inr, ◌++◌}
use Rattle.zl_calls.proofs.Common.{length, map, nat_lt, nat_tests, none-some, position, position-Some, position_or_len, refl, set, suc, sym, times, true}
use Rattle.zl_calls.proofs.Common.{update, zero, ℕ, ◌<◌, ◌==◌, ◌∙◌, ◌∷◌, ◌≡◌, ◌≤◌}
use Rattle.zl_calls.proofs.Common.{◌++◌, ◌+◌, length-append, ◌∙◌}
use Rattle.std.proofs.lemmas.List.Elements.{filter-append}

-- the element at place i is the first with the key k
pub record IsFirst {X : Type 0} (key : X → ℕ) (xs : List X) (k i : ℕ) (d : X) : Type 0 where
  pub within : i < length xs
  pub here : (key (get_or xs i d) == k) ≡ true
  pub before : (j : ℕ) → j < i → (key (get_or xs j d) == k) ≡ false

-- no element has the key k
record IsMissing {X : Type 0} (key : X → ℕ) (xs : List X) (k : ℕ) : Type 0 where
  past : length xs ≤ position_or_len (λ x. key x == k) xs

module _ {X Y : Type 0} (key : X → ℕ) (value : X → Y) where
  abbrev pub entry : X → ℕ × Y
  entry x = (key x, value x)

  pub first_at : (xs : List X) (k i : ℕ) (d : X) → position (λ x. key x == k) xs ≡ Some i → IsFirst key xs k i d
  first_at xs k i d found =
      let parts = position-Some (λ x. key x == k) xs i d found in
      record { within = parts.0; here = parts.1; before = parts.2 }

  first_behind : (x : X) (xs : List X) (k i : ℕ) (d : X) → IsFirst key (x ∷ xs) k (suc i) d → IsFirst key xs k i d
  first_behind x xs k i d first = record { within = omega (arith, first.within); here = first.here; before = λ j lt. first.before (suc j) (omega (arith, lt)) }

  pub get_first : (xs : List X) (k i : ℕ) (d : X) → IsFirst key xs k i d → get (map entry xs) k ≡ Some (value (get_or xs i d))
  unfolding get
  get_first [] k i d first = absurd (omega (arith, first.within))
  get_first (x ∷ xs) k zero d first = rw (first.here) refl
  get_first (x ∷ xs) k (suc i) d first = rw (first.before 0 (omega arith)) (get_first xs k i d (first_behind x xs k i d first))

  pub update_first : (xs : List X) (k i : ℕ) (d : X) (f : Y → Y) (new : X) → IsFirst key xs k i d → value new ≡ f (value (get_or xs i d))
      → key new ≡ key (get_or xs i d) → map entry (set xs i new) ≡ update (map entry xs) k f
  unfolding update
  update_first [] k i d f new first is same = absurd (omega (arith, first.within))
  update_first (x ∷ xs) k zero d f new first is same =
      let at : key new ≡ k = same ∙ eqb-true (key x) k first.here in
      rw (first.here) (λ i. (at i, is i) ∷ map entry xs)
  update_first (x ∷ xs) k (suc i) d f new first is same =
      rw (first.before 0 (omega arith)) (ap (λ (rest : Map Y). entry x ∷ rest) (update_first xs k i d f new (first_behind x xs k i d first) is same))

  -- ---- a key that isn't there

  missing_from : (xs : List X) (k : ℕ) → position (λ x. key x == k) xs ≡ None → IsMissing key xs k
  missing_from xs k none = record { past = by_test (nat_lt (position_or_len (λ x. key x == k) xs) (length xs)) refl }
    where
      by_test : (b : Bool) → nat_lt (position_or_len (λ x. key x == k) xs) (length xs) ≡ b → length xs ≤ position_or_len (λ x. key x == k) xs
      by_test true inside =
          let found : position (λ x. key x == k) xs ≡ Some (position_or_len (λ x. key x == k) xs) = rw inside refl in
          absurd (none-some (position_or_len (λ x. key x == k) xs) (sym none ∙ found))
      by_test false outside = grind (arith, nat_tests, outside)

  missing_behind : (x : X) (xs : List X) (k : ℕ) → IsMissing key (x ∷ xs) k → ((key x == k) ≡ false) × IsMissing key xs k
  missing_behind x xs k missing = elim (cases_Bool (key x == k)) as (λ _. ((key x == k) ≡ false) × IsMissing key xs k) [
    | inl here ↦ absurd (omega (arith, rw here at missing.past))
    | inr apart ↦ (apart, record { past = omega (arith, rw apart at missing.past) })
  ]

  get_behind : (xs : List X) (k : ℕ) → IsMissing key xs k → get (map entry xs) k ≡ None
  unfolding get
  get_behind [] k missing = refl
  get_behind (x ∷ xs) k missing = let parts = missing_behind x xs k missing in rw parts.0 (get_behind xs k parts.1)

  pub get_missing : (xs : List X) (k : ℕ) → position (λ x. key x == k) xs ≡ None → get (map entry xs) k ≡ None
  get_missing xs k none = get_behind xs k (missing_from xs k none)

-- ---- how often one stands in a list, in two, and among those that pass

pub times_cons : (p x : ℕ) (xs : List ℕ) → times p (x ∷ xs) ≡ (if x == p then 1 else 0) + times p xs
times_cons p x xs = by_test (x == p)
  where
    by_test : (b : Bool) → length (if b then x ∷ filter (λ q. q == p) xs else filter (λ q. q == p) xs) ≡ (if b then 1 else 0) + times p xs
    by_test true = omega arith
    by_test false = omega arith

pub times-append : (k : ℕ) (xs ys : List ℕ) → times k (xs ++ ys) ≡ times k xs + times k ys
times-append k xs ys = ap length (filter-append (λ q. q == k) xs ys) ∙ length-append (filter (λ q. q == k) xs) (filter (λ q. q == k) ys)

pub times-filter : (f : ℕ → Bool) (k : ℕ) (xs : List ℕ) → times k (filter f xs) ≡ (if f k then times k xs else 0)
times-filter f k [] = elim (f k) as (λ b. ◌≡◌ {A = ℕ} 0 (if b then 0 else 0)) [ true ↦ refl | false ↦ refl ]
times-filter f k (x ∷ xs) = elim (cases_Bool (x == k)) as (λ _. times k (filter f (x ∷ xs)) ≡ (if f k then times k (x ∷ xs) else 0)) [
  | inl here ↦ here_too here (f k) (times-filter f k xs) (ap f (eqb-true x k here))
  | inr apart ↦ rw apart (elsewhere apart (f x) (times-filter f k xs))
]
  where
    here_too : (x == k) ≡ true → (b : Bool) → times k (filter f xs) ≡ (if b then times k xs else 0) → f x ≡ b
        → times k (filter f (x ∷ xs)) ≡ (if b then times k (x ∷ xs) else 0)
    here_too here true e same = rw (same, here) (ap suc e)
    here_too here false e same = rw same e

    elsewhere : (x == k) ≡ false → (b : Bool) → times k (filter f xs) ≡ (if f k then times k xs else 0)
        → length (filter (λ q. q == k) (if b then x ∷ filter f xs else filter f xs)) ≡ (if f k then times k xs else 0)
    elsewhere apart true e = rw apart e
    elsewhere apart false e = e
