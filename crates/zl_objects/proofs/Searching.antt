-- A binary search among elements whose keys rise ends at the first with the key.
use Rattle.zl_objects.proofs.Common.{Bool, Err, IsBinarySearchResult, IsNonDecreasingBy, IsSearchInRange, IsTrue, List, Map, None, Ok, Option, Result, Some, []}
use Rattle.zl_objects.proofs.Common.{ap, arith, below_all, below_parts, cases_lt, cond, eq-eqb, get_or, get_or-map, inl, inr, is_sorted, length, length-map}
use Rattle.zl_objects.proofs.Common.{lt-ltb, map, nat_cmp, nat_lt, nat_tests, ne_eqb, ordering_index, position, position_or_len, refl, sorted_parts, suc, sym}
use Rattle.zl_objects.proofs.Common.{zero, ℕ, ◌<◌, ◌==◌, ◌∙◌, ◌∷◌, ◌≡◌, ◌≢◌, ◌≤◌}
use Rattle.std.specs.Result.{result_ok}
use Rattle.std.proofs.lemmas.Cmp.{ranked}

module _ {X : Type 0} where
  -- a key below all is below the key at each place
  below_each : (k : ℕ) (m : Map X) → IsTrue (below_all nat_cmp k m) → (i : ℕ) (d : ℕ × X) → i < length m → k < (get_or m i d).0
  below_each k [] below i d lt = absurd (omega arith)
  below_each k (e ∷ m) below zero d lt = (below_parts k e m below).0
  below_each k (e ∷ m) below (suc i) d lt = below_each k m (below_parts k e m below).1 i d (omega arith)

  -- the first key is below each later one
  first_below : (e : ℕ × X) (m : Map X) → IsTrue (is_sorted nat_cmp (e ∷ m)) → (i : ℕ) (d : ℕ × X) → i < length m → e.0 < (get_or m i d).0
  first_below e m sorted = below_each e.0 m (sorted_parts e m sorted).0

  -- the keys rise
  keys_rise : (m : Map X) → IsTrue (is_sorted nat_cmp m) → (i j : ℕ) (d : ℕ × X) → i ≤ j → j < length m → (get_or m i d).0 ≤ (get_or m j d).0
  keys_rise [] sorted i j d le lt = absurd (omega arith)
  keys_rise (e ∷ m) sorted zero zero d le lt = omega arith
  keys_rise (e ∷ m) sorted zero (suc j) d le lt = omega (arith, first_below e m sorted j d (omega arith))
  keys_rise (e ∷ m) sorted (suc i) zero d le lt = absurd (omega arith)
  keys_rise (e ∷ m) sorted (suc i) (suc j) d le lt = keys_rise m (sorted_parts e m sorted).1 i j d (omega arith) (omega arith)

module _ {X Y : Type 0} (key : X → ℕ) (value : X → Y) (k : ℕ) where
  abbrev keyed : X → ℕ × Y
  keyed x = (key x, value x)

  abbrev is_sought : X → Bool
  is_sought x = key x == k

  -- the element with the key stands behind lower ones
  sought_at : (xs : List X) (i : ℕ) (d : X) → IsTrue (is_sorted nat_cmp (map keyed xs)) → i < length xs → key (get_or xs i d) ≡ k
      → position_or_len is_sought xs ≡ i
  sought_at [] i d rising lt is = absurd (omega (arith, lt))
  sought_at (x ∷ xs) zero d rising lt is = rw (eq-eqb (key x) k is) refl
  sought_at (x ∷ xs) (suc i) d rising lt is =
      let within : i < length xs = omega (arith, lt) in
      let later : key x < (get_or (map keyed xs) i (keyed d)).0 =
      first_below (keyed x) (map keyed xs) rising i (keyed d) (omega (arith, within, length-map xs keyed)) in
      let same : (get_or (map keyed xs) i (keyed d)).0 ≡ k = ap (λ (e : ℕ × Y). e.0) (get_or-map keyed xs i d (keyed d) within) ∙ is in
      let other : key x ≢ k = λ e. absurd (omega (arith, later, same, e)) in
      rw (ne_eqb (key x) k other) (omega (arith, sought_at xs i d (sorted_parts (keyed x) (map keyed xs) rising).1 within is))

  -- no element has the key
  sought_nowhere : (xs : List X) → ((i : ℕ) (d : X) → i < length xs → key (get_or xs i d) ≢ k) → position_or_len is_sought xs ≡ length xs
  sought_nowhere [] other = refl
  sought_nowhere (x ∷ xs) other =
      rw (ne_eqb (key x) k (other 0 x (omega arith))) (omega (arith, sought_nowhere xs (λ i d lt. other (suc i) d (omega (arith, lt)))))

  comparisons_rise : (xs : List X) → IsTrue (is_sorted nat_cmp (map keyed xs)) → IsNonDecreasingBy (λ x. ordering_index (nat_cmp (key x) k)) xs
  comparisons_rise xs rising i j d le lt =
      let first : (get_or (map keyed xs) i (keyed d)).0 ≡ key (get_or xs i d) =
      ap (λ (e : ℕ × Y). e.0) (get_or-map keyed xs i d (keyed d) (omega (arith, le, lt))) in
      let second : (get_or (map keyed xs) j (keyed d)).0 ≡ key (get_or xs j d) = ap (λ (e : ℕ × Y). e.0) (get_or-map keyed xs j d (keyed d) lt) in
      let rise : (get_or (map keyed xs) i (keyed d)).0 ≤ (get_or (map keyed xs) j (keyed d)).0 =
      keys_rise (map keyed xs) rising i j (keyed d) le (omega (arith, lt, length-map xs keyed)) in
      let le_keys : key (get_or xs i d) ≤ key (get_or xs j d) = omega (arith, first, second, rise) in
      grind (arith, nat_tests)

  pub searched : (xs : List X) (r : Result ℕ ℕ) → IsTrue (is_sorted nat_cmp (map keyed xs)) → IsSearchInRange r (length xs)
      → IsBinarySearchResult (λ x. nat_cmp (key x) k) xs r → result_ok r ≡ position is_sought xs
  searched [] (Ok i) rising in_range equal = absurd (omega (arith, in_range))
  searched (x ∷ xs) (Ok i) rising in_range equal =
      let is : key (get_or (x ∷ xs) i x) ≡ k = ranked _ k _ (sym (equal x)) in
      rw (sought_at (x ∷ xs) i x rising in_range is, lt-ltb i (length (x ∷ xs)) in_range) refl
  searched xs (Err i) rising in_range parted =
      rw (sought_nowhere xs other) (by_test (length xs))
    where
      other : (j : ℕ) (d : X) → j < length xs → key (get_or xs j d) ≢ k
      other j d lt is = elim (cases_lt j i) as (λ _. ⊥) [
        | inl before ↦ let lower : key (get_or xs j d) < k = ranked _ k _ (sym ((parted (comparisons_rise xs rising)).0 j d (omega arith) before)) in
            absurd (omega (arith, lower, is))
        | inr behind ↦ let higher : k < key (get_or xs j d) = ranked _ k _ (sym ((parted (comparisons_rise xs rising)).1 j d behind lt)) in
            absurd (omega (arith, higher, is))
      ]

      by_test : (n : ℕ) → ◌≡◌ {A = Option ℕ} None (cond (nat_lt n n) (Some n) None)
      by_test n = grind (arith, nat_tests)
