-- How often a koid stands in a list.
use Rattle.zl_sched.proofs.Common.{Bool, IsTrue, List, Map, None, Some, [], and_parts, ap, arith, below_all, cases_Bool, eq-eqb, eqb-true, false, filter}
use Rattle.zl_sched.proofs.Common.{get, has_key, if◌then◌else◌, inl, inr, is_some, is_sorted, length, length-filter_both}
use Rattle.zl_sched.proofs.Common.{list_any, map, nat_cmp, nat_lt, nat_tests, none-some, not, refl, subst, suc, sym, times-other, times-same, true, ℕ}
use Rattle.zl_sched.proofs.Common.{◌+◌, ◌==◌, ◌∷◌, ◌≡◌, ◌≤◌}
use Rattle.zl_code.proofs.Changes.{times}
use Rattle.zl_rights.proofs.MapEdits.{lower_missing}

-- what passes a test is counted
pub any_counted : (p : ℕ → Bool) (xs : List ℕ) → list_any p xs ≡ nat_lt 0 (length (filter p xs))
any_counted p [] = refl
any_counted p (x ∷ xs) = elim (cases_Bool (p x)) as (λ _. list_any p (x ∷ xs) ≡ nat_lt 0 (length (filter p (x ∷ xs)))) [
  | inl pass ↦ rw pass (grind (arith, nat_tests))
  | inr fail ↦ rw fail (any_counted p xs)
]

pub one_at_most : (test : Bool) → (if test then 1 else 0) ≤ 1
one_at_most true = omega arith
one_at_most false = omega arith

-- ---- keys

module _ {X : Type 0} where
  -- a key that isn't there isn't counted
  pub missing_once : (k : ℕ) (m : Map X) → get m k ≡ None → times k (map (λ e. e.0) m) ≡ 0
  unfolding get
  missing_once k [] none = refl
  missing_once k (e ∷ m) none = elim (cases_Bool (e.0 == k)) as (λ _. times k (map (λ x. x.0) (e ∷ m)) ≡ 0) [
    | inl here ↦ absurd (none-some e.1 (sym (rw here at none)))
    | inr apart ↦ rw apart (missing_once k m (rw apart at none))
  ]

  -- a key that is there stands once among the keys of a map in order
  pub key_once : (k : ℕ) (m : Map X) → IsTrue (is_sorted nat_cmp m) → IsTrue (has_key m k) → times k (map (λ e. e.0) m) ≡ 1
  unfolding get
  key_once k [] sorted there = absurd (cc)
  key_once k (e ∷ m) sorted there =
      let parts = and_parts (below_all nat_cmp e.0 m) (is_sorted nat_cmp m) sorted in
      elim (cases_Bool (e.0 == k)) as (λ _. times k (map (λ x. x.0) (e ∷ m)) ≡ 1) [
        | inl here ↦ rw here (ap suc (missing_once k m (subst (λ (j : ℕ). get m j ≡ None) (eqb-true e.0 k here) (lower_missing e.0 m parts.0))))
        | inr apart ↦ rw apart (key_once k m parts.1 (rw apart at there))
      ]

  -- a list in which each key of the map stands once at most, and nothing else, is no longer than the map
  pub no_longer : (m : Map X) (xs : List ℕ) → ((k : ℕ) → times k xs ≤ (if has_key m k then 1 else 0)) → length xs ≤ length m
  unfolding get
  no_longer [] [] once = omega arith
  no_longer [] (x ∷ xs) once =
      let there : times x (x ∷ xs) ≡ times x xs + 1 = rw (eq-eqb x x refl) (omega arith) in
      absurd (omega (arith, there, once x))
  no_longer (e ∷ m) xs once =
      let rest : List ℕ = filter (λ q. not (q == e.0)) xs in
      let fewer : length rest ≤ length m = no_longer m rest (λ k. elim (cases_Bool (e.0 == k)) as (λ _. times k rest ≤ (if has_key m k then 1 else 0)) [
        | inl here ↦ let none : times k rest ≡ 0 = subst (λ (j : ℕ). times j rest ≡ 0) (eqb-true e.0 k here) (times-same e.0 xs) in omega (arith, none)
        | inr apart ↦ let same : times k rest ≡ times k xs = times-other e.0 k apart xs in omega (arith, same, once_there k apart)
      ]) in
      let both : times e.0 xs + length rest ≡ length xs = length-filter_both (λ q. q == e.0) (λ q. not (q == e.0)) (λ q. refl) xs in
      omega (arith, fewer, both, once e.0, one_at_most (has_key (e ∷ m) e.0))
    where
      once_there : (k : ℕ) → (e.0 == k) ≡ false → times k xs ≤ (if has_key m k then 1 else 0)
      once_there k apart = subst (λ (test : Bool). times k xs ≤ (if is_some (if test then Some e.1 else get m k) then 1 else 0)) apart (once k)
