-- Tests of a map in order, and what get finds.
use Rattle.zl_objects.proofs.Common.{Bool, IsTrue, Map, Some, [], ap, below_all, cases_Bool, eq-eqb, eqb-true, false, false≢true, get, inl}
use Rattle.zl_objects.proofs.Common.{inr, is_sorted, list_any, nat_cmp, none-some, or_cases, refl, sorted_parts, sym}
use Rattle.zl_objects.proofs.Common.{ℕ, ◌==◌, ◌∙◌, ◌∷◌, ◌≡◌, ◌⊎◌}
use Rattle.zl_rights.proofs.MapEdits.{lower_missing}

-- an entry that passes
pub record Found {X : Type 0} (test : ℕ × X → Bool) (m : Map X) : Type 0 where
  pub key : ℕ
  pub value : X
  pub at : get m key ≡ Some value
  pub passes : IsTrue (test (key, value))

module _ {X : Type 0} where
  pub any_found : (test : ℕ × X → Bool) (m : Map X) → IsTrue (is_sorted nat_cmp m) → IsTrue (list_any test m) → Found test m
  unfolding get
  any_found test [] sorted some = absurd (false≢true some)
  any_found test (e ∷ m) sorted some =
      let parts = sorted_parts e m sorted in
      elim (or_cases (test e) (list_any test m) some) as (λ _. Found test (e ∷ m)) [
        | inl first ↦ record { key = e.0; value = e.1; at = rw (eq-eqb e.0 e.0 refl) refl; passes = first }
        | inr later ↦
            let found : Found test m = any_found test m parts.1 later in
            record { key = found.key; value = found.value; at = behind found (cases_Bool (e.0 == found.key)) parts.0; passes = found.passes }
      ]
    where
      behind : (found : Found test m) → (IsTrue (e.0 == found.key)) ⊎ ((e.0 == found.key) ≡ false) → IsTrue (below_all nat_cmp e.0 m)
          → get (e ∷ m) found.key ≡ Some found.value
      behind found (inl here) below =
          absurd (none-some found.value (sym (lower_missing e.0 m below) ∙ (ap (λ (k : ℕ). get m k) (eqb-true e.0 found.key here) ∙ found.at)))
      behind found (inr apart) below = rw apart found.at
