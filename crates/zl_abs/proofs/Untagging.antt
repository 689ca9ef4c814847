-- A write of a register leaves all other values as they are, where none of them is a tag.
use Rattle.zl_abs.proofs.Common.{AbsVal, Bool, List, State, [], ap, false, list_any, map, refined, refl, sym, true, untagged, with_value, ℕ, ◌∙◌, ◌∷◌, ◌≡◌}
use Rattle.zl_abs.specs.declared.value.AbsVal.TheVariants.{KindOf, RightsOf}
use Rattle.zl_abs.specs.Tags.{is_tag}

one_bare : (r : ℕ) (v : AbsVal) → is_tag v ≡ false → untagged r v ≡ v
one_bare r (KindOf s) h = absurd (cc)
one_bare r (RightsOf s) h = absurd (cc)
one_bare r _ h = refl

bare : (r : ℕ) (xs : List AbsVal) → false ≡ list_any (λ v. is_tag v) xs → xs ≡ map (untagged r) xs
bare r [] h = refl
bare r (v ∷ xs) h = by (λ k. bare r xs k) (is_tag v) refl h
  where
    by : (false ≡ list_any (λ v. is_tag v) xs → xs ≡ map (untagged r) xs) → (b : Bool) → is_tag v ≡ b → false ≡ list_any (λ v. is_tag v) (v ∷ xs)
        → v ∷ xs ≡ map (untagged r) (v ∷ xs)
    by rest true e k = absurd (let z : false ≡ true = rw e at k in cc)
    by rest false e k = rw (one_bare r v e) (ap (λ ys. v ∷ ys) (rest (rw e at k)))

-- where no value is a tag, a register is written by itself
pub written : (s t u : State) (r : ℕ) (v : AbsVal) → t ≡ refined s r v → u ≡ t → (b : Bool) → b ≡ list_any (λ x. is_tag x) u → b ≡ false → t ≡ with_value s r v
unfolding with_value
written s t u r v e p b h k = sym p ∙ (bare r u (sym k ∙ h) ∙ ap (λ x. map (untagged r) x) (p ∙ e))
