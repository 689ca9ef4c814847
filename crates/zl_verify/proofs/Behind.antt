-- The value of one register of a state with a change.
use Rattle.zl_verify.proofs.Common.{AbsVal, Bool, Has, IfSome, KindOf, None, Option, RightsOf, Some, State, Word, ap, arith, eqb, false, if◌then◌else◌, length}
use Rattle.zl_verify.proofs.Common.{nat_tests, refl, slice_set, subst, sym, true, untagged, value_at, with_value, ℕ, ◌<◌, ◌∙◌, ◌≡◌}
use Rattle.zl_abs.specs.Tags.{is_tag}
use Rattle.zl_abs.proofs.FineStates.{mapped_at}
use Rattle.zl_verify.proofs.Owners.{set_same}

-- the register that was set
pub set_here : (s : State) (w r : ℕ) (v : AbsVal) → true ≡ eqb w r → r < length s → v ≡ value_at (slice_set s w v) r
set_here s w r v e h = let p : r ≡ w = grind (arith, nat_tests) in subst (λ (x : ℕ). v ≡ value_at (slice_set s x v) r) p (sym (set_same s r v h))

untag_plain : (r : ℕ) (v : AbsVal) → is_tag v ≡ false → untagged r v ≡ v
untag_plain r (Word m) e = refl
untag_plain r (Has a k q) e = refl
untag_plain r (KindOf x) e = cc
untag_plain r (RightsOf x) e = cc

-- what isn't a tag stays where a register is written
pub plain_behind : (s : State) (w r : ℕ) (v k : AbsVal) (o : Option AbsVal) → k ≡ value_at (slice_set s w v) r
    → o ≡ (if is_tag k then None else Some k) → IfSome o (λ x. x ≡ value_at (with_value s w v) r)
unfolding with_value
plain_behind s w r v k o e f = rw f (by (is_tag k) refl)
  where
    by : (b : Bool) → is_tag k ≡ b → IfSome (if b then None else Some k) (λ x. x ≡ value_at (with_value s w v) r)
    by true h = tt
    by false h = sym (mapped_at (untagged w) refl (slice_set s w v) r ∙ (ap (untagged w) (sym e) ∙ untag_plain w k h))
