-- A written register keeps that tags name registers that are 0 or have a handle.
use Rattle.zl_verify.proofs.Common.{ANY, AbsVal, Has, IsState, IsTrue, KindOf, RightsOf, State, Word, can_be_named, cases_Bool, cases_eq, eqb-true, false, inl}
use Rattle.zl_verify.proofs.Common.{inr, is_named_well, length, refl, true, untagged, value_at, with_long, with_value, ℕ, ◌<◌, ◌==◌, ◌∙◌, ◌≡◌, ◌≢◌, ◌⊎◌}
use Rattle.zl_verify.proofs.Owners.{by_register, value_at-with, value_at-here}

pub test_apart : (a b : ℕ) → a ≢ b → (a == b) ≡ false
test_apart a b h = by (cases_Bool (a == b))
  where
    by : ((a == b) ≡ true) ⊎ ((a == b) ≡ false) → (a == b) ≡ false
    by (inl e) = absurd (h (eqb-true a b e))
    by (inr e) = e

untagged_named : (r : ℕ) (a : AbsVal) → can_be_named a ≡ true → can_be_named (untagged r a) ≡ true
untagged_named r (Word m) e = e
untagged_named r (Has maybe kind rights) e = e
untagged_named r _ e = cc

module _ (s : State) (states : IsState s) (r : ℕ) (lt : r < length s) (a : AbsVal) where
  pub named_with : (t : ℕ) → t ≢ r → can_be_named (value_at s t) ≡ true → can_be_named (value_at (with_value s r a) t) ≡ true
  named_with t apart e = rw (value_at-with s r t a apart) (untagged_named r (value_at s t) e)

  others_well : (b : AbsVal) → IsTrue (is_named_well s b) → IsTrue (is_named_well (with_value s r a) (untagged r b))
  others_well (Word m) h = refl
  others_well (Has maybe kind rights) h = refl
  others_well (KindOf t) h = by_register (λ b. IsTrue (is_named_well (with_value s r a) b)) t r (Word ANY) (KindOf t) refl (λ beside. named_with t beside h)
  others_well (RightsOf t) h = by_register (λ b. IsTrue (is_named_well (with_value s r a) b)) t r (Word ANY) (RightsOf t) refl (λ beside. named_with t beside h)

  pub states_with : IsTrue (is_named_well (with_value s r a) (untagged r a)) → IsState (with_value s r a)
  states_with new = record { long = with_long s r a ∙ states.long; tags = λ q. by q (cases_eq q r) }
    where
      by : (q : ℕ) → (q ≡ r) ⊎ (q ≢ r) → IsTrue (is_named_well (with_value s r a) (value_at (with_value s r a) q))
      by q (inl e) = rw (e, value_at-here s r a lt) new
      by q (inr apart) = rw (value_at-with s r q a apart) (others_well (value_at s q) (states.tags q))
