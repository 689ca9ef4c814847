-- Rights that are gained.
use Rattle.zl_abs.proofs.Common.{ap, arith, bit_and, bit_or, max, min, sym, true, within, ℕ, ◌∙◌, ◌≡◌}
use Rattle.std.specs.Int.{bit_at}
use Rattle.std.proofs.lemmas.Nat.Bits.{same_from_bits, bit_at_and, bit_at_or}
use Rattle.zl_abs.proofs.Order.{is_within, within_is}

module _ (part whole more : ℕ) (h : within part whole ≡ true) where
  bit_of : (i : ℕ) → min (bit_at whole i) (bit_at part i) ≡ bit_at part i
  bit_of i = sym (bit_at_and whole part i) ∙ ap (λ (m : ℕ). bit_at m i) (is_within part whole h)

  inside : (w p m : ℕ) → min w p ≡ p → min (max w m) (max p m) ≡ max p m
  inside w p m e = omega arith

  by_bit : (i : ℕ) → bit_at (bit_and (bit_or whole more) (bit_or part more)) i ≡ bit_at (bit_or part more) i
  by_bit i =
      bit_at_and (bit_or whole more) (bit_or part more) i
      ∙ rw (bit_at_or whole more i, bit_at_or part more i) (inside (bit_at whole i) (bit_at part i) (bit_at more i) (bit_of i))

  pub within_gained : within (bit_or part more) (bit_or whole more) ≡ true
  within_gained = within_is _ _ (same_from_bits _ _ by_bit)

module _ (part more : ℕ) where
  all_inside : (p m : ℕ) → min (max p m) p ≡ p
  all_inside p m = omega arith

  more_by_bit : (i : ℕ) → bit_at (bit_and (bit_or part more) part) i ≡ bit_at part i
  more_by_bit i = bit_at_and (bit_or part more) part i ∙ rw (bit_at_or part more i) (all_inside (bit_at part i) (bit_at more i))

  pub within_more : within part (bit_or part more) ≡ true
  within_more = within_is _ _ (same_from_bits _ _ more_by_bit)
