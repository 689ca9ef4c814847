-- Rights that are within others together, and that nothing has.
use Rattle.zl_verify.proofs.Common.{and_le_l, ap, arith, bit_and, bit_or, eq-eqb, false, max, min, sym, true, within, within_is, ℕ, ◌==◌, ◌∙◌, ◌≡◌}
use Rattle.std.specs.Int.{bit_at}
use Rattle.std.proofs.lemmas.Nat.Bits.{same_from_bits, bit_at_and, bit_at_or}
use Rattle.zl_abs.proofs.Order.{is_within}

module _ (part more whole : ℕ) (h : within part whole ≡ true) (k : within more whole ≡ true) where
  bit_of : (p : ℕ) → within p whole ≡ true → (i : ℕ) → min (bit_at whole i) (bit_at p i) ≡ bit_at p i
  bit_of p e i = sym (bit_at_and whole p i) ∙ ap (λ (m : ℕ). bit_at m i) (is_within p whole e)

  inside : (w p m : ℕ) → min w p ≡ p → min w m ≡ m → min w (max p m) ≡ max p m
  inside w p m e g = omega arith

  by_bit : (i : ℕ) → bit_at (bit_and whole (bit_or part more)) i ≡ bit_at (bit_or part more) i
  by_bit i =
      bit_at_and whole (bit_or part more) i
      ∙ rw (bit_at_or part more i) (inside (bit_at whole i) (bit_at part i) (bit_at more i) (bit_of part h i) (bit_of more k i))

  pub within_both : within (bit_or part more) whole ≡ true
  within_both = within_is _ _ (same_from_bits _ _ by_bit)

pub rights_none : (rights whole : ℕ) → whole ≡ 0 → within rights whole ≡ true → (rights == 0) ≡ false → ⊥
rights_none rights whole z e some =
    let few = and_le_l whole rights in
    let is : bit_and whole rights ≡ rights = is_within rights whole e in
    let none : rights ≡ 0 = omega arith in
    let t : (rights == 0) ≡ true = eq-eqb rights 0 none in
    cc
