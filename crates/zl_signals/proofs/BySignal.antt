-- The numbers of the first waits for each signal: one of them is written, and what they say of any set of signals.
use Rattle.zl_rights.proofs.Common.{◌≡◌, ℕ, ◌*◌, ◌%◌, ◌^◌, ◌<◌, ◌≤◌, Bool, true, false, ◌==◌, not, bit_and, List, length, slice_index, slice_set, Some}
use Rattle.zl_rights.proofs.Common.{ap, arith, cases_lt, eqb-true, false≢true, inl, inr, nat_tests, none-some, option_map, refl, sym, ◌∙◌}
use Rattle.zl_rights.specs.Numbers.{meets}
use Rattle.std.proofs.Common.{min, w32, ◌≢◌}
use Rattle.std.proofs.lemmas.Bool.{cases_eq}
use Rattle.std.proofs.lemmas.List.{get_or-set_other, get_or-set_same, length-set}
use Rattle.std.proofs.lemmas.Nat.Bits.{and_pow, bit_at-lt, bit_at-trailing_zeros, bit_at-zero, bit_at_above, bit_at_and, bit_at_clear_other, bit_at_clear_same, same_from_bits}
use Rattle.std.proofs.lemmas.Nat.{and_le_l, pow_pos}
use Rattle.std.specs.Int.{bit_at, bit_not, trailing_zeros}
use Rattle.zl_signals.specs.Firsts.{IsLeast, IsWithout}
use Rattle.zl_signals.specs.Numbered.{AreBelow, AreFirsts, IsFirst, NO_WAIT, Numbered, is_before, is_for, number_of, wait_by}
use Rattle.zl_signals.specs.Waits.{watch_holds}
use Rattle.zl_signals.proofs.Entries.{some_passes}

-- ---- signals by their bits

by_bit : (n i : ℕ) → meets n (2 ^ i) ≡ (bit_at n i == 1)
by_bit n i = by_value (bit_at n i) (bit_at-lt n i) (and_pow n i)
  where
    by_value : (b : ℕ) → b < 2 → bit_and n (2 ^ i) ≡ b * 2 ^ i → meets n (2 ^ i) ≡ (b == 1)
    by_value b less is = grind (arith, nat_tests, less, is, pow_pos i)

no_bit : (i : ℕ) → meets 0 (2 ^ i) ≡ false
no_bit i = by_bit 0 i ∙ rw (bit_at-zero i) refl

bit_on : (n i : ℕ) → bit_at n i ≡ 1 → meets n (2 ^ i) ≡ true
bit_on n i is = by_bit n i ∙ rw is refl

pub lowest_is : (n : ℕ) → 0 < n → n < 2 ^ 32 → (trailing_zeros w32 n < 32) × (meets n (2 ^ trailing_zeros w32 n) ≡ true)
lowest_is n some small = let low = bit_at-trailing_zeros w32 n some small in (low.0, bit_on n (trailing_zeros w32 n) low.1)

pub cleared : (n place : ℕ) → place < 32 → IsWithout n place (bit_and n (bit_not w32 (1 * 2 ^ place % 2 ^ 32)))
cleared n place inside = (gone, λ i less apart. by_bit n2 i ∙ (ap (λ b. b == 1) (bit_at_clear_other w32 n place inside i less apart) ∙ sym (by_bit n i)), lower)
  where
    n2 : ℕ
    n2 = bit_and n (bit_not w32 (1 * 2 ^ place % 2 ^ 32))

    gone : meets n2 (2 ^ place) ≡ false
    gone = by_bit n2 place ∙ rw (bit_at_clear_same w32 n place inside) refl

    lower : meets n (2 ^ place) ≡ true → n2 < n
    lower on =
        let other : n2 ≡ n → ⊥ = λ same. false≢true (sym gone ∙ (ap (λ k. meets k (2 ^ place)) same ∙ on)) in
        omega (arith, and_le_l n (bit_not w32 (1 * 2 ^ place % 2 ^ 32)), other)

-- ---- one signal after another

module _ (R : ℕ → ℕ → ℕ → Type 0) (mask : ℕ) (firsts0 : List ℕ) where
  -- all is done but for the signals that are left
  pub record Done (left : ℕ) (firsts : List ℕ) : Type 0 where
    pub long : length firsts ≡ 32
    pub wanted : (i : ℕ) → i < 32 → meets left (2 ^ i) ≡ true → meets mask (2 ^ i) ≡ true
    pub done : (i : ℕ) → i < 32 → meets left (2 ^ i) ≡ false → R i (slice_index firsts0 i) (slice_index firsts i)
    pub rest : (i : ℕ) → i < 32 → meets left (2 ^ i) ≡ true → slice_index firsts i ≡ slice_index firsts0 i

  pub one_done : (left left2 place v : ℕ) (firsts : List ℕ) → place < 32 → IsWithout left place left2 → R place (slice_index firsts0 place) v
      → Done left firsts → Done left2 (slice_set firsts place v)
  one_done left left2 place v firsts inside out now d = record {
    long = length-set firsts place v ∙ d.long;
    wanted = λ i less on. d.wanted i less (sym (out.1 i less (other i on)) ∙ on);
    done = λ i less off. elim (cases_eq i place) [
      | inl here ↦ rw here (rw (get_or-set_same firsts place v 0 (omega (arith, inside, d.long))) now)
      | inr apart ↦ rw (get_or-set_other firsts place i v 0 apart) (d.done i less (sym (out.1 i less apart) ∙ off))
    ];
    rest = λ i less on. get_or-set_other firsts place i v 0 (other i on) ∙ d.rest i less (sym (out.1 i less (other i on)) ∙ on);
  }
    where
      other : (i : ℕ) → meets left2 (2 ^ i) ≡ true → i ≢ place
      other i on here = false≢true (sym out.0 ∙ (ap (λ j. meets left2 (2 ^ j)) (sym here) ∙ on))

  pub all_done : (firsts : List ℕ) → Done 0 firsts → (i : ℕ) → i < 32 → R i (slice_index firsts0 i) (slice_index firsts i)
  all_done firsts d i less = d.done i less (no_bit i)

-- no signal of both is active
pub none_meets : (active mask : ℕ) → active < 2 ^ 32 → ((i : ℕ) → i < 32 → meets active (2 ^ i) ≡ true → meets mask (2 ^ i) ≡ false) → meets active mask ≡ false
none_meets active mask small none =
    ap (λ n. not (n == 0)) (same_from_bits (bit_and active mask) 0 (λ i. bit_at_and active mask i ∙ (at i ∙ sym (bit_at-zero i))))
  where
    low : (i : ℕ) → i < 32 → min (bit_at active i) (bit_at mask i) ≡ 0
    low i less = by_test (meets active (2 ^ i)) refl
      where
        by_test : (b : Bool) → meets active (2 ^ i) ≡ b → min (bit_at active i) (bit_at mask i) ≡ 0
        by_test false off = let no : (bit_at active i == 1) ≡ false = sym (by_bit active i) ∙ off in grind (arith, nat_tests, bit_at-lt active i, no)
        by_test true on =
            let no : (bit_at mask i == 1) ≡ false = sym (by_bit mask i) ∙ none i less on in
            grind (arith, nat_tests, bit_at-lt mask i, no)

    at : (i : ℕ) → min (bit_at active i) (bit_at mask i) ≡ 0
    at i = elim (cases_lt i 32) [
      | inl less ↦ low i less
      | inr high ↦ let no : bit_at active i ≡ 0 = bit_at_above active 32 i small high in omega (arith, no)
    ]

-- a signal of both is active
pub one_meets : (active mask i : ℕ) → meets active (2 ^ i) ≡ true → meets mask (2 ^ i) ≡ true → meets active mask ≡ true
one_meets active mask i on for = by_test (bit_and active mask == 0) refl
  where
    by_test : (b : Bool) → (bit_and active mask == 0) ≡ b → not b ≡ true
    by_test false is = refl
    by_test true is =
        let none : min (bit_at active i) (bit_at mask i) ≡ 0 = sym (bit_at_and active mask i)
        ∙ (ap (λ n. bit_at n i) (eqb-true (bit_and active mask) 0 is) ∙ bit_at-zero i) in
        let first : bit_at active i ≡ 1 = eqb-true (bit_at active i) 1 (sym (by_bit active i) ∙ on) in
        let second : bit_at mask i ≡ 1 = eqb-true (bit_at mask i) 1 (sym (by_bit mask i) ∙ for) in
        absurd (omega (arith, none, first, second))

-- ---- the first wait that holds

before_later : (n k first : ℕ) → n < NO_WAIT → k ≤ first → is_before n (number_of k) ≡ true → is_before n (number_of first) ≡ true
before_later n k first small less before = grind (arith, nat_tests, small, less, before)

module _ (firsts : List ℕ) (active least : ℕ) (is_least : IsLeast firsts active least) (m : Numbered) (are : AreFirsts firsts m) (below : AreBelow NO_WAIT m)
    (small : active < 2 ^ 32) where
  there : (n : ℕ) → number_of least ≡ Some n → option_map (watch_holds active) (wait_by m n) ≡ Some true
  there n is = by_test (least == NO_WAIT) refl
    where
      by_test : (b : Bool) → (least == NO_WAIT) ≡ b → option_map (watch_holds active) (wait_by m n) ≡ Some true
      by_test true none = absurd (none-some n (sym (rw none refl) ∙ is))
      by_test false some =
          let at = is_least.1 some in
          let one = some_passes (is_for (2 ^ at.0)) (wait_by m n) ((are at.0 at.1).1 n (ap number_of at.3 ∙ is)).1 in
          rw one.1 (ap Some (one_meets active one.0.mask.0 at.0 at.2 one.2))

  pub first_holds : IsFirst (watch_holds active) m (number_of least)
  first_holds = (
    λ n x at high before. none_meets active x.mask.0 small (λ i inside on. (are i inside).0 n x at high
        (before_later n least (slice_index firsts i) (below n x at) (is_least.0 i inside on) before)),
    λ n is. (omega arith, there n is),
  )
