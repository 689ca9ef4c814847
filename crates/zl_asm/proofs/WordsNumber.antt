-- When digits spell a number.
use Rattle.zl_asm.proofs.Common.{Bool, List, None, Option, Some, [], and_from, and_left, and_right, ap, arith, cond, digit_of, digit_value, drop, eqb, false}
use Rattle.zl_asm.proofs.Common.{fold, fold-append, fold_more, get_or, is_digit, is_number, is_some, le-ltb, le-mul_of_pos_right, length, list_all, list_all_at}
use Rattle.zl_asm.proofs.Common.{list_all_more, lt-ltb, ltb, ltb-false, ltb-true, nat_lt, nat_tests, not, number_in, refl, subst, sym, take, take-append-drop}
use Rattle.zl_asm.proofs.Common.{true, unwrap_or, value_of, ℕ, ◌&&◌, ◌*◌, ◌+◌, ◌<◌, ◌^◌, ◌∙◌, ◌∷◌, ◌≡◌, ◌≤◌}

abbrev with : ℕ → ℕ → ℕ → ℕ
with base value byte = value * base + digit_value byte

-- more digits don't make a number less
value_grows : (base value : ℕ) (digits : List ℕ) → 0 < base → value ≤ fold (with base) value digits
value_grows base value [] h = omega arith
value_grows base value (d ∷ ds) h =
    let more : with base value d ≤ fold (with base) (with base value d) ds = value_grows base (with base value d) ds h in
    let times : value ≤ value * base = le-mul_of_pos_right value h in
    omega arith

value_of_front : (base : ℕ) (digits : List ℕ) (i : ℕ) → 0 < base → value_of base (take i digits) ≤ value_of base digits
value_of_front base digits i h =
    let whole : value_of base digits ≡ fold (with base) (value_of base (take i digits)) (drop i digits) =
    ap (value_of base) (sym (take-append-drop i digits)) ∙ fold-append (with base) 0 (take i digits) (drop i digits) in
    subst (λ (x : ℕ). value_of base (take i digits) ≤ x) (sym whole) (value_grows base _ (drop i digits) h)

-- ---- one byte

other_byte : (base : ℕ) (o : Option ℕ) → None ≡ o → (is_some o && nat_lt (unwrap_or o 0) base) ≡ false
other_byte base None e = refl
other_byte base (Some d) e = absurd (cc)

-- a byte without a value is no digit
pub not_digit : (base byte : ℕ) → None ≡ digit_of byte → is_digit base byte ≡ false
not_digit base byte e = other_byte base (digit_of byte) e

-- a value that isn't below the base is no digit's
pub digit_above : (base byte digit : ℕ) → Some digit ≡ digit_of byte → base ≤ digit → is_digit base byte ≡ false
digit_above base byte digit e above = ap (λ (o : Option ℕ). is_some o && nat_lt (unwrap_or o 0) base) (sym e) ∙ le-ltb digit base above

-- one that is below it is a digit
pub digit_below : (base byte digit : ℕ) → Some digit ≡ digit_of byte → digit < base → is_digit base byte ≡ true
digit_below base byte digit e below = ap (λ (o : Option ℕ). is_some o && nat_lt (unwrap_or o 0) base) (sym e) ∙ lt-ltb digit base below

-- the value of a byte that has one
pub value_is : (byte digit : ℕ) → Some digit ≡ digit_of byte → digit ≡ digit_value byte
value_is byte digit e = ap (λ (o : Option ℕ). unwrap_or o 0) e

-- ---- no number, or one

-- no number, where a part of the test fails
none_by : (base : ℕ) (digits : List ℕ) → is_number base digits ≡ false → None ≡ number_in base digits
none_by base digits e = ap (λ (x : Bool). cond x (Some (value_of base digits)) None) (sym e)

-- no digit at all
pub none_empty : (base : ℕ) (digits : List ℕ) → length digits ≡ 0 → None ≡ number_in base digits
none_empty base digits e = none_by base digits (ap (λ (n : ℕ). not (eqb n 0) && (list_all (is_digit base) digits && ltb (value_of base digits) (2 ^ 32))) e)

-- a byte is no digit of the base
pub none_digit : (base : ℕ) (digits : List ℕ) (i : ℕ) → i < length digits → is_digit base (get_or digits i 0) ≡ false → None ≡ number_in base digits
none_digit base digits i within e =
    let other : list_all (is_digit base) digits ≡ false = list_all_at (is_digit base) digits i 0 within e in
    none_by base digits (and_right (not (eqb (length digits) 0)) _ (and_left (list_all (is_digit base) digits) (ltb (value_of base digits) (2 ^ 32)) other))

-- the digits so far and the next one are too large a number
pub none_large : (base : ℕ) (digits : List ℕ) (i : ℕ) → 0 < base → i < length digits → 2 ^ 32 ≤ with base (value_of base (take i digits)) (get_or digits i 0)
    → None ≡ number_in base digits
none_large base digits i positive within large =
    let more : value_of base (take (i + 1) digits) ≡ with base (value_of base (take i digits)) (get_or digits i 0) =
    fold_more (with base) 0 digits i 0 within in
    let front = value_of_front base digits (i + 1) positive in
    let above : ltb (value_of base digits) (2 ^ 32) ≡ false = le-ltb (value_of base digits) (2 ^ 32) (omega arith) in
    none_by base digits (and_right (not (eqb (length digits) 0)) _ (and_right (list_all (is_digit base) digits) (ltb (value_of base digits) (2 ^ 32)) above))

-- every byte is a digit of the base, and the number has 32 bits
pub some_number : (base : ℕ) (digits : List ℕ) → 0 < length digits → list_all (is_digit base) digits ≡ true → value_of base digits < 2 ^ 32
    → Some (value_of base digits) ≡ number_in base digits
some_number base digits nonempty all below =
    let filled : not (eqb (length digits) 0) ≡ true = grind (arith, nat_tests) in
    let small : ltb (value_of base digits) (2 ^ 32) ≡ true = lt-ltb (value_of base digits) (2 ^ 32) below in
    ap (λ (x : Bool). cond x (Some (value_of base digits)) None) (sym (and_from _ _ filled (and_from _ _ all small)))

-- a digit more that isn't taken: it isn't below the base, or the number is too large
pub none_longer : (base value digit i : ℕ) (digits : List ℕ) → i < length digits → value ≡ value_of base (take i digits)
    → Some digit ≡ digit_of (get_or digits i 0) → ((digit < base) × (value * base + digit < 2 ^ 32) → ⊥) → None ≡ number_in base digits
none_longer base value digit i digits within v d refused = by (nat_lt digit base) refl
  where
    by : (t : Bool) → nat_lt digit base ≡ t → None ≡ number_in base digits
    by false e = none_digit base digits i within (digit_above base (get_or digits i 0) digit d (ltb-false digit base e))
    by true e =
        let below : digit < base = ltb-true digit base e in
        let above : value * base + digit < 2 ^ 32 → ⊥ = λ small. refused (below, small) in
        let large : 2 ^ 32 ≤ value * base + digit = omega arith in
        none_large base digits i (omega arith) within (subst (λ (x : ℕ). 2 ^ 32 ≤ x) (λ k. v k * base + value_is (get_or digits i 0) digit d k) large)

-- a digit more that is taken
pub one_longer : (base digit i : ℕ) (digits : List ℕ) → i < length digits → Some digit ≡ digit_of (get_or digits i 0)
    → value_of base (take i digits) * base + digit ≡ value_of base (take (i + 1) digits)
one_longer base digit i digits within d =
    ap (λ (x : ℕ). value_of base (take i digits) * base + x) (value_is (get_or digits i 0) digit d) ∙ sym (fold_more (with base) 0 digits i 0 within)

pub all_longer : (base digit i : ℕ) (digits : List ℕ) → i < length digits → Some digit ≡ digit_of (get_or digits i 0) → digit < base
    → list_all (is_digit base) (take i digits) ≡ true → list_all (is_digit base) (take (i + 1) digits) ≡ true
all_longer base digit i digits within d below all =
    list_all_more (is_digit base) digits i 0 within
    ∙ and_from (list_all (is_digit base) (take i digits)) (is_digit base (get_or digits i 0)) all (digit_below base (get_or digits i 0) digit d below)
