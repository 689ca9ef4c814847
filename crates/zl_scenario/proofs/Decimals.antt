-- When a word spells a number.
use Rattle.zl_scenario.proofs.Common.{◌≡◌, ℕ, ◌+◌, ◌-◌, ◌*◌, ◌^◌, ◌<◌, ◌≤◌, Bool, true, false, ◌&&◌, not, eqb, ltb, cond, List, [], ◌∷◌, length, take, drop}
use Rattle.zl_scenario.proofs.Common.{get_or, fold, Some, None, refl, sym, ap, ◌∙◌, subst, arith, take-append-drop, list_all, nat_tests, is_number}
use Rattle.zl_scenario.proofs.Common.{decimal_value, is_decimal_digit, decimal_digit_of, number_of}
use Rattle.std.proofs.lemmas.Bool.{and_from, and_left, and_right, le-ltb}
use Rattle.std.proofs.lemmas.List.Folds.{list_all_at}
use Rattle.std.proofs.lemmas.List.Sums.{fold-append, fold_more}

abbrev with : ℕ → ℕ → ℕ
with value digit = value * 10 + (digit - 48)

-- more digits don't make a number less
value_grows : (value : ℕ) (digits : List ℕ) → value ≤ fold with value digits
value_grows value [] = omega arith
value_grows value (d ∷ ds) = let more : with value d ≤ fold with (with value d) ds = value_grows (with value d) ds in omega arith

value_of_front : (word : List ℕ) (i : ℕ) → decimal_value (take i word) ≤ decimal_value word
value_of_front word i =
    let whole : decimal_value word ≡ fold with (decimal_value (take i word)) (drop i word) =
    ap decimal_value (sym (take-append-drop i word)) ∙ fold-append with 0 (take i word) (drop i word) in
    subst (λ (x : ℕ). decimal_value (take i word) ≤ x) (sym whole) (value_grows _ (drop i word))

-- no number, where a part of the test fails
none_by : (word : List ℕ) → is_number word ≡ false → None ≡ number_of word
unfolding number_of
none_by word e = ap (λ (x : Bool). cond x (Some (decimal_value word)) None) (sym e)

pub none_empty : (word : List ℕ) → length word ≡ 0 → None ≡ number_of word
none_empty word e = none_by word (ap (λ (n : ℕ). not (eqb n 0) && (list_all is_decimal_digit word && ltb (decimal_value word) (2 ^ 64))) e)

-- a byte is no digit
pub none_digit : (word : List ℕ) (i : ℕ) → i < length word → is_decimal_digit (get_or word i 0) ≡ false → None ≡ number_of word
none_digit word i within e =
    let digits : list_all is_decimal_digit word ≡ false = list_all_at is_decimal_digit word i 0 within e in
    none_by word (and_right (not (eqb (length word) 0)) (list_all is_decimal_digit word && ltb (decimal_value word) (2 ^ 64))
    (and_left (list_all is_decimal_digit word) (ltb (decimal_value word) (2 ^ 64)) digits))

-- the digits so far and the next one are too large a number
pub none_large : (word : List ℕ) (i : ℕ) → i < length word → 2 ^ 64 ≤ decimal_value (take i word) * 10 + (get_or word i 0 - 48) → None ≡ number_of word
none_large word i within large =
    let more : decimal_value (take (i + 1) word) ≡ with (decimal_value (take i word)) (get_or word i 0) = fold_more with 0 word i 0 within in
    let front = value_of_front word (i + 1) in
    let above : ltb (decimal_value word) (2 ^ 64) ≡ false = le-ltb (decimal_value word) (2 ^ 64) (omega arith) in
    none_by word (and_right (not (eqb (length word) 0)) (list_all is_decimal_digit word && ltb (decimal_value word) (2 ^ 64))
    (and_right (list_all is_decimal_digit word) (ltb (decimal_value word) (2 ^ 64)) above))

-- every byte is a digit, and the number is below the limit
pub some_number : (word : List ℕ) → 0 < length word → list_all is_decimal_digit word ≡ true → decimal_value word < 2 ^ 64
    → Some (decimal_value word) ≡ number_of word
unfolding number_of
some_number word nonempty digits below =
    let filled : not (eqb (length word) 0) ≡ true = grind (arith, nat_tests) in
    let small : ltb (decimal_value word) (2 ^ 64) ≡ true = grind (arith, nat_tests) in
    ap (λ (x : Bool). cond x (Some (decimal_value word)) None)
    (sym (and_from (not (eqb (length word) 0)) _ filled (and_from (list_all is_decimal_digit word) (ltb (decimal_value word) (2 ^ 64)) digits small)))

false_by : (t : Bool) (n : ℕ) → None ≡ cond t (Some n) None → t ≡ false
false_by true n e = absurd (cc)
false_by false n e = refl

value_by : (t : Bool) (n d : ℕ) → Some d ≡ cond t (Some n) None → d ≡ n
value_by true n d e = cc
value_by false n d e = absurd (cc)

pub not_digit : (byte : ℕ) → None ≡ decimal_digit_of byte → is_decimal_digit byte ≡ false
not_digit byte e = false_by (is_decimal_digit byte) (byte - 48) e

pub digit_value : (byte digit : ℕ) → Some digit ≡ decimal_digit_of byte → digit ≡ byte - 48
digit_value byte digit e = value_by (is_decimal_digit byte) (byte - 48) digit e
