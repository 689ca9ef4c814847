-- Numbers, registers and labels as they are written are read again.
use Rattle.zl_asm.proofs.Common.{Bool, List, Option, Some, [], and_from, and_left, and_parts, and_right, ap, arith, codes, decimal, digit_of, digit_value}
use Rattle.zl_asm.proofs.Common.{false, fold-append, is_digit, is_name, is_name_byte, is_some, label_text, le-leb, leb-true, length, list_all, list_all-append}
use Rattle.zl_asm.proofs.Common.{lt-leb, lt-ltb, nat_le, nat_lt, ne_eqb, number_of, or_left, or_right, refl, starts_with, sym, true, unwrap_or, value_of, ℕ}
use Rattle.zl_asm.proofs.Common.{◌%◌, ◌&&◌, ◌*◌, ◌++◌, ◌+◌, ◌-◌, ◌/◌, ◌<◌, ◌==◌, ◌^◌, ◌||◌, ◌∙◌, ◌∷◌, ◌≡◌, ◌≤◌}
use Rattle.std.proofs.lemmas.Fmt.{decimal_by_steps, decimal_injective, length-decimal-le}
use Rattle.zl_asm.proofs.WordsNumber.{some_number}
use Rattle.zl_asm.proofs.RoundWords.{is_plain, is_plain_word}

-- one of the bytes of decimal digits
abbrev is_decimal : ℕ → Bool
is_decimal b = nat_le 48 b && nat_le b 57

-- what the decimal digits of a number are
record IsDecimal (n : ℕ) (ds : List ℕ) : Type 0 where
  pub digits : list_all is_decimal ds ≡ true
  pub filled : 0 < length ds
  pub value : value_of 10 ds ≡ n

digit_is : (k : ℕ) → k < 10 → is_decimal (48 + k) ≡ true
digit_is k lt = and_from (nat_le 48 (48 + k)) (nat_le (48 + k) 57) (le-leb 48 (48 + k) (omega arith)) (le-leb (48 + k) 57 (omega arith))

digit_of-decimal : (b : ℕ) → is_decimal b ≡ true → digit_of b ≡ Some (b - 48)
unfolding digit_of
digit_of-decimal b h = rw h refl

digit_value-digit : (k : ℕ) → k < 10 → digit_value (48 + k) ≡ k
digit_value-digit k lt = let same : (48 + k) - 48 ≡ k = omega arith in ap (λ (o : Option ℕ). unwrap_or o 0) (digit_of-decimal (48 + k) (digit_is k lt)) ∙ same

is_digit-decimal : (b : ℕ) → is_decimal b ≡ true → is_digit 10 b ≡ true
is_digit-decimal b h =
    let p = and_parts (nat_le 48 b) (nat_le b 57) h in
    let high : b ≤ 57 = leb-true b 57 p.1 in
    ap (λ (o : Option ℕ). is_some o && nat_lt (unwrap_or o 0) 10) (digit_of-decimal b h) ∙ lt-ltb (b - 48) 10 (omega arith)

one_digit : (n : ℕ) → n < 10 → IsDecimal n ((48 + n) ∷ [])
one_digit n lt = record { digits = rw (digit_is n lt) refl; filled = omega arith; value = omega (arith, digit_value-digit n lt) }

more_digits : (n : ℕ) (ds : List ℕ) → IsDecimal (n / 10) ds → IsDecimal n (ds ++ ((48 + n % 10) ∷ []))
more_digits n ds d =
    let last : n % 10 < 10 = omega arith in
    let whole : n / 10 * 10 + n % 10 ≡ n = omega arith in
    record {
      digits = list_all-append is_decimal ds ((48 + n % 10) ∷ []) ∙ and_from _ _ d.digits (and_from _ _ (digit_is (n % 10) last) refl);
      filled = long ds ((48 + n % 10) ∷ []) d.filled;
      value = fold-append (λ (v b : ℕ). v * 10 + digit_value b) 0 ds ((48 + n % 10) ∷ []) ∙ (λ k. d.value k * 10 + digit_value-digit (n % 10) last k) ∙ whole;
    }
  where
    long : (xs ys : List ℕ) → 0 < length xs → 0 < length (xs ++ ys)
    long [] ys h = absurd (omega arith)
    long (x ∷ xs) ys h = omega arith

decimal_fits : (n : ℕ) → n < 2 ^ 32 → IsDecimal n (decimal n)
decimal_fits n lt = decimal_by_steps IsDecimal one_digit (λ m ds high before. more_digits m ds before) n (omega arith)

-- ---- what digits are not

high_byte : (b c : ℕ) → 57 < c → is_decimal b ≡ true → (c == b) ≡ false
high_byte b c high h =
    let le : b ≤ 57 = leb-true b 57 (and_parts (nat_le 48 b) (nat_le b 57) h).1 in
    ne_eqb c b (λ e. omega arith)

no_prefix : (ds : List ℕ) → list_all is_decimal ds ≡ true → starts_with ◌==◌ ds (codes "0x") ≡ false
no_prefix [] h = refl
no_prefix (a ∷ []) h = and_right (48 == a) false refl
no_prefix (a ∷ b ∷ ds) h =
    let p = and_parts (is_decimal a) (is_decimal b && list_all is_decimal ds) h in
    let q = and_parts (is_decimal b) (list_all is_decimal ds) p.1 in
    and_right (48 == a) ((120 == b) && true) (and_left (120 == b) true (high_byte b 120 (omega arith) q.0))

pub all_of_kind : (p q : ℕ → Bool) → ((b : ℕ) → p b ≡ true → q b ≡ true) → (bs : List ℕ) → list_all p bs ≡ true → list_all q bs ≡ true
all_of_kind p q f [] h = refl
all_of_kind p q f (b ∷ bs) h = let r = and_parts (p b) (list_all p bs) h in and_from _ _ (f b r.0) (all_of_kind p q f bs r.1)

-- a number as it is written
pub number_of-decimal : (n : ℕ) → n < 2 ^ 32 → number_of (decimal n) ≡ Some n
unfolding number_of
number_of-decimal n lt =
    let d = decimal_fits n lt in
    let none = no_prefix (decimal n) d.digits in
    let each : list_all (is_digit 10) (decimal n) ≡ true = all_of_kind is_decimal (is_digit 10) is_digit-decimal (decimal n) d.digits in
    rw none (sym (some_number 10 (decimal n) d.filled each (omega (arith, d.value))) ∙ ap Some d.value)

no_name : (ds : List ℕ) → list_all is_decimal ds ≡ true → is_name ds ≡ false
unfolding is_name
no_name [] h = refl
no_name (b ∷ bs) h =
    let le : b ≤ 57 = leb-true b 57 (and_parts (nat_le 48 b) (nat_le b 57) (and_parts (is_decimal b) (list_all is_decimal bs) h).0).1 in
    let low : nat_le 97 b ≡ false = lt-leb 97 b (omega arith) in
    rw low refl

-- a number is no label's name
pub no_name-decimal : (n : ℕ) → n < 2 ^ 32 → is_name (decimal n) ≡ false
no_name-decimal n lt = no_name (decimal n) (decimal_fits n lt).digits

-- ---- plain words

digit_plain : (b : ℕ) → is_decimal b ≡ true → is_plain b ≡ true
digit_plain b h =
    let p = and_parts (nat_le 48 b) (nat_le b 57) h in
    let low : 48 ≤ b = leb-true 48 b p.0 in
    let high : b ≤ 57 = leb-true b 57 p.1 in
    let a : (b == 59) ≡ false = ne_eqb b 59 (λ e. omega arith) in
    let c : (b == 32) ≡ false = ne_eqb b 32 (λ e. omega arith) in
    let d : (b == 44) ≡ false = ne_eqb b 44 (λ e. omega arith) in
    let e : nat_lt 32 b ≡ true = lt-ltb 32 b (omega arith) in
    let f : nat_lt b 127 ≡ true = lt-ltb b 127 (omega arith) in
    rw (a, c, d, e, f) refl

digits_plain : (ds : List ℕ) → list_all is_decimal ds ≡ true → list_all is_plain ds ≡ true
digits_plain = all_of_kind is_decimal is_plain digit_plain

plain_filled : (ds : List ℕ) → 0 < length ds → list_all is_plain ds ≡ true → is_plain_word ds ≡ true
plain_filled [] lt h = absurd (omega arith)
plain_filled (d ∷ ds) lt h = h

pub plain-decimal : (n : ℕ) → n < 2 ^ 32 → is_plain_word (decimal n) ≡ true
plain-decimal n lt = let d = decimal_fits n lt in plain_filled (decimal n) d.filled (digits_plain (decimal n) d.digits)

pub plain-label : (n : ℕ) → n < 2 ^ 32 → is_plain_word (label_text n) ≡ true
plain-label n lt = digits_plain (decimal n) (decimal_fits n lt).digits

-- ---- labels

digit_in_name : (b : ℕ) → is_decimal b ≡ true → is_name_byte b ≡ true
digit_in_name b h = or_right (nat_le 97 b && nat_le b 122) (is_decimal b || (b == 95)) (or_left (is_decimal b) (b == 95) h)

pub is_name-label : (n : ℕ) → n < 2 ^ 32 → is_name (label_text n) ≡ true
unfolding is_name
is_name-label n lt =
    let short : length (decimal n) ≤ 10 = length-decimal-le 10 n (omega arith) (omega arith) (omega arith) in
    and_from (list_all is_name_byte (decimal n)) (nat_lt (length (decimal n)) 32)
    (all_of_kind is_decimal is_name_byte digit_in_name (decimal n) (decimal_fits n lt).digits)
    (lt-ltb (length (decimal n)) 32 (omega arith))

tail_of_list : List ℕ → List ℕ
tail_of_list [] = []
tail_of_list (x ∷ xs) = xs

pub label_text-injective : (m n : ℕ) → m < 2 ^ 32 → n < 2 ^ 32 → label_text m ≡ label_text n → m ≡ n
unfolding tail_of_list
label_text-injective m n low high e = decimal_injective m n (omega arith) (omega arith) (ap tail_of_list e)
