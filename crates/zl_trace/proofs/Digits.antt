-- When a word is what `{}` writes of a number.
use Rattle.zl_trace.proofs.Common.{Err, FitsSigned, IsAscii-decimal, List, Ok, ParsesSigned, ParsesUnsigned, Result, arith, decimal, parse-decimal}
use Rattle.zl_trace.proofs.Common.{parse-signed_decimal, signed_decimal, subst, sym, w32, w64, ℕ, ℤ, ◌<◌, ◌^◌, ◌∙◌, ◌≡◌, ◌≢◌}
use Rattle.std.specs.Int.Signed.{mag}
use Rattle.std.specs.Str.{IsUtf8}
use Rattle.std.proofs.lemmas.Str.{IsUtf8-from_ascii}
use Rattle.itoa.proofs.Decimal.{IsAscii-signed_decimal}

pub not_utf8 : (word : List ℕ) → (IsUtf8 word → ⊥) → (n : ℕ) → n < 2 ^ 64 → word ≢ decimal n
not_utf8 word not n below is = not (subst IsUtf8 (sym is) (IsUtf8-from_ascii (decimal n) (IsAscii-decimal n below)))

pub not_parsed : {E : Type 0} (word : List ℕ) (r : Result ℕ E) (e : E) → ParsesUnsigned 64 10 word r → r ≡ Err e → (n : ℕ) → n < 2 ^ 64 → word ≢ decimal n
not_parsed word r e parsed err n below is = let ok = parse-decimal 64 n word r below below is parsed in absurd cc

pub not_written : {E : Type 0} (word : List ℕ) (r : Result ℕ E) (m : ℕ) → ParsesUnsigned 64 10 word r → r ≡ Ok m → (word ≡ decimal m → ⊥) → (n : ℕ) → n < 2 ^ 64
    → word ≢ decimal n
not_written word r m parsed ok other n below is =
    let same : m ≡ n = ok_is m n (sym ok ∙ parse-decimal 64 n word r below below is parsed) in
    other (subst (λ k. word ≡ decimal k) (sym same) is)
  where
    ok_is : {E : Type 0} (a b : ℕ) → ◌≡◌ {A = Result ℕ E} (Ok a) (Ok b) → a ≡ b
    ok_is a b e = cc

-- ---- with a sign

-- 32 bits with a sign are less than 2 ^ 63
pub small : (z : ℤ) → FitsSigned w32 z → mag z < 2 ^ 63
small z fits = omega (arith, fits)

pub not_utf8_signed : (word : List ℕ) → (IsUtf8 word → ⊥) → (z : ℤ) → FitsSigned w32 z → word ≢ signed_decimal z
not_utf8_signed word not z fits is = not (subst IsUtf8 (sym is) (IsUtf8-from_ascii (signed_decimal z) (IsAscii-signed_decimal z (wider z fits))))
  where
    wider : (z : ℤ) → FitsSigned w32 z → FitsSigned w64 z
    wider z fits = omega (arith, fits)

pub not_parsed_signed : {E : Type 0} (word : List ℕ) (r : Result ℤ E) (e : E) → ParsesSigned w32 10 word r → r ≡ Err e → (z : ℤ) → FitsSigned w32 z
    → word ≢ signed_decimal z
not_parsed_signed word r e parsed err z fits is = let ok = parse-signed_decimal w32 z word r fits (small z fits) is parsed in absurd cc

pub not_written_signed : {E : Type 0} (word : List ℕ) (r : Result ℤ E) (y : ℤ) → ParsesSigned w32 10 word r → r ≡ Ok y → (word ≡ signed_decimal y → ⊥) → (z : ℤ)
    → FitsSigned w32 z → word ≢ signed_decimal z
not_written_signed word r y parsed ok other z fits is =
    let same : y ≡ z = ok_is y z (sym ok ∙ parse-signed_decimal w32 z word r fits (small z fits) is parsed) in
    other (subst (λ k. word ≡ signed_decimal k) (sym same) is)
  where
    ok_is : {E : Type 0} (a b : ℤ) → ◌≡◌ {A = Result ℤ E} (Ok a) (Ok b) → a ≡ b
    ok_is a b e = cc
