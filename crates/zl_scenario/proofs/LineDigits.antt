-- The digits of a line, one byte after the other.
use Rattle.zl_scenario.proofs.Common.{◌≡◌, ℕ, ◌+◌, ◌<◌, Bool, true, false, eqb, cond, List, [], ◌∷◌, ◌++◌, length, drop, get_or, Option, Some, None, Ok, Err}
use Rattle.zl_scenario.proofs.Common.{refl, sym, ap, ◌∙◌, arith, append_assoc, append-nil, at_drop_more, nat_tests, hex_digit_of, digits_of, both, digits_said}
use Rattle.zl_scenario.specs.declared.cause.Cause.TheVariants as cause

spaced : (byte : ℕ) (bytes : List ℕ) → byte ≡ 32 → digits_of (byte ∷ bytes) ≡ digits_of bytes
unfolding digits_of
spaced byte bytes e =
    let test : eqb byte 32 ≡ true = grind (arith, nat_tests) in
    ap (λ (t : Bool). cond t (digits_of bytes) (both (hex_digit_of byte) (digits_of bytes))) test

dense : (byte : ℕ) (bytes : List ℕ) → (byte ≡ 32 → ⊥) → digits_of (byte ∷ bytes) ≡ both (hex_digit_of byte) (digits_of bytes)
unfolding digits_of
dense byte bytes e =
    let test : eqb byte 32 ≡ false = grind (arith, nat_tests) in
    ap (λ (t : Bool). cond t (digits_of bytes) (both (hex_digit_of byte) (digits_of bytes))) test

more : (digits : List ℕ) (digit : ℕ) (rest : Option (List ℕ)) → digits_said digits (both (Some digit) rest) ≡ digits_said (digits ++ digit ∷ []) rest
more digits digit None = refl
more digits digit (Some ds) = ap Ok (sym (append_assoc digits (digit ∷ []) ds))

at_byte : (digits line : List ℕ) (i : ℕ) → i < length line
    → digits_said digits (digits_of (drop i line)) ≡ digits_said digits (digits_of (get_or line i 0 ∷ drop (i + 1) line))
at_byte digits line i within = at_drop_more (λ rest. digits_said digits (digits_of rest)) line i 0 within

-- a space changes nothing
pub after_space : (digits line : List ℕ) (i : ℕ) → i < length line → get_or line i 0 ≡ 32
    → digits_said digits (digits_of (drop i line)) ≡ digits_said digits (digits_of (drop (i + 1) line))
after_space digits line i within e = at_byte digits line i within ∙ ap (digits_said digits) (spaced (get_or line i 0) (drop (i + 1) line) e)

-- a digit comes after those before it
pub after_digit : (digits line : List ℕ) (i digit : ℕ) → i < length line → (get_or line i 0 ≡ 32 → ⊥) → Some digit ≡ hex_digit_of (get_or line i 0)
    → digits_said digits (digits_of (drop i line)) ≡ digits_said (digits ++ digit ∷ []) (digits_of (drop (i + 1) line))
after_digit digits line i digit within e d =
    at_byte digits line i within
    ∙ ap (digits_said digits) (dense (get_or line i 0) (drop (i + 1) line) e ∙ ap (λ (o : Option ℕ). both o (digits_of (drop (i + 1) line))) (sym d))
    ∙ more digits digit (digits_of (drop (i + 1) line))

-- another byte is a fault
pub at_other : (digits line : List ℕ) (i : ℕ) → i < length line → (get_or line i 0 ≡ 32 → ⊥) → None ≡ hex_digit_of (get_or line i 0)
    → digits_said digits (digits_of (drop i line)) ≡ Err cause.Syntax
at_other digits line i within e d =
    at_byte digits line i within
    ∙ ap (digits_said digits) (dense (get_or line i 0) (drop (i + 1) line) e ∙ ap (λ (o : Option ℕ). both o (digits_of (drop (i + 1) line))) (sym d))

-- no byte is left
pub at_line_end : (digits : List ℕ) → digits_said digits (digits_of []) ≡ Ok digits
unfolding digits_of
at_line_end digits = ap Ok (append-nil digits)
