-- Bytes in hexadecimal digits are read as they are written.
use Rattle.zl_asm.proofs.Common.{Bool, List, Some, [], and_from, and_parts, ap, arith, digit_of, hex_bytes, hex_digit, hex_text, length, list_all, ltb-true}
use Rattle.zl_asm.proofs.Common.{nat_lt, refl, true, ℕ, ◌%◌, ◌*◌, ◌+◌, ◌/◌, ◌<◌, ◌∷◌, ◌≡◌}
use Rattle.zl_code.proofs.Below.{all_below, below}
use Rattle.zl_asm.proofs.RoundWords.{is_plain, is_plain_word}
use Rattle.zl_asm.proofs.RoundRegisters.{is_just, just}

digit_again : ℕ → Bool
digit_again n = is_just (digit_of (hex_digit n)) n

digit_of-hex : (n : ℕ) → n < 16 → digit_of (hex_digit n) ≡ Some n
unfolding digit_again all_below digit_of
digit_of-hex n lt = just _ n (below digit_again 16 n refl lt)

plain_digit : ℕ → Bool
plain_digit n = is_plain (hex_digit n)

plain-hex : (n : ℕ) → n < 16 → is_plain (hex_digit n) ≡ true
unfolding plain_digit all_below
plain-hex n lt = below plain_digit 16 n refl lt

pub hex_again : (bytes : List ℕ) → list_all (λ b. nat_lt b 256) bytes ≡ true → hex_bytes (hex_text bytes) ≡ Some bytes
unfolding hex_bytes
hex_again [] h = refl
hex_again (b ∷ bytes) h =
    let p = and_parts (nat_lt b 256) (list_all (λ b. nat_lt b 256) bytes) h in
    let lt : b < 256 = ltb-true b 256 p.0 in
    let same : b / 16 * 16 + b % 16 ≡ b = omega arith in
    rw (digit_of-hex (b / 16) (omega arith), digit_of-hex (b % 16) (omega arith), hex_again bytes p.1) (ap (λ (n : ℕ). Some (n ∷ bytes)) same)

plain_all-hex : (bytes : List ℕ) → list_all (λ b. nat_lt b 256) bytes ≡ true → list_all is_plain (hex_text bytes) ≡ true
plain_all-hex [] h = refl
plain_all-hex (b ∷ bytes) h =
    let p = and_parts (nat_lt b 256) (list_all (λ b. nat_lt b 256) bytes) h in
    let lt : b < 256 = ltb-true b 256 p.0 in
    and_from _ _ (plain-hex (b / 16) (omega arith)) (and_from _ _ (plain-hex (b % 16) (omega arith)) (plain_all-hex bytes p.1))

-- the digits of a byte at least are a word
pub plain_word-hex : (bytes : List ℕ) → 0 < length bytes → list_all (λ b. nat_lt b 256) bytes ≡ true → is_plain_word (hex_text bytes) ≡ true
plain_word-hex [] lt h = absurd (omega arith)
plain_word-hex (b ∷ bytes) lt h = plain_all-hex (b ∷ bytes) h
