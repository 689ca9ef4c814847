-- The digits of bytes.
use Rattle.zl_scenario.proofs.Common.{◌≡◌, ℕ, ◌+◌, ◌*◌, ◌/◌, ◌%◌, List, [], ◌∷◌, ◌++◌, length, refl, arith, length-append, flat_map, hex_digits_of_byte}
use Rattle.zl_scenario.proofs.Common.{bytes_of_digits}

-- two digits for a byte
pub length-digits : (bytes : List ℕ) → length (flat_map hex_digits_of_byte bytes) ≡ 2 * length bytes
length-digits [] = refl
length-digits (b ∷ bs) = omega (arith, length-digits bs)

-- one more digit is an odd count
pub odd : (bytes : List ℕ) (digit : ℕ) → length (flat_map hex_digits_of_byte bytes ++ digit ∷ []) % 2 ≡ 1
odd bytes digit = simp (length-append, length-digits) (omega arith)

-- whole bytes are an even count
pub even : (bytes : List ℕ) → length (flat_map hex_digits_of_byte bytes ++ []) % 2 ≡ 0
even bytes = simp (length-append, length-digits) (omega arith)

-- the digits of bytes spell these bytes
pub bytes_again : (bytes : List ℕ) → bytes ≡ bytes_of_digits (flat_map hex_digits_of_byte bytes ++ [])
unfolding bytes_of_digits
bytes_again [] = refl
bytes_again (b ∷ bs) =
    let whole : b ≡ b / 16 * 16 + b % 16 = omega arith in
    λ k. whole k ∷ bytes_again bs k
