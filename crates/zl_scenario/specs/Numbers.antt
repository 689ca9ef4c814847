-- Numbers and digits of a scenario. Its lines are cut into words as those of a trace (`words_of` of `zl_lines`).
use Rattle.std.specs.Prelude.{ℕ, Bool, ◌+◌, ◌-◌, ◌*◌, ◌/◌, ◌%◌, ◌^◌, ◌&&◌, not, ◌==◌, nat_lt, nat_le, List, [], ◌∷◌, length, fold, Option, Some, None, if◌then◌else◌}
use Rattle.std.specs.List.{list_all}

-- ---- numbers

-- one of the digits from 0 to 9
abbrev pub is_decimal_digit : ℕ → Bool
is_decimal_digit byte = nat_le 48 byte && nat_le byte 57

-- the value of a decimal digit
abbrev pub decimal_digit_of : ℕ → Option ℕ
decimal_digit_of byte = if is_decimal_digit byte then Some (byte - 48) else None

-- ---- the bytes of a program

-- the value of a lower-case hexadecimal digit
abbrev pub hex_digit_of : ℕ → Option ℕ
hex_digit_of byte = if is_decimal_digit byte then Some (byte - 48) else (if nat_le 97 byte && nat_le byte 102 then Some (byte - 97 + 10) else None)

-- the value of decimal digits, the first the highest
abbrev pub decimal_value : List ℕ → ℕ
decimal_value digits = fold (λ value digit. value * 10 + (digit - 48)) 0 digits

-- the word spells a decimal number below 2 ^ 64
abbrev pub is_number : List ℕ → Bool
is_number word = not (length word == 0) && (list_all is_decimal_digit word && nat_lt (decimal_value word) (2 ^ 64))

-- the number that the word spells, if it does
unfoldable pub number_of : List ℕ → Option ℕ
number_of word = if is_number word then Some (decimal_value word) else None

-- the values of the two digits of a byte
abbrev pub hex_digits_of_byte : ℕ → List ℕ
hex_digits_of_byte byte = byte / 16 ∷ byte % 16 ∷ []

-- a digit and those after it, if both are there
abbrev pub both : Option ℕ → Option (List ℕ) → Option (List ℕ)
both (Some digit) (Some digits) = Some (digit ∷ digits)
both _ _ = None

-- the values of the digits of a line, spaces apart, if each other byte is a digit
unfoldable pub digits_of : List ℕ → Option (List ℕ)
digits_of [] = Some []
digits_of (byte ∷ bytes) = if byte == 32 then digits_of bytes else both (hex_digit_of byte) (digits_of bytes)

-- the bytes that digits spell, two digits a byte
unfoldable pub bytes_of_digits : List ℕ → List ℕ
bytes_of_digits (high ∷ low ∷ digits) = (high * 16 + low) ∷ bytes_of_digits digits
bytes_of_digits _ = []
