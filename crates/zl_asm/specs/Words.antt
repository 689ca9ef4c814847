-- The words of a line of a program's text: numbers, registers and names.
use Rattle.std.specs.Prelude.{ℕ, ◌+◌, ◌-◌, ◌*◌, ◌^◌, Bool, false, not, ◌&&◌, ◌||◌, ◌==◌, nat_lt, nat_le, List, [], ◌∷◌, ◌++◌, codes, length, drop, fold}
use Rattle.std.specs.Prelude.{Option, Some, None, is_some, if◌then◌else◌}
use Rattle.std.specs.Option.{unwrap_or}
use Rattle.std.specs.List.{list_all, starts_with, slice_split}
use Rattle.std.specs.Cmp.Lexicographic.{pointwise}
use Rattle.zl_code.specs.Limits.{register_count}

-- ---- lines and words

-- the lines of a text, between line feeds
abbrev pub lines_of : List ℕ → List (List ℕ)
lines_of text = slice_split (λ byte. byte == 10) text

-- each byte is an ASCII character
abbrev pub is_ascii : List ℕ → Bool
is_ascii text = list_all (λ byte. nat_lt byte 128) text

-- the word has just these bytes
unfoldable pub is_word : List ℕ → List ℕ → Bool
is_word word bytes = pointwise ◌==◌ word bytes

-- the word that parts operands
abbrev pub comma : List ℕ
comma = codes ","

-- a word, where it has a byte, before the others
abbrev pub word_before : List ℕ → List (List ℕ) → List (List ℕ)
word_before [] words = words
word_before word words = word ∷ words

-- The words of a line, of whose first one `word` was read. Spaces part words, a comma is a word of its own, and a
-- semicolon ends the line.
unfoldable pub words_from : List ℕ → List ℕ → List (List ℕ)
words_from word [] = word_before word []
words_from word (byte ∷ bytes) =
    if byte == 59 then word_before word []
    else (if byte == 32 then word_before word (words_from [] bytes)
    else (if byte == 44 then word_before word (comma ∷ words_from [] bytes)
    else words_from (word ++ (byte ∷ [])) bytes))

-- the words of a line
abbrev pub words_of : List ℕ → List (List ℕ)
words_of line = words_from [] line

-- ---- numbers

-- the value of a hexadecimal digit, in capital letters or not
unfoldable pub digit_of : ℕ → Option ℕ
digit_of byte =
    if nat_le 48 byte && nat_le byte 57 then Some (byte - 48)
    else (if nat_le 97 byte && nat_le byte 102 then Some (byte - 97 + 10)
    else (if nat_le 65 byte && nat_le byte 70 then Some (byte - 65 + 10)
    else None))

-- the value of a digit, and 0 of another byte
abbrev pub digit_value : ℕ → ℕ
digit_value byte = unwrap_or (digit_of byte) 0

-- a digit of the base: it has a value, and that is below the base
abbrev pub is_digit : ℕ → ℕ → Bool
is_digit base byte = is_some (digit_of byte) && nat_lt (digit_value byte) base

-- the value of digits of the base, the first the highest
abbrev pub value_of : ℕ → List ℕ → ℕ
value_of base digits = fold (λ value byte. value * base + digit_value byte) 0 digits

-- digits of the base, one at least, whose value has 32 bits
abbrev pub is_number : ℕ → List ℕ → Bool
is_number base digits = not (length digits == 0) && (list_all (is_digit base) digits && nat_lt (value_of base digits) (2 ^ 32))

-- the number that the digits of the base spell, if they do
abbrev pub number_in : ℕ → List ℕ → Option ℕ
number_in base digits = if is_number base digits then Some (value_of base digits) else None

-- the number of 32 bits that the word spells: decimal, or hexadecimal behind `0x`
unfoldable pub number_of : List ℕ → Option ℕ
number_of word = if starts_with ◌==◌ word (codes "0x") then number_in 16 (drop 2 word) else number_in 10 word

-- ---- registers

-- a digit of decimal numbers
abbrev is_decimal : ℕ → Bool
is_decimal byte = nat_le 48 byte && nat_le byte 57

-- the register of the word, `r0` to `r31`
unfoldable pub register_of : List ℕ → Option ℕ
register_of (r ∷ low ∷ []) = if (r == 114) && is_decimal low then Some (low - 48) else None
register_of (r ∷ high ∷ low ∷ []) =
    if (r == 114) && (nat_le 49 high && (nat_le high 51 && (is_decimal low && nat_lt ((high - 48) * 10 + (low - 48)) register_count)))
    then Some ((high - 48) * 10 + (low - 48))
    else None
register_of _ = None

-- ---- names of labels

-- `a` to `z`
abbrev is_small_letter : ℕ → Bool
is_small_letter byte = nat_le 97 byte && nat_le byte 122

-- what may stand in a name behind its first letter
abbrev pub is_name_byte : ℕ → Bool
is_name_byte byte = is_small_letter byte || (is_decimal byte || (byte == 95))

-- the most bytes of a name
abbrev pub most_name : ℕ
most_name = 32

-- a small letter, and behind it small letters, digits or `_`, of no more bytes than a name has
unfoldable pub is_name : List ℕ → Bool
is_name [] = false
is_name (byte ∷ bytes) = is_small_letter byte && (list_all is_name_byte bytes && nat_lt (length bytes) most_name)

-- ---- bytes in hexadecimal digits

-- a byte and those behind it, if all are there
abbrev pub byte_before : Option ℕ → Option ℕ → Option (List ℕ) → Option (List ℕ)
byte_before (Some high) (Some low) (Some bytes) = Some ((high * 16 + low) ∷ bytes)
byte_before _ _ _ = None

-- the bytes that the digits spell, two digits a byte
unfoldable pub hex_bytes : List ℕ → Option (List ℕ)
hex_bytes [] = Some []
hex_bytes (high ∷ low ∷ digits) = byte_before (digit_of high) (digit_of low) (hex_bytes digits)
hex_bytes _ = None
