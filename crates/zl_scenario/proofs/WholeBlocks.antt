-- A block is read whole.
use Rattle.zl_scenario.proofs.Common.{◌≡◌, ℕ, ◌+◌, Bool, true, false, ◌&&◌, not, cond, List, [], ◌∷◌, ◌++◌, length, Option, Some, None, Result, Ok, Err, refl}
use Rattle.zl_scenario.proofs.Common.{sym, ap, ◌∙◌, arith, append_assoc, append-nil, codes, is_ascii, is_word, is_comment, words_of, digits_of, Scenario, Body}
use Rattle.zl_scenario.proofs.Common.{Hex, Asm, Statements, Block, Place, at, onto, opening, mark_named, body_named, statement_said, is_end, digits_spelled}
use Rattle.zl_scenario.proofs.Common.{text_spelled, program_said, body_said, block_said, line_said, after_block, reading_from, joined, digits_in, text_in}
use Rattle.zl_scenario.proofs.Common.{DigitsAreWhole, TextIsWhole, BlocksAreWhole}
use Rattle.zl_scenario.specs.declared.cause.Cause.{Cause}
use Rattle.zl_asm.specs.Denotes.{image_bytes_of}
use Rattle.zl_scenario.proofs.ReadingOn.{taken, stopped}

-- ---- one line

opens_hex : (n : ℕ) (said : Scenario) (checked : Bool)
    → line_said n (at said Statements) (opening checked (codes "hex")) ≡ Ok (at said (Block n checked (Hex [])))
unfolding line_said statement_said mark_named body_named is_word
opens_hex n said true = refl
opens_hex n said false = refl

opens_asm : (n : ℕ) (said : Scenario) (checked : Bool)
    → line_said n (at said Statements) (opening checked (codes "asm")) ≡ Ok (at said (Block n checked (Asm [])))
unfolding line_said statement_said mark_named body_named is_word
opens_asm n said true = refl
opens_asm n said false = refl

-- what is known of a line that gives something to a block, after which there is more
record IsLine (line : List ℕ) (given rest : Option (List ℕ)) (whole : List ℕ) : Type 0 where
  front : List ℕ
  back : List ℕ
  ascii : is_ascii line ≡ true
  goes_on : is_end (words_of line) ≡ false
  own : given ≡ Some front
  others : rest ≡ Some back
  all : whole ≡ front ++ back

line_by : (line : List ℕ) (ascii ends : Bool) (given rest : Option (List ℕ)) (whole : List ℕ) → is_ascii line ≡ ascii → is_end (words_of line) ≡ ends
    → cond (ascii && not ends) (joined given rest) None ≡ Some whole → IsLine line given rest whole
line_by line true false (Some front) (Some back) whole a e is =
    record { front = front; back = back; ascii = a; goes_on = e; own = refl; others = refl; all = cc }
line_by line _ _ _ _ whole a e is = absurd (cc)

-- what a line gives to a block of digits, and to one of text
abbrev digits_given : List ℕ → Option (List ℕ)
digits_given line = cond (is_comment line) (Some []) (digits_of line)

abbrev text_given : List ℕ → Option (List ℕ)
text_given line = cond (is_comment line) (Some []) (Some (line ++ codes "\n"))

first_digits : (line : List ℕ) (lines : List (List ℕ)) (digits : List ℕ) → digits_in (line ∷ lines) ≡ Some digits
    → IsLine line (digits_given line) (digits_in lines) digits
unfolding digits_in
first_digits line lines digits is = line_by line (is_ascii line) (is_end (words_of line)) (digits_given line) (digits_in lines) digits refl refl is

first_text : (line : List ℕ) (lines : List (List ℕ)) (text : List ℕ) → text_in (line ∷ lines) ≡ Some text → IsLine line (text_given line) (text_in lines) text
unfolding text_in
first_text line lines text is = line_by line (is_ascii line) (is_end (words_of line)) (text_given line) (text_in lines) text refl refl is

module _ (n opened : ℕ) (checked : Bool) (said : Scenario) (before line front : List ℕ) where
  -- its digits come after those before it
  digits_line : (comment : Bool) → is_comment line ≡ comment → is_ascii line ≡ true → is_end (words_of line) ≡ false
      → cond comment (Some []) (digits_of line) ≡ Some front
      → line_said n (at said (Block opened checked (Hex before))) line ≡ Ok (at said (Block opened checked (Hex (before ++ front))))
  unfolding line_said block_said body_said
  digits_line true c a e own =
      let none : front ≡ [] = cc in
      let same : before ++ front ≡ before = ap (λ (x : List ℕ). before ++ x) none ∙ append-nil before in
      rw (a, c) (λ k. Ok (at said (Block opened checked (Hex (sym same k)))))
  digits_line false c a e own = rw (a, c, e, own) refl

  -- its text comes after that before it
  text_line : (comment : Bool) → is_comment line ≡ comment → is_ascii line ≡ true → is_end (words_of line) ≡ false
      → cond comment (Some []) (Some (line ++ codes "\n")) ≡ Some front
      → line_said n (at said (Block opened checked (Asm before))) line ≡ Ok (at said (Block opened checked (Asm (before ++ front))))
  unfolding line_said block_said body_said
  text_line true c a e own =
      let none : front ≡ [] = cc in
      let same : before ++ front ≡ before = ap (λ (x : List ℕ). before ++ x) none ∙ append-nil before in
      rw (a, c) (λ k. Ok (at said (Block opened checked (Asm (sym same k)))))
  text_line false c a e own =
      let whole : line ++ codes "\n" ≡ front = cc in
      rw (a, c, e) (λ k. Ok (at said (Block opened checked (Asm (before ++ whole k)))))

closes_hex : (n opened : ℕ) (checked : Bool) (said : Scenario) (digits : List ℕ)
    → line_said n (at said (Block opened checked (Hex digits))) (codes "end") ≡ onto Statements (program_said said checked (digits_spelled digits))
unfolding line_said block_said is_end is_word
closes_hex n opened checked said digits = refl

closes_asm : (n opened : ℕ) (checked : Bool) (said : Scenario) (text : List ℕ)
    → line_said n (at said (Block opened checked (Asm text))) (codes "end") ≡ onto Statements (program_said said checked (text_spelled (image_bytes_of text)))
unfolding line_said block_said is_end is_word
closes_asm n opened checked said text = refl

-- ---- all lines

-- after the last line of a block
none_left : (n : ℕ) (before whole : List ℕ) (place : List ℕ → Place) (rest : List (List ℕ)) → whole ≡ []
    → reading_from n (place before) rest ≡ reading_from (n + 0) (place (before ++ whole)) rest
none_left n before whole place rest none =
    let same : before ≡ before ++ whole = sym (ap (λ (x : List ℕ). before ++ x) none ∙ append-nil before) in
    let number : n ≡ n + 0 = omega arith in
    λ k. reading_from (number k) (place (same k)) rest

-- one line, and those after it
one_then : (n : ℕ) (before front back whole : List ℕ) (place : List ℕ → Place) (line : List ℕ) (lines rest : List (List ℕ)) → whole ≡ front ++ back
    → line_said n (place before) line ≡ Ok (place (before ++ front))
    → reading_from (n + 1) (place (before ++ front)) (lines ++ rest) ≡ reading_from (n + 1 + length lines) (place ((before ++ front) ++ back)) rest
    → reading_from n (place before) (line ∷ (lines ++ rest)) ≡ reading_from (n + length (line ∷ lines)) (place (before ++ whole)) rest
one_then n before front back whole place line lines rest all read later =
    let same : (before ++ front) ++ back ≡ before ++ whole = append_assoc before front back ∙ ap (λ (x : List ℕ). before ++ x) (sym all) in
    let number : n + 1 + length lines ≡ n + length (line ∷ lines) = omega arith in
    taken n (place before) (place (before ++ front)) line (lines ++ rest) read
    ∙ later
    ∙ (λ k. reading_from (number k) (place (same k)) rest)

hex_read : (n opened : ℕ) (checked : Bool) (said : Scenario) (before : List ℕ) (lines rest : List (List ℕ)) (digits : List ℕ) → digits_in lines ≡ Some digits
    → reading_from n (at said (Block opened checked (Hex before))) (lines ++ rest)
    ≡ reading_from (n + length lines) (at said (Block opened checked (Hex (before ++ digits)))) rest
unfolding digits_in
hex_read n opened checked said before [] rest digits is = none_left n before digits (λ x. at said (Block opened checked (Hex x))) rest (cc)
hex_read n opened checked said before (line ∷ lines) rest digits is =
    let first = first_digits line lines digits is in
    let read = digits_line n opened checked said before line first.front (is_comment line) refl first.ascii first.goes_on first.own in
    one_then n before first.front first.back digits (λ x. at said (Block opened checked (Hex x))) line lines rest first.all read
    (hex_read (n + 1) opened checked said (before ++ first.front) lines rest first.back first.others)

asm_read : (n opened : ℕ) (checked : Bool) (said : Scenario) (before : List ℕ) (lines rest : List (List ℕ)) (text : List ℕ) → text_in lines ≡ Some text
    → reading_from n (at said (Block opened checked (Asm before))) (lines ++ rest)
    ≡ reading_from (n + length lines) (at said (Block opened checked (Asm (before ++ text)))) rest
unfolding text_in
asm_read n opened checked said before [] rest text is = none_left n before text (λ x. at said (Block opened checked (Asm x))) rest (cc)
asm_read n opened checked said before (line ∷ lines) rest text is =
    let first = first_text line lines text is in
    let read = text_line n opened checked said before line first.front (is_comment line) refl first.ascii first.goes_on first.own in
    one_then n before first.front first.back text (λ x. at said (Block opened checked (Asm x))) line lines rest first.all read
    (asm_read (n + 1) opened checked said (before ++ first.front) lines rest first.back first.others)

-- the line `end`, by what the block says
end_read : (n opened : ℕ) (checked : Bool) (said : Scenario) (body : Body) (rest : List (List ℕ)) (told : Result (List ℕ) Cause)
    → line_said n (at said (Block opened checked body)) (codes "end") ≡ onto Statements (program_said said checked told)
    → (r : Result Scenario Cause) → program_said said checked told ≡ r
    → reading_from n (at said (Block opened checked body)) (codes "end" ∷ rest) ≡ after_block opened (n + 1) said rest r
end_read n opened checked said body rest told closes (Ok new) is =
    taken n (at said (Block opened checked body)) (at new Statements) (codes "end") rest (closes ∙ ap (onto Statements) is)
end_read n opened checked said body rest told closes (Err c) is =
    stopped n (at said (Block opened checked body)) (codes "end") rest c (closes ∙ ap (onto Statements) is)

digits_are_whole : DigitsAreWhole
digits_are_whole checked n said lines rest digits is =
    let number : n + 1 + length lines + 1 ≡ n + 2 + length lines = omega arith in
    taken n (at said Statements) (at said (Block n checked (Hex []))) (opening checked (codes "hex")) (lines ++ (codes "end" ∷ rest)) (opens_hex n said checked)
    ∙ hex_read (n + 1) n checked said [] lines (codes "end" ∷ rest) digits is
    ∙ end_read (n + 1 + length lines) n checked said (Hex digits) rest (digits_spelled digits) (closes_hex (n + 1 + length lines) n checked said digits)
    (program_said said checked (digits_spelled digits)) refl
    ∙ (λ k. after_block n (number k) said rest (program_said said checked (digits_spelled digits)))

text_is_whole : TextIsWhole
text_is_whole checked n said lines rest text is =
    let number : n + 1 + length lines + 1 ≡ n + 2 + length lines = omega arith in
    let told = text_spelled (image_bytes_of text) in
    taken n (at said Statements) (at said (Block n checked (Asm []))) (opening checked (codes "asm")) (lines ++ (codes "end" ∷ rest)) (opens_asm n said checked)
    ∙ asm_read (n + 1) n checked said [] lines (codes "end" ∷ rest) text is
    ∙ end_read (n + 1 + length lines) n checked said (Asm text) rest told (closes_asm (n + 1 + length lines) n checked said text)
    (program_said said checked told) refl
    ∙ (λ k. after_block n (number k) said rest (program_said said checked told))

pub blocks_are_whole : BlocksAreWhole
blocks_are_whole = record { digits = digits_are_whole; text = text_is_whole }
