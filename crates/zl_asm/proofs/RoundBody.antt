-- The lines of labels and instructions say those labels and instructions.
use Rattle.zl_asm.proofs.Common.{Bool, Code, Label, List, None, Option, Row, Some, Version, [], and_from, ap, arith, behind, code_lines_from, codes, drop_at}
use Rattle.zl_asm.proofs.Common.{false, hex_text}
use Rattle.zl_asm.proofs.Common.{if◌then◌else◌, instr_text, is_name, is_target, is_word, label_of, label_text, length, line_of, list_all, list_all-append}
use Rattle.zl_asm.proofs.Common.{list_all-from_IsBytes, operand_texts, reading_of, refl, row_at, row_text, slice_index, suc, take_at, true, words_of, ℕ, ◌++◌}
use Rattle.zl_asm.proofs.Common.{◌+◌, ◌-◌, ◌<◌, ◌^◌, ◌∙◌, ◌∷◌, ◌≡◌, ◌≤◌}
use Rattle.std.proofs.lemmas.List.{length-append}
use Rattle.zl_asm.proofs.RoundWords.{is_plain, is_plain_word, words_of-alone}
use Rattle.zl_asm.proofs.RoundNumbers.{plain-label, is_name-label}
use Rattle.zl_asm.proofs.RoundHex.{plain_word-hex}
use Rattle.zl_asm.proofs.RoundRows.{row_fits}
use Rattle.zl_asm.proofs.RoundSource.{plain_operands}
use Rattle.zl_asm.proofs.RoundInstr.{IsInstr, known_by, whole_of, source_said, instr_said}
use Rattle.zl_asm.proofs.RoundLines.{is_printed, printed-plain, printed-append, printed-joined, Say, says_nothing, says_line}
use Rattle.zl_asm.proofs.RoundLabels.{AllInstr, code_said_from}

-- ---- labels

plain_push : (word : List ℕ) (b : ℕ) → is_plain_word word ≡ true → is_plain b ≡ true → is_plain_word (word ++ (b ∷ [])) ≡ true
plain_push [] b h k = absurd cc
plain_push (x ∷ word) b h k = list_all-append is_plain (x ∷ word) (b ∷ []) ∙ and_from _ _ h (and_from _ _ k refl)

label_again : (name : List ℕ) → is_name name ≡ true → label_of (name ++ codes ":") ≡ Some name
unfolding label_of is_word
label_again name h =
    let len : length name ≡ length (name ++ codes ":") - 1 = omega (arith, length-append name (codes ":")) in
    rw (drop_at name (codes ":") _ len, take_at name (codes ":") _ len, h) refl

abbrev label_line : ℕ → List ℕ
label_line n = label_text n ++ codes ":"

plain_label_line : (n : ℕ) → n < 2 ^ 32 → is_plain_word (label_line n) ≡ true
plain_label_line n lt = plain_push (label_text n) 58 (plain-label n lt) refl

label_said : (v : Version) (n : ℕ) → n < 2 ^ 32 → line_of v (words_of (label_line n)) ≡ Some (Label (label_text n))
unfolding line_of
label_said v n lt = ap (line_of v) (words_of-alone (label_line n) (plain_label_line n lt)) ∙ rw (label_again (label_text n) (is_name-label n lt)) refl

-- ---- instructions

printed_instr : (v : Version) (count : ℕ) (raw : Bool) (bytes : List ℕ) → IsInstr v raw bytes → list_all is_printed (instr_text v count bytes) ≡ true
printed_instr v count raw bytes h = by (row_at v (slice_index bytes 0)) refl
  where
    printed-behind : (words : List (List ℕ)) → list_all is_plain_word words ≡ true → list_all is_printed (behind (codes " ") words) ≡ true
    printed-behind [] all = refl
    printed-behind (word ∷ words) all = printed-joined (word ∷ words) all

    by : (o : Option Row) → row_at v (slice_index bytes 0) ≡ o → list_all is_printed (row_text count bytes o) ≡ true
    by None here = let len = h.len in printed-plain (hex_text bytes) (plain_word-hex bytes (omega arith) (list_all-from_IsBytes bytes h.fits))
    by (Some row) here =
        let k = known_by v (slice_index bytes 0) row here in
        printed-append row.name _ (printed-plain row.name (row_fits (slice_index bytes 0) row k.there).plain)
        (printed-behind (operand_texts count row (reading_of bytes)) (plain_operands count row (reading_of bytes) (whole_of v raw row bytes here h)))

pub code_says : (v : Version) (raw : Bool) (code : List (List ℕ)) (n : ℕ) (rest : List (List ℕ)) → n + length rest ≤ 2 ^ 32 → AllInstr v raw rest
    → Say v (code_lines_from v code n rest) (code_said_from v code n rest)
unfolding code_lines_from code_said_from
code_says v raw code n [] le all = says_nothing v
code_says v raw code n (bytes ∷ rest) le all =
    by (is_target v code n)
    (says_line v (instr_text v (length code) bytes) (code_lines_from v code (suc n) rest) (Code (source_said v (length code) bytes))
    (code_said_from v code (suc n) rest)
    (printed_instr v (length code) raw bytes all.0) (instr_said v (length code) raw bytes all.0) (code_says v raw code (suc n) rest (omega arith) all.1))
  where
    by : (t : Bool)
        → Say v (instr_text v (length code) bytes ∷ code_lines_from v code (suc n) rest) (Code (source_said v (length code) bytes) ∷ code_said_from v code
        (suc n) rest)
        → Say v ((if t then label_line n ∷ [] else []) ++ (instr_text v (length code) bytes ∷ code_lines_from v code (suc n) rest))
        ((if t then Label (label_text n) ∷ [] else []) ++ (Code (source_said v (length code) bytes) ∷ code_said_from v code (suc n) rest))
    by true h =
        says_line v (label_line n) (instr_text v (length code) bytes ∷ code_lines_from v code (suc n) rest) (Label (label_text n))
        (Code (source_said v (length code) bytes) ∷ code_said_from v code (suc n) rest)
        (printed-plain (label_line n) (plain_label_line n (omega arith))) (label_said v n (omega arith)) h
    by false h = h
