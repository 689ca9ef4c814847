-- The line of an instruction is read as its bytes.
use Rattle.zl_asm.proofs.Common.{Bool, Code, Ending, IsBytes, List, None, Option, Row, Some, Source, Version, [], aims, and_parts, ap, append-nil, arith}
use Rattle.zl_asm.proofs.Common.{behind, codes, drop, eq-eqb, eqb-true, false, hex_text, if_fits, if◌then◌else◌, instr_fault, instr_text, is_ending_clear}
use Rattle.zl_asm.proofs.Common.{is_known, is_new, is_word, label_of, layout, layout_at, layout_of, length, length-drop, length-take, line_of, list_all}
use Rattle.zl_asm.proofs.Common.{list_all-from_IsBytes, nat_lt, not, operand_texts, operands_of, option_map, pow-suc, reading_of, refl, resolved, row_at}
use Rattle.zl_asm.proofs.Common.{row_by, row_bytes}
use Rattle.zl_asm.proofs.Common.{row_of, row_text, slice_index, source_of, starts_with, suc, sym, take, true, true≢false, unknown_of, unwrap_or, with_target}
use Rattle.zl_asm.proofs.Common.{words_of, written, zero}
use Rattle.zl_asm.proofs.Common.{ℕ, ◌++◌, ◌<◌, ◌==◌, ◌^◌, ◌∙◌, ◌∷◌, ◌≡◌}
use Rattle.zl_asm.specs.Lines.{untargeted as untargeted_end}
use Rattle.zl_code.specs.Instructions.{layout_in}
use Rattle.zl_code.specs.Spells.{mark_in}
use Rattle.zl_code.specs.declared.blocks.Mark.{Mark}
use Rattle.zl_code.specs.declared.blocks.Mark.TheVariants as mark
use Rattle.zl_code.specs.declared.image.Version.TheVariants as version
use Rattle.zl_code.specs.declared.layout.Ending.TheVariants as ending
use Rattle.zl_code.proofs.BlockBytes.{unknown_mark}
use Rattle.zl_code.proofs.Common.{number_of}
use Rattle.zl_code.proofs.InstrFacts.{no_fault-row, row_bytes-again}
use Rattle.zl_code.proofs.ImageBytes.{IsBytes-drop}
use Rattle.zl_asm.proofs.RoundWords.{is_plain_word, with_commas, words_of-operands, operands_of-commas, words_of-space, words_of-alone}
use Rattle.zl_asm.proofs.RoundHex.{hex_again, plain_word-hex}
use Rattle.zl_asm.proofs.RoundRows.{RowFits, row_fits}
use Rattle.zl_asm.proofs.RoundSource.{IsWhole, IsPlaced, is_aimed, is_listed, whole_written, source_read, source_of-texts, plain_operands, source_resolved}

-- bytes of an instruction without a fault
pub record IsInstr (v : Version) (raw : Bool) (bytes : List ℕ) : Type 0 where
  pub len : length bytes ≡ 16
  pub fits : IsBytes bytes
  pub fault : instr_fault v raw bytes ≡ None

-- ---- what was read

numbers_small : (n : ℕ) (bytes : List ℕ) → IsBytes bytes → number_of (take n bytes) < 256 ^ n
numbers_small zero bytes h = omega arith
numbers_small (suc n) [] h = by (suc n)
  where
    by : (k : ℕ) → 0 < 256 ^ k
    by zero = omega arith
    by (suc k) = let more = by k in omega (arith, pow-suc 256 k)
numbers_small (suc n) (b ∷ bytes) h =
    let first : b < 256 = h 0 in
    let rest = numbers_small n bytes (λ i. h (suc i)) in
    omega (arith, pow-suc 256 n)

-- a known row
pub record IsKnown (v : Version) (row : Row) (opcode : ℕ) : Type 0 where
  pub known : is_known v opcode ≡ true
  pub there : row_of opcode ≡ Some row
  pub laid : layout_at v opcode ≡ Some (layout (length row.fields) row.ending)

pub known_by : (v : Version) (opcode : ℕ) (row : Row) → row_at v opcode ≡ Some row → IsKnown v row opcode
known_by v opcode row h = by (is_known v opcode) refl h
  where
    by : (b : Bool) → is_known v opcode ≡ b → (if b then row_of opcode else None) ≡ Some row → IsKnown v row opcode
    by true known there = record { known = known; there = there; laid = rw (known, there) refl }
    by false known there = cc

-- what was read of bytes of this row
pub whole_of : (v : Version) (raw : Bool) (row : Row) (bytes : List ℕ) → row_at v (slice_index bytes 0) ≡ Some row → IsInstr v raw bytes
    → IsWhole (written row) (reading_of bytes)
whole_of v raw row bytes here h =
    let l = layout (length row.fields) row.ending in
    let r = no_fault-row v raw bytes l (known_by v _ row here).laid h.fault in
    let len : length bytes ≡ 16 = h.len in
    whole_written row (reading_of bytes) (record {
      seven_there = omega (arith, length-take 7 (drop 1 bytes), length-drop 1 bytes);
      registers = r.registers;
      imm = numbers_small 4 (drop 8 bytes) (IsBytes-drop 8 bytes h.fits);
      target = numbers_small 4 (drop 12 bytes) (IsBytes-drop 12 bytes h.fits);
      eight = omega (arith, length-drop 8 bytes);
      named = r.named;
      clear = listed row.ending (and_parts (list_all (λ x. x == 0) (drop l.registers (reading_of bytes).registers)) _ r.unused).1;
    })
  where
    listed : (e : Ending) → is_ending_clear e (reading_of bytes) ≡ true → is_listed e (reading_of bytes) ≡ true
    listed ending.Handles h = h
    listed _ h = refl

-- ---- a line of operands

line_of-operands : (v : Version) (name : List ℕ) (row : Row) (operands : List (List ℕ)) (s : Source) → is_plain_word name ≡ true
    → starts_with ◌==◌ name (codes ".") ≡ false → label_of name ≡ None → row_by v name ≡ Some row → list_all is_plain_word operands ≡ true
    → source_of row operands ≡ Some s → line_of v (words_of (name ++ behind (codes " ") operands)) ≡ Some (Code s)
unfolding line_of with_commas operands_of
line_of-operands v name row [] s plain no_point no_label named all source =
    ap (line_of v) (ap words_of (append-nil name) ∙ words_of-alone name plain) ∙ rw (no_point, no_label, named, source) refl
line_of-operands v name row (word ∷ []) s plain no_point no_label named all source =
    ap (line_of v) (words_of-operands name (word ∷ []) plain all) ∙ rw (no_point, named, operands_of-commas word [] all, source) refl
line_of-operands v name row (word ∷ next ∷ words) s plain no_point no_label named all source =
    ap (line_of v) (words_of-operands name (word ∷ next ∷ words) plain all) ∙ rw (no_point, named, operands_of-commas word (next ∷ words) all, source) refl

-- an instruction of a known opcode
row_said : (v : Version) (count : ℕ) (raw : Bool) (row : Row) (bytes : List ℕ) → row_at v (slice_index bytes 0) ≡ Some row → IsInstr v raw bytes
    → line_of v (words_of (row_text count bytes (Some row))) ≡ Some (Code (source_read count row (reading_of bytes)))
row_said v count raw row bytes here h =
    let k = known_by v (slice_index bytes 0) row here in
    let f = row_fits (slice_index bytes 0) row k.there in
    let w = whole_of v raw row bytes here h in
    let known : is_known v row.opcode ≡ true = ap (is_known v) f.same ∙ k.known in
    line_of-operands v row.name row (operand_texts count row (reading_of bytes)) (source_read count row (reading_of bytes)) f.plain f.no_point f.no_label
    (ap (if_fits (λ row. is_known v row.opcode)) f.named ∙ rw known refl) (plain_operands count row (reading_of bytes) w)
    (source_of-texts count row (reading_of bytes) f.few w)

-- an opcode that the version doesn't know
unknown_by : (v : Version) (opcode : ℕ) → row_at v opcode ≡ None → layout_at v opcode ≡ None
unknown_by v opcode h = by (is_known v opcode) h
  where
    by : (b : Bool) → (if b then row_of opcode else None) ≡ None → (if b then layout_of opcode else None) ≡ None
    by true none = ap (option_map layout_in) none
    by false none = refl

-- bytes of an unknown one
unknown_said : (v : Version) (bytes : List ℕ) → row_at v (slice_index bytes 0) ≡ None → length bytes ≡ 16 → IsBytes bytes
    → line_of v (words_of (codes ".bytes " ++ hex_text bytes)) ≡ Some (Code (record { bytes = bytes; label = None }))
unfolding line_of is_word unknown_of
unknown_said v bytes here len fits =
    let bounded = list_all-from_IsBytes bytes fits in
    let digits = plain_word-hex bytes (omega arith) bounded in
    let long : (length bytes == 16) ≡ true = eq-eqb (length bytes) 16 len in
    ap (line_of v)
    (words_of-space (codes ".bytes") (hex_text bytes) refl ∙ ap (λ (ws : List (List ℕ)). codes ".bytes" ∷ ws) (words_of-alone (hex_text bytes) digits))
    ∙ rw (hex_again bytes bounded, long, unknown_by v _ here) refl

-- what the line of an instruction says
abbrev pub source_by : ℕ → List ℕ → Option Row → Source
source_by count bytes None = record { bytes = bytes; label = None }
source_by count bytes (Some row) = source_read count row (reading_of bytes)

abbrev pub source_said : Version → ℕ → List ℕ → Source
source_said v count bytes = source_by count bytes (row_at v (slice_index bytes 0))

pub instr_said : (v : Version) (count : ℕ) (raw : Bool) (bytes : List ℕ) → IsInstr v raw bytes
    → line_of v (words_of (instr_text v count bytes)) ≡ Some (Code (source_said v count bytes))
instr_said v count raw bytes h = by (row_at v (slice_index bytes 0)) refl
  where
    by : (o : Option Row) → row_at v (slice_index bytes 0) ≡ o → line_of v (words_of (row_text count bytes o)) ≡ Some (Code (source_by count bytes o))
    by None here = unknown_said v bytes here h.len h.fits
    by (Some row) here = row_said v count raw row bytes here h

-- ---- its bytes again

-- what the text says of the bytes: a rep and an endrep have no target
abbrev pub untargeted_by : Mark → List ℕ → List ℕ
untargeted_by mark.Plain bytes = bytes
untargeted_by _ bytes = with_target bytes 0

abbrev pub untargeted : Version → List ℕ → List ℕ
untargeted v bytes = untargeted_by (mark_in v bytes) bytes

-- an ending without a target is written as it is
plain_end : (e : Ending) (b : Bool) → (b ≡ true → is_aimed e ≡ false) → (if b then untargeted_end e else e) ≡ e
plain_end e false h = refl
plain_end ending.Target true h = absurd (true≢false (h refl))
plain_end ending.Both true h = absurd (true≢false (h refl))
plain_end _ true h = refl

-- so it is where the row is known
untargeted_row : (v : Version) (raw : Bool) (row : Row) (bytes : List ℕ) → row_at v (slice_index bytes 0) ≡ Some row → IsInstr v raw bytes
    → row_bytes row.opcode (layout (length row.fields) (written row)) (reading_of bytes) ≡ untargeted v bytes
unfolding row_of
untargeted_row v raw row bytes here h = by (slice_index bytes 0 == 26) refl (slice_index bytes 0 == 27) refl
  where
    k : IsKnown v row (slice_index bytes 0)
    k = known_by v (slice_index bytes 0) row here

    same : row_bytes (slice_index bytes 0) (layout (length row.fields) row.ending) (reading_of bytes) ≡ bytes
    same = row_bytes-again v raw bytes (layout (length row.fields) row.ending) h.len h.fits k.laid h.fault

    new : (w : Version) → is_known w (slice_index bytes 0) ≡ true → is_new (slice_index bytes 0) ≡ true → w ≡ version.Two
    new version.Two known is = refl
    new version.One known is = absurd (true≢false (sym known ∙ ap not is))

    plain : (w : Version) → (slice_index bytes 0 == 26) ≡ false → (slice_index bytes 0 == 27) ≡ false → mark_in w bytes ≡ mark.Plain
    plain version.One p q = refl
    plain version.Two p q = rw (p, q) refl

    row_is : RowFits row (slice_index bytes 0)
    row_is = row_fits (slice_index bytes 0) row k.there

    by : (p : Bool) → (slice_index bytes 0 == 26) ≡ p → (q : Bool) → (slice_index bytes 0 == 27) ≡ q
        → row_bytes row.opcode (layout (length row.fields) (written row)) (reading_of bytes) ≡ untargeted v bytes
    by true p q e =
        let n : slice_index bytes 0 ≡ 26 = eqb-true _ 26 p in
        let is : row_of 26 ≡ Some row = ap row_of (sym n) ∙ k.there in
        let two : v ≡ version.Two = new v k.known (rw p refl) in
        let r : row ≡ unwrap_or (row_of 26) row = ap (λ (o : Option Row). unwrap_or o row) (sym is) in
        ap (λ (x : Row). row_bytes x.opcode (layout (length x.fields) (written x)) (reading_of bytes)) r
        ∙ sym (ap (λ (w : Version). untargeted w bytes) two ∙ rw p (ap (λ (b : List ℕ). with_target b 0)
        (sym same ∙ (λ j. row_bytes (n j) (layout (length (r j).fields) (r j).ending) (reading_of bytes)))))
    by false p true e =
        let n : slice_index bytes 0 ≡ 27 = eqb-true _ 27 e in
        let is : row_of 27 ≡ Some row = ap row_of (sym n) ∙ k.there in
        let two : v ≡ version.Two = new v k.known (rw (p, e) refl) in
        let r : row ≡ unwrap_or (row_of 27) row = ap (λ (o : Option Row). unwrap_or o row) (sym is) in
        ap (λ (x : Row). row_bytes x.opcode (layout (length x.fields) (written x)) (reading_of bytes)) r
        ∙ sym (ap (λ (w : Version). untargeted w bytes) two ∙ rw (p, e) (ap (λ (b : List ℕ). with_target b 0)
        (sym same ∙ (λ j. row_bytes (n j) (layout (length (r j).fields) (r j).ending) (reading_of bytes)))))
    by false p false e =
        ap (λ (m : ℕ). row_bytes m (layout (length row.fields) (if is_new m then untargeted_end row.ending else row.ending)) (reading_of bytes)) row_is.same
        ∙ rw (p, e, plain v p e)
        (ap (λ (d : Ending). row_bytes (slice_index bytes 0) (layout (length row.fields) d) (reading_of bytes))
        (plain_end row.ending (nat_lt 87 (slice_index bytes 0)) row_is.no_target)
        ∙ same)

pub instr_resolved : (labels : List (List ℕ × ℕ)) (v : Version) (count : ℕ) (raw : Bool) (bytes : List ℕ) → IsInstr v raw bytes
    → (aims (row_at v (slice_index bytes 0)) ≡ true → IsPlaced labels count (reading_of bytes).target)
    → resolved labels (source_said v count bytes) ≡ Some (untargeted v bytes)
instr_resolved labels v count raw bytes h placed = by (row_at v (slice_index bytes 0)) refl placed
  where
    by : (o : Option Row) → row_at v (slice_index bytes 0) ≡ o → (aims o ≡ true → IsPlaced labels count (reading_of bytes).target)
        → resolved labels (source_by count bytes o) ≡ Some (untargeted v bytes)
    by None here stands = ap (λ (m : Mark). Some (untargeted_by m bytes)) (sym (unknown_mark v bytes (unknown_by v _ here)))
    by (Some row) here stands =
        source_resolved labels count row.opcode (length row.fields) (written row) (reading_of bytes) stands
        ∙ ap (λ (xs : List ℕ). Some xs) (untargeted_row v raw row bytes here h)
