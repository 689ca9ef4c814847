-- The operands of an instruction as they are written give its bytes again.
use Rattle.zl_asm.proofs.Common.{Bool, Ending, List, None, Reading, Row, Some, Source, Tail, and_from, ap, append_assoc, are_registers, arith, bytes_of}
use Rattle.zl_asm.proofs.Common.{decimal, drop, drop_at, eq-eqb, false, filter, if◌then◌else◌, is_new, is_packed, label_text, layout, length, length-map}
use Rattle.zl_asm.proofs.Common.{length-replicate, length-take, length-take-le, list_all, list_all-append, map, names_registers, nat_lt, operand_texts}
use Rattle.zl_asm.proofs.Common.{position_of, refl, register_text, registers_of, replicate, resolved, row_bytes, seven, source_of, source_with, sym, tail}
use Rattle.zl_asm.proofs.Common.{tail_of, tail_texts, tail_to, take, take_at, true, untargeted, with_target, written, ℕ, ◌++◌, ◌<◌, ◌==◌, ◌^◌, ◌∙◌, ◌∷◌, ◌≡◌}
use Rattle.zl_asm.proofs.Common.{◌≤◌}
use Rattle.std.proofs.lemmas.List.{length-append}
use Rattle.zl_code.specs.declared.layout.Ending.TheVariants as ending
use Rattle.zl_asm.proofs.RoundWords.{is_plain_word}
use Rattle.zl_asm.proofs.RoundNumbers.{number_of-decimal, no_name-decimal, is_name-label, plain-decimal, plain-label}
use Rattle.zl_asm.proofs.RoundRegisters.{is_taken, registers_again, plain-registers, are_registers-take, are_registers-taken, places_of-taken}

-- the places of a list are packed
abbrev pub is_listed : Ending → Reading → Bool
is_listed ending.Handles r = is_packed r.places
is_listed _ r = true

-- what was read of an instruction that has no fault
pub record IsWhole (ending : Ending) (r : Reading) : Type 0 where
  pub seven_there : length r.registers ≡ 7
  pub registers : are_registers r.registers ≡ true
  pub imm : r.imm < 2 ^ 32
  pub target : r.target < 2 ^ 32
  pub eight : length r.places ≡ 8
  pub named : names_registers ending r ≡ true
  pub clear : is_listed ending r ≡ true

-- so it was of what is written
pub whole_written : (row : Row) (r : Reading) → IsWhole row.ending r → IsWhole (written row) r
whole_written row r h = by row.ending (is_new row.opcode) h
  where
    -- where neither a register nor a list of them is named
    plain : (e d : Ending) → IsWhole e r → names_registers d r ≡ true → is_listed d r ≡ true → IsWhole d r
    plain e d h n l =
        record { seven_there = h.seven_there; registers = h.registers; imm = h.imm; target = h.target; eight = h.eight; named = n; clear = l }

    by : (e : Ending) (b : Bool) → IsWhole e r → IsWhole (if b then untargeted e else e) r
    by e false h = h
    by ending.Both true h = plain ending.Both ending.Number h refl refl
    by ending.Target true h = plain ending.Target ending.Nothing h refl refl
    by _ true h = h

-- the last eight bytes where a label names the target, if one does
abbrev pub target_tail : ℕ → ℕ → ℕ → Tail
target_tail count imm target = if nat_lt target count then tail imm 0 (Some (label_text target)) else tail imm target None

-- the last eight bytes of the operands
abbrev pub tail_read : ℕ → Ending → Reading → Tail
tail_read count ending.Nothing r = tail 0 0 None
tail_read count ending.Number r = tail r.imm 0 None
tail_read count ending.Room r = tail r.imm 0 None
tail_read count ending.FromSlots r = tail r.imm 0 None
tail_read count ending.IntoSlots r = tail r.imm 0 None
tail_read count ending.Target r = target_tail count 0 r.target
tail_read count ending.Both r = target_tail count r.imm r.target
tail_read count ending.Handles r = record { bytes = r.places; label = None }

target_by : (count imm target : ℕ) → target < 2 ^ 32 → (t : Bool)
    → tail_to imm (if t then label_text target else decimal target) ≡ Some (if t then tail imm 0 (Some (label_text target)) else tail imm target None)
target_by count imm target lt true = rw (is_name-label target lt) refl
target_by count imm target lt false = rw (no_name-decimal target lt, number_of-decimal target lt) refl

tail_of-texts : (count : ℕ) (e : Ending) (r : Reading) → IsWhole e r → tail_of e (tail_texts count e r) ≡ Some (tail_read count e r)
unfolding tail_of tail_texts
tail_of-texts count ending.Nothing r h = refl
tail_of-texts count ending.Number r h = rw (number_of-decimal r.imm h.imm) refl
tail_of-texts count ending.Room r h = rw (number_of-decimal r.imm h.imm) refl
tail_of-texts count ending.FromSlots r h = rw (number_of-decimal r.imm h.imm) refl
tail_of-texts count ending.IntoSlots r h = rw (number_of-decimal r.imm h.imm) refl
tail_of-texts count ending.Target r h = target_by count 0 r.target h.target (nat_lt r.target count)
tail_of-texts count ending.Both r h = rw (number_of-decimal r.imm h.imm) (target_by count r.imm r.target h.target (nat_lt r.target count))
tail_of-texts count ending.Handles r h =
    rw (registers_again (filter is_taken r.places) (are_registers-taken r.places h.named), places_of-taken r.places h.eight h.clear) refl

-- the instruction of a row with the operands of what was read
abbrev pub source_read : ℕ → Row → Reading → Source
source_read count row r =
    let t = tail_read count (written row) r in
    record { bytes = row.opcode ∷ (seven (take (length row.fields) r.registers) ++ t.bytes); label = t.label }

module _ (count : ℕ) (row : Row) (r : Reading) (few : length row.fields ≤ 7) (h : IsWhole (written row) r) where
  registers_len : length (map register_text (take (length row.fields) r.registers)) ≡ length row.fields
  registers_len =
      let all : length r.registers ≡ 7 = h.seven_there in
      length-map (take (length row.fields) r.registers) register_text ∙ length-take-le (length row.fields) r.registers (omega arith)

  registers_read : registers_of (length row.fields) (take (length row.fields) (operand_texts count row r)) ≡ Some (take (length row.fields) r.registers)
  registers_read =
      let front : take (length row.fields) (operand_texts count row r) ≡ map register_text (take (length row.fields) r.registers) =
      take_at (map register_text (take (length row.fields) r.registers)) (tail_texts count (written row) r) (length row.fields) registers_len in
      let enough : (length (map register_text (take (length row.fields) r.registers)) == length row.fields) ≡ true = eq-eqb _ _ registers_len in
      ap (registers_of (length row.fields)) front
      ∙ rw enough (registers_again (take (length row.fields) r.registers) (are_registers-take (length row.fields) r.registers h.registers))

  behind_read : drop (length row.fields) (operand_texts count row r) ≡ tail_texts count (written row) r
  behind_read = drop_at (map register_text (take (length row.fields) r.registers)) (tail_texts count (written row) r) (length row.fields) registers_len

  pub source_of-texts : source_of row (operand_texts count row r) ≡ Some (source_read count row r)
  unfolding source_of
  source_of-texts = λ i. source_with row.opcode (registers_read i) ((ap (tail_of (written row)) behind_read ∙ tail_of-texts count (written row) r h) i)

-- ---- plain operands

plain_target : (count target : ℕ) → target < 2 ^ 32 → (t : Bool) → is_plain_word (if t then label_text target else decimal target) ≡ true
plain_target count target lt true = plain-label target lt
plain_target count target lt false = plain-decimal target lt

plain_tail : (count : ℕ) (e : Ending) (r : Reading) → IsWhole e r → list_all is_plain_word (tail_texts count e r) ≡ true
unfolding tail_texts
plain_tail count ending.Nothing r h = refl
plain_tail count ending.Number r h = and_from _ _ (plain-decimal r.imm h.imm) refl
plain_tail count ending.Room r h = and_from _ _ (plain-decimal r.imm h.imm) refl
plain_tail count ending.FromSlots r h = and_from _ _ (plain-decimal r.imm h.imm) refl
plain_tail count ending.IntoSlots r h = and_from _ _ (plain-decimal r.imm h.imm) refl
plain_tail count ending.Target r h = and_from _ _ (plain_target count r.target h.target (nat_lt r.target count)) refl
plain_tail count ending.Both r h = and_from _ _ (plain-decimal r.imm h.imm) (and_from _ _ (plain_target count r.target h.target (nat_lt r.target count)) refl)
plain_tail count ending.Handles r h = plain-registers (filter is_taken r.places) (are_registers-taken r.places h.named)

pub plain_operands : (count : ℕ) (row : Row) (r : Reading) → IsWhole (written row) r → list_all is_plain_word (operand_texts count row r) ≡ true
plain_operands count row r h =
    list_all-append is_plain_word (map register_text (take (length row.fields) r.registers)) (tail_texts count (written row) r)
    ∙ and_from _ _ (plain-registers (take (length row.fields) r.registers) (are_registers-take (length row.fields) r.registers h.registers))
    (plain_tail count (written row) r h)

-- ---- the bytes with the target that a label stands for

length-seven : (registers : List ℕ) → length (seven registers) ≡ 7
length-seven registers = omega (arith, length-take 7 (registers ++ replicate 7 0), length-append registers (replicate 7 0), length-replicate {A = ℕ} 7 0)

with_target-again : (opcode imm target : ℕ) (registers : List ℕ)
    → with_target (opcode ∷ (seven registers ++ (bytes_of 4 imm ++ bytes_of 4 0))) target ≡ opcode ∷ (seven registers ++ (bytes_of 4 imm ++ bytes_of 4 target))
with_target-again opcode imm target registers =
    let front = opcode ∷ (seven registers ++ bytes_of 4 imm) in
    let len : length front ≡ 12 = omega (arith, length-append (seven registers) (bytes_of 4 imm), length-seven registers) in
    ap (λ (xs : List ℕ). take 12 (opcode ∷ xs) ++ bytes_of 4 target) (sym (append_assoc (seven registers) (bytes_of 4 imm) (bytes_of 4 0)))
    ∙ ap (λ (xs : List ℕ). xs ++ bytes_of 4 target) (take_at front (bytes_of 4 0) 12 len)
    ∙ ap (λ (xs : List ℕ). opcode ∷ xs) (append_assoc (seven registers) (bytes_of 4 imm) (bytes_of 4 target))

-- the bytes of the row, with the ending as it was read
abbrev read_bytes : ℕ → ℕ → ℕ → ℕ → List ℕ → List ℕ
read_bytes opcode imm target n registers = opcode ∷ (seven (take n registers) ++ (bytes_of 4 imm ++ bytes_of 4 target))

-- a target below the count stands at its label
abbrev pub IsPlaced : List (List ℕ × ℕ) → ℕ → ℕ → Type 0
IsPlaced labels count target = nat_lt target count ≡ true → position_of labels (label_text target) ≡ Some target

target_resolved : (labels : List (List ℕ × ℕ)) (count opcode imm target n : ℕ) (registers : List ℕ) → (t : Bool)
    → (t ≡ true → position_of labels (label_text target) ≡ Some target)
    → resolved labels (let s = if t then tail imm 0 (Some (label_text target)) else tail imm target None in
    record { bytes = opcode ∷ (seven (take n registers) ++ s.bytes); label = s.label }) ≡ Some (read_bytes opcode imm target n registers)
target_resolved labels count opcode imm target n registers true placed =
    rw (placed refl) (ap (λ (xs : List ℕ). Some xs) (with_target-again opcode imm target (take n registers)))
target_resolved labels count opcode imm target n registers false placed = refl

abbrev pub is_aimed : Ending → Bool
is_aimed e = elim e as (λ _. Bool) [ ending.Target ↦ true | ending.Both ↦ true | _ ↦ false ]

pub source_resolved : (labels : List (List ℕ × ℕ)) (count opcode n : ℕ) (e : Ending) (r : Reading) → (is_aimed e ≡ true → IsPlaced labels count r.target)
    → resolved labels (record { bytes = opcode ∷ (seven (take n r.registers) ++ (tail_read count e r).bytes); label = (tail_read count e r).label })
    ≡ Some (row_bytes opcode (layout n e) r)
source_resolved labels count opcode n ending.Target r placed =
    target_resolved labels count opcode 0 r.target n r.registers (nat_lt r.target count) (placed refl)
source_resolved labels count opcode n ending.Both r placed =
    target_resolved labels count opcode r.imm r.target n r.registers (nat_lt r.target count) (placed refl)
source_resolved labels count opcode n ending.Handles r placed = refl
source_resolved labels count opcode n _ r placed = refl
