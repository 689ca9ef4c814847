-- A system call: its 16 bytes have no fault, and it is read from them again.
use Rattle.zl_code.proofs.Common.{Bool, CallInstr, CallName, IfSome, List, None, Reading, Some, [], and_from, and_parts, ap, are_registers, arith, bytes_of}
use Rattle.zl_code.proofs.Common.{call_bytes, call_reading, call_row, calls, drop, drop-append-add, drop-append_seam, eq-eqb, eqb-true, false, fault_by}
use Rattle.zl_code.proofs.Common.{if◌then◌else◌, is_call_in_range, is_unused_zero, layout_in, layout_of, length, length-append, length-drop}
use Rattle.zl_code.proofs.Common.{list_all, names_registers, nat_lt, number_of, option_map, reading_of, refl, registers_at, row_bytes, row_of, slice_index}
use Rattle.zl_code.proofs.Common.{subst, sym, take, take-append_seam, take_all, true, ℕ, ◌++◌, ◌+◌, ◌==◌, ◌∙◌, ◌∷◌, ◌≡◌}
use Rattle.zl_code.proofs.ImageBytes.{IsBytes, bytes_of-number_at, parts_at, list_all-from_IsBytes}
use Rattle.zl_code.proofs.ImageInstr.{IfSome-at, row_bytes-unused}
use Rattle.zl_code.specs.declared.history.CallName.TheVariants as name

-- ---- names and opcodes

-- the row of each call is that of its opcode
pub row_is : (n : CallName) → row_of (call_row n).opcode ≡ Some (call_row n)
unfolding row_of
row_is name.Close = refl
row_is _ = refl

pub layout_is : (n : CallName) → layout_of (call_row n).opcode ≡ Some (layout_in (call_row n))
layout_is n = ap (option_map layout_in) (row_is n)

pub not_local : (n : CallName) → nat_lt (call_row n).opcode 64 ≡ false
not_local name.Close = refl
not_local _ = refl

pub opcode_is_byte : (n : CallName) → nat_lt (call_row n).opcode 256 ≡ true
opcode_is_byte name.Close = refl
opcode_is_byte _ = refl

-- the first of these calls that has the opcode
abbrev name_among : List CallName → ℕ → CallName
name_among [] opcode = name.Close
name_among (n ∷ ns) opcode = if (call_row n).opcode == opcode then n else name_among ns opcode

name_again : (n : CallName) → name_among calls (call_row n).opcode ≡ n
name_again name.Close = refl
name_again _ = refl

-- ---- a call in range

-- it has its seven registers and eight bytes, without a fault by its row
pub record IsWhole (i : CallInstr) : Type 0 where
  pub seven : length i.registers ≡ 7
  pub eight : length i.last ≡ 8
  pub bytes : list_all (λ b. nat_lt b 256) i.last ≡ true
  pub registers : are_registers i.registers ≡ true
  pub named : names_registers (call_row i.name).ending (call_reading i) ≡ true
  pub unused : is_unused_zero (layout_in (call_row i.name)) (call_reading i) ≡ true

pub whole : (i : CallInstr) → is_call_in_range i ≡ true → IsWhole i
whole i h =
    let p = and_parts _ _ h in
    let q = and_parts _ _ p.0 in
    let r = and_parts _ _ q.1 in
    let s = and_parts _ _ p.1 in
    let t = and_parts _ _ s.1 in
    record { seven = eqb-true _ _ q.0; eight = eqb-true _ _ r.0; bytes = r.1; registers = s.0; named = t.0; unused = t.1 }

pub length_whole : (i : CallInstr) → IsWhole i → length (call_bytes i) ≡ 16
length_whole i w = omega (arith, w.seven, w.eight, length-append i.registers i.last)

-- ---- what is read of its bytes

front : (i : CallInstr) → IsWhole i → take 7 (i.registers ++ i.last) ≡ i.registers
front i w = ap (λ (k : ℕ). take k (i.registers ++ i.last)) (sym w.seven) ∙ take-append_seam i.registers i.last

behind : (i : CallInstr) → IsWhole i → drop 7 (i.registers ++ i.last) ≡ i.last
behind i w = ap (λ (k : ℕ). drop k (i.registers ++ i.last)) (sym w.seven) ∙ drop-append_seam i.registers i.last

far_behind : (i : CallInstr) → IsWhole i → drop 11 (i.registers ++ i.last) ≡ drop 4 i.last
far_behind i w = ap (λ (k : ℕ). drop (k + 4) (i.registers ++ i.last)) (sym w.seven) ∙ drop-append-add i.registers i.last 4

reading_again : (i : CallInstr) → IsWhole i → reading_of (call_bytes i) ≡ call_reading i
reading_again i w =
    λ k. record { registers = front i w k; imm = number_of (take 4 (behind i w k)); target = number_of (take 4 (far_behind i w k)); places = behind i w k }

pub no_fault : (raw : Bool) (i : CallInstr) → IsWhole i
    → fault_by raw (reading_of (call_bytes i)) (layout_of (call_row i.name).opcode) ≡ None
no_fault raw i w = (λ k. fault_by raw (reading_again i w k) (layout_is i.name k)) ∙ rw (w.registers, w.named, w.unused) refl

-- the call that has these bytes
pub call_at : List ℕ → CallInstr
call_at bytes = record { name = name_among calls (slice_index bytes 0); registers = registers_at bytes; last = drop 8 bytes }

pub call_again : (i : CallInstr) → IsWhole i → call_at (call_bytes i) ≡ i
unfolding call_at
call_again i w = λ k. record { name = name_again i.name k; registers = front i w k; last = behind i w k }

-- ---- the call that is read

module _ (n : CallName) (opcode : ℕ) (rs last : List ℕ) (len : length rs ≡ 7) (eight : length last ≡ 8) (fits : IsBytes last)
    (row : row_of opcode ≡ Some (call_row n)) where
  abbrev r : Reading
  r = call_reading (record { name = n; registers = rs; last = last })

  layout_there : layout_of opcode ≡ Some (layout_in (call_row n))
  layout_there = ap (option_map layout_in) row

  -- the eight bytes are those of their two numbers
  has_numbers : bytes_of 4 r.imm ++ bytes_of 4 r.target ≡ r.places
  has_numbers =
      let imm : bytes_of 4 r.imm ≡ take 4 last = bytes_of-number_at last 0 4 (omega (arith, eight)) fits in
      let target : bytes_of 4 r.target ≡ drop 4 last =
      bytes_of-number_at last 4 4 (omega (arith, eight)) fits ∙ take_all 4 (drop 4 last) (omega (arith, eight, length-drop 4 last)) in
      (λ i. imm i ++ target i) ∙ sym (parts_at 0 4 last)

  pub known_bytes : (call_row n).opcode ≡ opcode → IfSome (layout_of opcode) (λ l. (names_registers l.ending r ≡ true) × (is_unused_zero l r ≡ true))
      → IfSome (layout_of opcode) (λ l. call_bytes (record { name = n; registers = rs; last = last }) ≡ row_bytes opcode l r)
  known_bytes same clear =
      let l = layout_in (call_row n) in
      let unused = (IfSome-at (layout_of opcode) _ l layout_there clear).1 in
      subst (λ o. IfSome o (λ k. call_bytes (record { name = n; registers = rs; last = last }) ≡ row_bytes opcode k r)) (sym layout_there)
      (ap (λ (o : ℕ). o ∷ (rs ++ last)) same ∙ sym (row_bytes-unused opcode l r len has_numbers unused))

  pub known_in_range : are_registers rs ≡ true → IfSome (layout_of opcode) (λ l. (names_registers l.ending r ≡ true) × (is_unused_zero l r ≡ true))
      → is_call_in_range (record { name = n; registers = rs; last = last }) ≡ true
  known_in_range registers clear =
      let both = IfSome-at (layout_of opcode) _ (layout_in (call_row n)) layout_there clear in
      and_from _ _ (and_from _ _ (eq-eqb (length rs) 7 len) (and_from _ _ (eq-eqb (length last) 8 eight) (list_all-from_IsBytes last fits)))
      (and_from _ _ registers (and_from _ _ both.0 both.1))
