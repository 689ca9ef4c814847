-- What holds of the 16 bytes of an instruction in range, and of 16 bytes without a fault.
use Rattle.zl_code.proofs.Common.{Bool, CallInstr, Instr, Layout, List, LocalInstr, None, Some, [], and_parts, ap, are_registers, arith, bytes_of, call_bytes}
use Rattle.zl_code.proofs.Common.{false, fault_by, first_some, instr_bytes, instr_fault, is_32_bits, is_call_in_range, is_instr_in_range, is_local_in_range}
use Rattle.zl_code.proofs.Common.{is_some, is_unused_zero, length, list_all, local_bytes, local_parts, ltb-true, names_registers, nat_lt, not}
use Rattle.zl_code.proofs.Common.{reading_of, refl, replicate, row_bytes, seven, slice_index, suc, sym, then_some, true, zero, ℕ, ◌%◌, ◌&&◌, ◌++◌, ◌<◌, ◌==◌}
use Rattle.zl_code.proofs.Common.{◌∙◌, ◌∷◌, ◌≡◌}
use Rattle.zl_code.proofs.Common.{call_row}
use Rattle.zl_code.specs.Instructions.{is_known, layout_at}
use Rattle.zl_code.specs.declared.image.Version.{Version}
use Rattle.zl_code.specs.declared.instr.Instr.TheVariants as instr
use Rattle.zl_code.specs.declared.instr.LocalInstr.TheVariants as local
use Rattle.zl_code.specs.declared.image.DecodeFault.TheVariants as faults
use Rattle.zl_code.proofs.ImageBytes.{IsBytes, IsBytes-take}
use Rattle.zl_code.proofs.ImageCalls.{whole, opcode_is_byte}
use Rattle.zl_code.proofs.ImageTable.{instr_fits}
use Rattle.zl_code.proofs.ImageInstr.{row_bytes-read}

-- ---- an instruction in range

pub instr_bytes-no_fault : (v : Version) (raw : Bool) (i : Instr) → is_instr_in_range v raw i ≡ true → instr_fault v raw (instr_bytes i) ≡ None
instr_bytes-no_fault v raw i h = (instr_fits v raw i h).fault

pub length-instr_bytes : (v : Version) (raw : Bool) (i : Instr) → is_instr_in_range v raw i ≡ true → length (instr_bytes i) ≡ 16
length-instr_bytes v raw i h = (instr_fits v raw i h).len

-- ---- each of them is a byte

IsBytes-cons : (b : ℕ) (bytes : List ℕ) → b < 256 → IsBytes bytes → IsBytes (b ∷ bytes)
IsBytes-cons b bytes lt h zero = lt
IsBytes-cons b bytes lt h (suc n) = h n

IsBytes-append : (xs ys : List ℕ) → IsBytes xs → IsBytes ys → IsBytes (xs ++ ys)
IsBytes-append [] ys h k = k
IsBytes-append (x ∷ xs) ys h k = IsBytes-cons x (xs ++ ys) (h 0) (IsBytes-append xs ys (λ n. h (suc n)) k)

IsBytes-none : IsBytes []
IsBytes-none n = omega arith

IsBytes-zeros : (n : ℕ) → IsBytes (replicate n 0)
IsBytes-zeros zero = IsBytes-none
IsBytes-zeros (suc n) = IsBytes-cons 0 (replicate n 0) (omega arith) (IsBytes-zeros n)

IsBytes-bytes_of : (n v : ℕ) → IsBytes (bytes_of n v)
IsBytes-bytes_of zero v = IsBytes-none
IsBytes-bytes_of (suc n) v = IsBytes-cons (v % 256) _ (omega arith) (IsBytes-bytes_of n _)

-- bytes that pass a test that only bytes pass
IsBytes-all : (test : ℕ → Bool) → ((b : ℕ) → test b ≡ true → b < 256) → (bytes : List ℕ) → list_all test bytes ≡ true → IsBytes bytes
IsBytes-all test small [] h = IsBytes-none
IsBytes-all test small (b ∷ bytes) h =
    let p = and_parts (test b) (list_all test bytes) h in IsBytes-cons b bytes (small b p.0) (IsBytes-all test small bytes p.1)

small_register : (b : ℕ) → nat_lt b 32 ≡ true → b < 256
small_register b h = let lt : b < 32 = ltb-true b 32 h in omega arith

IsBytes-registers : (rs : List ℕ) → are_registers rs ≡ true → IsBytes rs
IsBytes-registers rs h = IsBytes-all (λ r. nat_lt r 32) small_register rs h

local_opcode : (i : LocalInstr) → nat_lt (local_parts i).opcode 256 ≡ true
unfolding local_parts
local_opcode (local.Const a imm) = refl
local_opcode _ = refl

IsBytes-local : (i : LocalInstr) → is_local_in_range i ≡ true → IsBytes (local_bytes i)
IsBytes-local i h =
    let p = local_parts i in
    let both = and_parts (is_32_bits p.imm && is_32_bits p.target) (are_registers p.registers) h in
    let registers =
    IsBytes-take 7 (p.registers ++ replicate 7 0) (IsBytes-append p.registers (replicate 7 0) (IsBytes-registers p.registers both.1) (IsBytes-zeros 7)) in
    let last = IsBytes-append (bytes_of 4 p.imm) (bytes_of 4 p.target) (IsBytes-bytes_of 4 p.imm) (IsBytes-bytes_of 4 p.target) in
    IsBytes-cons p.opcode _ (ltb-true _ 256 (local_opcode i)) (IsBytes-append (seven p.registers) _ registers last)

IsBytes-call : (i : CallInstr) → is_call_in_range i ≡ true → IsBytes (call_bytes i)
IsBytes-call i h =
    let w = whole i h in
    IsBytes-cons _ _ (ltb-true _ 256 (opcode_is_byte i.name))
    (IsBytes-append i.registers i.last (IsBytes-registers i.registers w.registers) (IsBytes-all (λ b. nat_lt b 256) (λ b e. ltb-true b 256 e) i.last w.bytes))

pub IsBytes-instr_bytes : (v : Version) (raw : Bool) (i : Instr) → is_instr_in_range v raw i ≡ true → IsBytes (instr_bytes i)
IsBytes-instr_bytes v raw (instr.Local i) h = IsBytes-local i (and_parts (is_known v (local_parts i).opcode) (is_local_in_range i) h).1
IsBytes-instr_bytes v raw (instr.Call i) h = IsBytes-call i (and_parts (is_known v (call_row i.name).opcode) (is_call_in_range i) h).1
IsBytes-instr_bytes v raw (instr.Unknown bytes) h =
    let marked = and_parts raw ((length bytes == 16) && (list_all (λ b. nat_lt b 256) bytes && not (is_some (layout_at v (slice_index bytes 0))))) h in
    let sixteen = and_parts (length bytes == 16) (list_all (λ b. nat_lt b 256) bytes && not (is_some (layout_at v (slice_index bytes 0)))) marked.1 in
    IsBytes-all (λ b. nat_lt b 256) (λ b e. ltb-true b 256 e) bytes
    (and_parts (list_all (λ b. nat_lt b 256) bytes) (not (is_some (layout_at v (slice_index bytes 0)))) sixteen.1).0

-- ---- bytes of a known opcode without a fault

-- what the bytes name is there, and what they don't use is 0
pub record IsRow (bytes : List ℕ) (l : Layout) : Type 0 where
  pub registers : are_registers (reading_of bytes).registers ≡ true
  pub named : names_registers l.ending (reading_of bytes) ≡ true
  pub unused : is_unused_zero l (reading_of bytes) ≡ true

pub no_fault-row : (v : Version) (raw : Bool) (bytes : List ℕ) (l : Layout) → layout_at v (slice_index bytes 0) ≡ Some l
    → instr_fault v raw bytes ≡ None → IsRow bytes l
unfolding instr_fault
no_fault-row v raw bytes l at none =
    let p = by (are_registers (reading_of bytes).registers) (names_registers l.ending (reading_of bytes)) (is_unused_zero l (reading_of bytes))
    (sym (ap (fault_by raw (reading_of bytes)) at) ∙ none) in
    record { registers = p.0; named = p.1; unused = p.2 }
  where
    by : (a b c : Bool) → first_some (then_some (not (a && b)) faults.BadRegister ∷ then_some (not c) faults.UnusedField ∷ []) ≡ None
        → (a ≡ true) × (b ≡ true) × (c ≡ true)
    by true true true h = (refl, refl, refl)
    by true true false h = absurd cc
    by true false c h = absurd cc
    by false b c h = absurd cc

-- the bytes are those of what is read from them
pub row_bytes-again : (v : Version) (raw : Bool) (bytes : List ℕ) (l : Layout) → length bytes ≡ 16 → IsBytes bytes → layout_at v (slice_index bytes 0) ≡ Some l
    → instr_fault v raw bytes ≡ None → row_bytes (slice_index bytes 0) l (reading_of bytes) ≡ bytes
row_bytes-again v raw bytes l len fits at none =
    row_bytes-read bytes (slice_index bytes 0) l (reading_of bytes) _ len fits refl (record { registers = refl; imm = refl; target = refl; places = refl })
    (no_fault-row v raw bytes l at none).unused refl
