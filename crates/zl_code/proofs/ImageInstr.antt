-- The 16 bytes of an instruction and what is read of them.
use Rattle.zl_code.proofs.Common.{Bool, DecodeFault, IfSome, Layout, List, None, Option, Reading, Some, [], and_from, and_parts, ap, are_registers, arith}
use Rattle.zl_code.proofs.Common.{bytes_of, drop, ending_bytes, eq-eqb, eqb, eqb-true, false, fault_by, first_some, instr_fault, is_ending_clear}
use Rattle.zl_code.proofs.Common.{is_instr_in_range, is_unused_zero, length, length-drop, length-take, list_all, names_registers, not, number_at}
use Rattle.zl_code.proofs.Common.{reading_of, refl, registers_at, replicate, row_bytes, seven, slice_index, subst, suc, sym, take, take_all, then_some, true}
use Rattle.zl_code.proofs.Common.{zero, ℕ, ◌++◌, ◌==◌, ◌∙◌, ◌∷◌, ◌≡◌, ◌≤◌}
use Rattle.zl_code.specs.Instructions.{layout_at}
use Rattle.zl_code.specs.declared.image.Version.{Version}
use Rattle.zl_code.specs.declared.instr.Instr.TheVariants as instr
use Rattle.zl_code.specs.declared.image.DecodeFault.TheVariants as faults
use Rattle.zl_code.specs.declared.layout.Ending.{Ending}
use Rattle.zl_code.specs.declared.layout.Ending.TheVariants as ending
use Rattle.zl_code.proofs.ImageBytes.{IsBytes, bytes_of-number_at, parts_at, list_all-from_IsBytes}

-- numbers of which those from the nth on are 0 are the first n and zeros
padded : (j n : ℕ) (registers : List ℕ) → length registers ≤ j → list_all (λ b. b == 0) (drop n registers) ≡ true
    → take (length registers) (take n registers ++ replicate j 0) ≡ registers
padded j n [] le h = refl
padded zero n (b ∷ bs) le h = absurd (omega arith)
padded (suc j) zero (b ∷ bs) le h =
    let parts = and_parts (eqb b 0) (list_all (λ b. b == 0) bs) h in
    let first : b ≡ 0 = eqb-true b 0 parts.0 in
    rw first (ap (λ (xs : List ℕ). 0 ∷ xs) (padded j zero bs (omega arith) parts.1))
padded (suc j) (suc n) (b ∷ bs) le h = ap (λ (xs : List ℕ). b ∷ xs) (padded (suc j) n bs (omega arith) h)

-- the last eight bytes are those of their two numbers
abbrev HasNumbers : Reading → Type 0
HasNumbers r = bytes_of 4 r.imm ++ bytes_of 4 r.target ≡ r.places

-- where what isn't used of the last eight bytes is 0, nothing is lost
ending_clear : (e : Ending) (r : Reading) → HasNumbers r → is_ending_clear e r ≡ true → ending_bytes e r ≡ r.places
ending_clear ending.Nothing r same h =
    let p = and_parts (r.imm == 0) (r.target == 0) h in
    sym (λ i. bytes_of 4 (eqb-true r.imm 0 p.0 i) ++ bytes_of 4 (eqb-true r.target 0 p.1 i)) ∙ same
ending_clear ending.Number r same h = sym (ap (λ (n : ℕ). bytes_of 4 r.imm ++ bytes_of 4 n) (eqb-true r.target 0 h)) ∙ same
ending_clear ending.Room r same h = sym (ap (λ (n : ℕ). bytes_of 4 r.imm ++ bytes_of 4 n) (eqb-true r.target 0 h)) ∙ same
ending_clear ending.FromSlots r same h = sym (ap (λ (n : ℕ). bytes_of 4 r.imm ++ bytes_of 4 n) (eqb-true r.target 0 h)) ∙ same
ending_clear ending.IntoSlots r same h = sym (ap (λ (n : ℕ). bytes_of 4 r.imm ++ bytes_of 4 n) (eqb-true r.target 0 h)) ∙ same
ending_clear ending.Target r same h = sym (ap (λ (n : ℕ). bytes_of 4 n ++ bytes_of 4 r.target) (eqb-true r.imm 0 h)) ∙ same
ending_clear ending.Both r same h = same
ending_clear ending.Handles r same h = refl

-- where what the layout doesn't use is 0, nothing is lost
pub row_bytes-unused : (opcode : ℕ) (l : Layout) (r : Reading) → length r.registers ≡ 7 → HasNumbers r → is_unused_zero l r ≡ true
    → row_bytes opcode l r ≡ opcode ∷ (r.registers ++ r.places)
row_bytes-unused opcode l r len same h =
    let zeros = and_parts (list_all (λ b. b == 0) (drop l.registers r.registers)) (is_ending_clear l.ending r) h in
    let front : seven (take l.registers r.registers) ≡ r.registers =
    ap (λ (k : ℕ). take k (take l.registers r.registers ++ replicate 7 0)) (sym len) ∙ padded 7 l.registers r.registers (omega arith) zeros.0 in
    let behind : ending_bytes l.ending r ≡ r.places = ending_clear l.ending r same zeros.1 in
    λ i. opcode ∷ (front i ++ behind i)

has_numbers : (bytes : List ℕ) → length bytes ≡ 16 → IsBytes bytes → HasNumbers (reading_of bytes)
has_numbers bytes len h =
    let imm : bytes_of 4 (number_at bytes 8 4) ≡ take 4 (drop 8 bytes) = bytes_of-number_at bytes 8 4 (omega arith) h in
    let target : bytes_of 4 (number_at bytes 12 4) ≡ drop 12 bytes =
    bytes_of-number_at bytes 12 4 (omega arith) h ∙ take_all 4 (drop 12 bytes) (omega (arith, length-drop 12 bytes)) in
    (λ i. imm i ++ target i) ∙ sym (parts_at 8 4 bytes)

-- the 16 bytes are those of what is read from them
bytes_are_read : (bytes : List ℕ) → length bytes ≡ 16 → slice_index bytes 0 ∷ (registers_at bytes ++ drop 8 bytes) ≡ bytes
bytes_are_read [] len = absurd (omega arith)
bytes_are_read (b ∷ bs) len = ap (λ (rest : List ℕ). b ∷ rest) (sym (parts_at 0 7 bs))

seven_registers : (bytes : List ℕ) → length bytes ≡ 16 → length (registers_at bytes) ≡ 7
seven_registers bytes len = omega (arith, length-take 7 (drop 1 bytes), length-drop 1 bytes)

-- the parts of what was read of the 16 bytes
pub record IsReadFrom (bytes : List ℕ) (r : Reading) : Type 0 where
  pub registers : r.registers ≡ registers_at bytes
  pub imm : r.imm ≡ number_at bytes 8 4
  pub target : r.target ≡ number_at bytes 12 4
  pub places : r.places ≡ drop 8 bytes

as_read : (bytes : List ℕ) (r : Reading) → IsReadFrom bytes r → r ≡ reading_of bytes
as_read bytes r e = λ i. record { registers = e.registers i; imm = e.imm i; target = e.target i; places = e.places i }

-- an instruction that has the fields that were read has the bytes
pub row_bytes-read : (bytes : List ℕ) (opcode : ℕ) (l : Layout) (r : Reading) (spelled : List ℕ) → length bytes ≡ 16 → IsBytes bytes
    → opcode ≡ slice_index bytes 0 → IsReadFrom bytes r → is_unused_zero l r ≡ true → spelled ≡ row_bytes opcode l r → spelled ≡ bytes
row_bytes-read bytes opcode l r spelled len fits first from unused e =
    let read = as_read bytes r from in
    let clear : is_unused_zero l (reading_of bytes) ≡ true = sym (ap (is_unused_zero l) read) ∙ unused in
    e ∙ (λ i. row_bytes (first i) l (read i))
    ∙ row_bytes-unused (slice_index bytes 0) l (reading_of bytes) (seven_registers bytes len) (has_numbers bytes len fits) clear ∙ bytes_are_read bytes len

-- ---- faults

pub instr_fault-unknown : (v : Version) (raw : Bool) (bytes : List ℕ) → layout_at v (slice_index bytes 0) ≡ None
    → instr_fault v raw bytes ≡ then_some (not raw) faults.UnknownOp
unfolding instr_fault
instr_fault-unknown v raw bytes h = ap (fault_by raw (reading_of bytes)) h

-- registers that aren't there, in their fields or in the last eight bytes
pub instr_fault-register : (v : Version) (raw : Bool) (bytes : List ℕ) (l : Layout) → layout_at v (slice_index bytes 0) ≡ Some l
    → are_registers (registers_at bytes) ≡ false
    → instr_fault v raw bytes ≡ Some faults.BadRegister
unfolding instr_fault
instr_fault-register v raw bytes l h bad = ap (fault_by raw (reading_of bytes)) h ∙ rw bad refl

pub instr_fault-named : (v : Version) (raw : Bool) (bytes : List ℕ) (l : Layout) (r : Reading) → layout_at v (slice_index bytes 0) ≡ Some l
    → are_registers (registers_at bytes) ≡ true → IsReadFrom bytes r → names_registers l.ending r ≡ false → instr_fault v raw bytes ≡ Some faults.BadRegister
unfolding instr_fault
instr_fault-named v raw bytes l r h good from bad =
    let read = as_read bytes r from in
    let missing : names_registers l.ending (reading_of bytes) ≡ false = sym (ap (names_registers l.ending) read) ∙ bad in
    ap (fault_by raw (reading_of bytes)) h ∙ rw (good, missing) refl

pub first_some-one : (f : Option DecodeFault) → first_some (f ∷ []) ≡ f
first_some-one None = refl
first_some-one (Some f) = refl

-- with registers in their range, a fault is a set field that isn't used
pub instr_fault-known : (v : Version) (raw : Bool) (bytes : List ℕ) (l : Layout) (r : Reading) (unused : Bool) → layout_at v (slice_index bytes 0) ≡ Some l
    → are_registers (registers_at bytes) ≡ true
    → IsReadFrom bytes r → names_registers l.ending r ≡ true → is_unused_zero l r ≡ unused → instr_fault v raw bytes ≡ then_some (not unused) faults.UnusedField
unfolding instr_fault
instr_fault-known v raw bytes l r unused h good from named e =
    let read = as_read bytes r from in
    let there : names_registers l.ending (reading_of bytes) ≡ true = sym (ap (names_registers l.ending) read) ∙ named in
    let same : is_unused_zero l (reading_of bytes) ≡ unused = sym (ap (is_unused_zero l) read) ∙ e in
    ap (fault_by raw (reading_of bytes)) h ∙ rw (good, there, same) (first_some-one (then_some (not unused) faults.UnusedField))

pub IfSome-at : {A : Type 0} (o : Option A) (P : A → Type 0) (x : A) → o ≡ Some x → IfSome o P → P x
IfSome-at None P x e h = absurd cc
IfSome-at (Some y) P x e h = let same : y ≡ x = cc in subst P same h

-- bytes of an unknown opcode are in range under the raw mark
pub unknown_in_range : (v : Version) (raw : Bool) (bytes : List ℕ) → raw ≡ true → length bytes ≡ 16 → IsBytes bytes → layout_at v (slice_index bytes 0) ≡ None
    → is_instr_in_range v raw (instr.Unknown bytes) ≡ true
unknown_in_range v raw bytes marked len fits unknown =
    and_from _ _ marked (and_from _ _ (eq-eqb (length bytes) 16 len) (and_from _ _ (list_all-from_IsBytes bytes fits) (rw unknown refl)))
