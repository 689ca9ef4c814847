-- Each instruction in turn: its 16 bytes have no fault, and it is read from them again.
use Rattle.zl_code.proofs.Common.{Bool, CallInstr, Instr, Layout, List, LocalInstr, None, Option, Some, [], and_parts, ap, are_registers, bytes_of, eqb-true}
use Rattle.zl_code.proofs.Common.{if◌then◌else◌, instr_bytes, instr_fault, is_32_bits, is_call_in_range, is_instr_in_range, is_local_in_range, is_some}
use Rattle.zl_code.proofs.Common.{layout_of, length, list_all, local_parts, ltb-true, nat_lt, not, number_at, number_of, refl, row_of, slice_index, true, ℕ}
use Rattle.zl_code.proofs.Common.{◌&&◌, ◌==◌, ◌∙◌, ◌∷◌, ◌≡◌}
use Rattle.zl_code.proofs.Common.{call_row, fault_by, reading_of}
use Rattle.zl_code.specs.Instructions.{is_known, layout_at}
use Rattle.zl_code.specs.declared.image.Version.{Version}
use Rattle.zl_code.specs.declared.instr.Instr.TheVariants as instr
use Rattle.zl_code.specs.declared.instr.LocalInstr.TheVariants as local
use Rattle.zl_code.proofs.ImageBytes.{number_of-bytes_of}
use Rattle.zl_code.proofs.ImageCalls.{whole, length_whole, no_fault, layout_is, not_local, call_at, call_again}
use Rattle.zl_code.proofs.ImageInstr.{instr_fault-unknown}

-- the local instruction of a known opcode with registers a to c, imm and target
known_local : ℕ → ℕ → ℕ → ℕ → ℕ → ℕ → LocalInstr
known_local opcode a b c imm target =
    if opcode == 1 then local.Const a imm else if opcode == 2 then local.Move a b else if opcode == 3 then local.Add a b c
    else if opcode == 4 then local.AddNumber a b imm else if opcode == 5 then local.Subtract a b c else if opcode == 6 then local.And a b c
    else if opcode == 7 then local.Or a b c else if opcode == 8 then local.Xor a b c else if opcode == 9 then local.ShiftLeft a b imm
    else if opcode == 10 then local.ShiftRight a b imm else if opcode == 11 then local.Take a b else if opcode == 12 then local.Swap a b imm
    else if opcode == 13 then local.LoadByte a b imm else if opcode == 14 then local.LoadWord a b imm else if opcode == 15 then local.StoreByte a b imm
    else if opcode == 16 then local.StoreWord a b imm else if opcode == 17 then local.Jump target else if opcode == 18 then local.JumpZero a target
    else if opcode == 19 then local.JumpNotZero a target else if opcode == 20 then local.JumpEqual a imm target
    else if opcode == 21 then local.JumpNotEqual a imm target else if opcode == 22 then local.JumpBelow a imm target
    else if opcode == 23 then local.JumpNotBelow a imm target else if opcode == 24 then local.JumpHas a imm target
    else if opcode == 25 then local.JumpHasNot a imm target else if opcode == 26 then local.Rep imm target else local.EndRep target

-- the instruction of a known opcode that has these bytes
read_known : List ℕ → Instr
read_known bytes =
    let at : ℕ → ℕ = slice_index bytes in
    if nat_lt (at 0) 64 then instr.Local (known_local (at 0) (at 1) (at 2) (at 3) (number_at bytes 8 4) (number_at bytes 12 4)) else instr.Call (call_at bytes)

-- the instruction of the version that has these bytes
pub read_instr : Version → List ℕ → Instr
read_instr v bytes = if is_some (layout_at v (slice_index bytes 0)) then read_known bytes else instr.Unknown bytes

-- what an instruction in range keeps, where its opcode is known
record FitsRow (raw : Bool) (i : Instr) : Type 0 where
  len : length (instr_bytes i) ≡ 16
  there : is_some (layout_of (slice_index (instr_bytes i) 0)) ≡ true
  fault : fault_by raw (reading_of (instr_bytes i)) (layout_of (slice_index (instr_bytes i) 0)) ≡ None
  again : read_known (instr_bytes i) ≡ i

-- what it keeps in its version
pub record Fits (v : Version) (raw : Bool) (i : Instr) : Type 0 where
  pub len : length (instr_bytes i) ≡ 16
  pub fault : instr_fault v raw (instr_bytes i) ≡ None
  pub again : read_instr v (instr_bytes i) ≡ i

known_fits : (v : Version) (raw : Bool) (i : Instr) → is_known v (slice_index (instr_bytes i) 0) ≡ true → FitsRow raw i → Fits v raw i
unfolding instr_fault read_instr
known_fits v raw i known f = record { len = f.len; fault = rw known f.fault; again = rw (known, f.there) f.again }

-- the number of the bytes of a number of 32 bits is that number
pub word_again : (n : ℕ) → is_32_bits n ≡ true → number_of (bytes_of 4 n) ≡ n
word_again n h = number_of-bytes_of 4 n (ltb-true _ _ h)

-- the ranges of the registers rs, and of imm or target or both
imm_and : (imm : ℕ) (rs : List ℕ) → (is_32_bits imm && true) && are_registers rs ≡ true → (is_32_bits imm ≡ true) × (are_registers rs ≡ true)
imm_and imm rs h = let p = and_parts (is_32_bits imm && true) (are_registers rs) h in ((and_parts (is_32_bits imm) true p.0).0, p.1)

pub target_and : (target : ℕ) (rs : List ℕ) → is_32_bits target && are_registers rs ≡ true → (is_32_bits target ≡ true) × (are_registers rs ≡ true)
target_and target rs h = and_parts (is_32_bits target) (are_registers rs) h

pub both_and : (imm target : ℕ) (rs : List ℕ) → (is_32_bits imm && is_32_bits target) && are_registers rs ≡ true
    → (is_32_bits imm ≡ true) × (is_32_bits target ≡ true) × (are_registers rs ≡ true)
both_and imm target rs h =
    let p = and_parts (is_32_bits imm && is_32_bits target) (are_registers rs) h in
    let q = and_parts (is_32_bits imm) (is_32_bits target) p.0 in
    (q.0, q.1, p.1)

local_fits : (raw : Bool) (i : LocalInstr) → is_local_in_range i ≡ true → FitsRow raw (instr.Local i)
unfolding local_parts row_of read_known known_local
local_fits raw (local.Const a imm) h =
    let p = imm_and imm (a ∷ []) h in
    record { len = refl; there = refl; fault = rw p.1 refl; again = ap (λ n. instr.Local (local.Const a n)) (word_again imm p.0) }
local_fits raw (local.Move a b) h = record { len = refl; there = refl; fault = rw h refl; again = refl }
local_fits raw (local.Add a b c) h = record { len = refl; there = refl; fault = rw h refl; again = refl }
local_fits raw (local.AddNumber a b imm) h =
    let p = imm_and imm (a ∷ b ∷ []) h in
    record { len = refl; there = refl; fault = rw p.1 refl; again = ap (λ n. instr.Local (local.AddNumber a b n)) (word_again imm p.0) }
local_fits raw (local.ShiftLeft a b imm) h =
    let p = imm_and imm (a ∷ b ∷ []) h in
    record { len = refl; there = refl; fault = rw p.1 refl; again = ap (λ n. instr.Local (local.ShiftLeft a b n)) (word_again imm p.0) }
local_fits raw (local.ShiftRight a b imm) h =
    let p = imm_and imm (a ∷ b ∷ []) h in
    record { len = refl; there = refl; fault = rw p.1 refl; again = ap (λ n. instr.Local (local.ShiftRight a b n)) (word_again imm p.0) }
local_fits raw (local.Take a b) h = record { len = refl; there = refl; fault = rw h refl; again = refl }
local_fits raw (local.Swap a b imm) h =
    let p = imm_and imm (a ∷ b ∷ []) h in
    record { len = refl; there = refl; fault = rw p.1 refl; again = ap (λ n. instr.Local (local.Swap a b n)) (word_again imm p.0) }
local_fits raw (local.LoadByte a b imm) h =
    let p = imm_and imm (a ∷ b ∷ []) h in
    record { len = refl; there = refl; fault = rw p.1 refl; again = ap (λ n. instr.Local (local.LoadByte a b n)) (word_again imm p.0) }
local_fits raw (local.LoadWord a b imm) h =
    let p = imm_and imm (a ∷ b ∷ []) h in
    record { len = refl; there = refl; fault = rw p.1 refl; again = ap (λ n. instr.Local (local.LoadWord a b n)) (word_again imm p.0) }
local_fits raw (local.StoreByte a b imm) h =
    let p = imm_and imm (a ∷ b ∷ []) h in
    record { len = refl; there = refl; fault = rw p.1 refl; again = ap (λ n. instr.Local (local.StoreByte a b n)) (word_again imm p.0) }
local_fits raw (local.StoreWord a b imm) h =
    let p = imm_and imm (a ∷ b ∷ []) h in
    record { len = refl; there = refl; fault = rw p.1 refl; again = ap (λ n. instr.Local (local.StoreWord a b n)) (word_again imm p.0) }
local_fits raw (local.Jump target) h =
    let p = target_and target [] h in
    record { len = refl; there = refl; fault = refl; again = ap (λ n. instr.Local (local.Jump n)) (word_again target p.0) }
local_fits raw (local.JumpZero a target) h =
    let p = target_and target (a ∷ []) h in
    record { len = refl; there = refl; fault = rw p.1 refl; again = ap (λ n. instr.Local (local.JumpZero a n)) (word_again target p.0) }
local_fits raw (local.JumpNotZero a target) h =
    let p = target_and target (a ∷ []) h in
    record { len = refl; there = refl; fault = rw p.1 refl; again = ap (λ n. instr.Local (local.JumpNotZero a n)) (word_again target p.0) }
local_fits raw (local.JumpEqual a imm target) h =
    let p = both_and imm target (a ∷ []) h in
    record { len = refl; there = refl; fault = rw p.2 refl; again = λ k. instr.Local (local.JumpEqual a (word_again imm p.0 k) (word_again target p.1 k)) }
local_fits raw (local.JumpNotEqual a imm target) h =
    let p = both_and imm target (a ∷ []) h in
    record { len = refl; there = refl; fault = rw p.2 refl; again = λ k. instr.Local (local.JumpNotEqual a (word_again imm p.0 k) (word_again target p.1 k)) }
local_fits raw (local.JumpBelow a imm target) h =
    let p = both_and imm target (a ∷ []) h in
    record { len = refl; there = refl; fault = rw p.2 refl; again = λ k. instr.Local (local.JumpBelow a (word_again imm p.0 k) (word_again target p.1 k)) }
local_fits raw (local.JumpNotBelow a imm target) h =
    let p = both_and imm target (a ∷ []) h in
    record { len = refl; there = refl; fault = rw p.2 refl; again = λ k. instr.Local (local.JumpNotBelow a (word_again imm p.0 k) (word_again target p.1 k)) }
local_fits raw (local.JumpHas a imm target) h =
    let p = both_and imm target (a ∷ []) h in
    record { len = refl; there = refl; fault = rw p.2 refl; again = λ k. instr.Local (local.JumpHas a (word_again imm p.0 k) (word_again target p.1 k)) }
local_fits raw (local.JumpHasNot a imm target) h =
    let p = both_and imm target (a ∷ []) h in
    record { len = refl; there = refl; fault = rw p.2 refl; again = λ k. instr.Local (local.JumpHasNot a (word_again imm p.0 k) (word_again target p.1 k)) }
local_fits raw (local.Rep imm end) h =
    let p = both_and imm end [] h in
    record { len = refl; there = refl; fault = refl; again = λ k. instr.Local (local.Rep (word_again imm p.0 k) (word_again end p.1 k)) }
local_fits raw (local.EndRep rep) h =
    let p = target_and rep [] h in
    record { len = refl; there = refl; fault = refl; again = ap (λ n. instr.Local (local.EndRep n)) (word_again rep p.0) }
local_fits raw _ h = record { len = refl; there = refl; fault = rw h refl; again = refl }

call_fits : (raw : Bool) (i : CallInstr) → is_call_in_range i ≡ true → FitsRow raw (instr.Call i)
unfolding read_known
call_fits raw i h =
    let w = whole i h in
    record {
      len = length_whole i w;
      there = rw (layout_is i.name) refl;
      fault = no_fault raw i w;
      again = rw (not_local i.name) (ap instr.Call (call_again i w));
    }

not_some : (o : Option Layout) → not (is_some o) ≡ true → o ≡ None
not_some None h = refl
not_some (Some r) h = absurd cc

-- what the version doesn't know is none of the known
unknown_again : (v : Version) (bytes : List ℕ) → layout_at v (slice_index bytes 0) ≡ None → read_instr v bytes ≡ instr.Unknown bytes
unfolding read_instr
unknown_again v bytes h = rw h refl

local_known : (v : Version) (i : LocalInstr) → is_known v (local_parts i).opcode && is_local_in_range i ≡ true
    → (is_known v (local_parts i).opcode ≡ true) × (is_local_in_range i ≡ true)
local_known v i h = and_parts (is_known v (local_parts i).opcode) (is_local_in_range i) h

pub instr_fits : (v : Version) (raw : Bool) (i : Instr) → is_instr_in_range v raw i ≡ true → Fits v raw i
instr_fits v raw (instr.Local i) h = let p = local_known v i h in known_fits v raw (instr.Local i) p.0 (local_fits raw i p.1)
instr_fits v raw (instr.Call i) h =
    let p = and_parts (is_known v (call_row i.name).opcode) (is_call_in_range i) h in known_fits v raw (instr.Call i) p.0 (call_fits raw i p.1)
instr_fits v raw (instr.Unknown bytes) h =
    let marked = and_parts raw ((length bytes == 16) && (list_all (λ b. nat_lt b 256) bytes && not (is_some (layout_at v (slice_index bytes 0))))) h in
    let sixteen = and_parts (length bytes == 16) (list_all (λ b. nat_lt b 256) bytes && not (is_some (layout_at v (slice_index bytes 0)))) marked.1 in
    let unknown =
    not_some (layout_at v (slice_index bytes 0))
    (and_parts (list_all (λ b. nat_lt b 256) bytes) (not (is_some (layout_at v (slice_index bytes 0)))) sixteen.1).1 in
    record {
      len = eqb-true (length bytes) 16 sixteen.0;
      fault = instr_fault-unknown v raw bytes unknown ∙ rw marked.0 refl;
      again = unknown_again v bytes unknown;
    }
