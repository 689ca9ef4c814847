-- The image grammar: the bytes of an image, field by field, and the first fault of bytes that are no image's.
use Rattle.std.specs.Prelude.{ℕ, zero, suc, ◌≡◌, ◌+◌, ◌*◌, ◌/◌, ◌%◌, Bool, true, false, ◌&&◌, ◌||◌, not, ◌==◌, nat_lt, nat_le, List, [], ◌∷◌, ◌++◌, map, take, drop, replicate, length, slice_index, Option, Some, None, is_some, if◌then◌else◌, IsTrue}
use Rattle.std.specs.Option.{option_map}
use Rattle.std.specs.List.{flat_map, list_all, list_any, starts_with}
use Rattle.std.specs.Bool.{then_some}
use Rattle.zl_rights.specs.Common.{bits, within, default_rights_of, condition_number}
use Rattle.zl_code.specs.First.{first_some}
use Rattle.zl_rights.specs.declared.kind.Kind.{Kind}
use Rattle.zl_rights.specs.declared.policy.Condition.{Condition}
use Rattle.zl_rights.specs.declared.policy.Condition.TheVariants as condition
use Rattle.zl_rights.specs.Numbers.{all_kinds, kind_number, KNOWN_RIGHTS}
use Rattle.zl_code.specs.declared.image.DecodeFault.{DecodeFault}
use Rattle.zl_code.specs.declared.image.DecodeFault.TheVariants as fault
use Rattle.zl_code.specs.declared.image.Version.{Version}
use Rattle.zl_code.specs.declared.image.Version.TheVariants as version
use Rattle.zl_code.specs.declared.image.Start.{Start}
use Rattle.zl_code.specs.declared.image.SlotArray.{SlotArray}
use Rattle.zl_code.specs.declared.layout.Ending.{Ending}
use Rattle.zl_code.specs.declared.layout.Ending.TheVariants as ending
use Rattle.zl_code.specs.declared.instr.Instr.{Instr}
use Rattle.zl_code.specs.declared.instr.Instr.TheVariants as instr
use Rattle.zl_code.specs.declared.instr.LocalInstr.{LocalInstr}
use Rattle.zl_code.specs.declared.instr.LocalInstr.TheVariants as local
use Rattle.zl_code.specs.declared.instr.CallInstr.{CallInstr}
use Rattle.zl_code.specs.Limits.{most_instructions, most_memory, most_budget, most_starts, most_slot_arrays, most_places, register_count, most_registers, most_handles, no_register, header_length, declaration_length, instruction_length}
use Rattle.zl_code.specs.Image.{Image, is_among}
use Rattle.zl_code.specs.Instructions.{Layout, call_row, is_known, layout_at, layout_in}
use Rattle.zl_code.specs.Jumps.{jump_of}
use Rattle.zl_code.specs.Blocks.{are_blocks, marks_of}
use Rattle.zl_code.specs.declared.blocks.Mark.{Mark}
use Rattle.zl_code.specs.declared.blocks.Mark.TheVariants as mark

-- ---- numbers as bytes

-- the number of these bytes, the least first
abbrev pub number_of : List ℕ → ℕ
number_of [] = 0
number_of (b ∷ bs) = b + 256 * number_of bs

-- the n low bytes of v, the least first
abbrev pub bytes_of : ℕ → ℕ → List ℕ
bytes_of zero v = []
bytes_of (suc n) v = v % 256 ∷ bytes_of n (v / 256)

-- the number in the bytes from the offset on
abbrev pub number_at : List ℕ → ℕ → ℕ → ℕ
number_at bytes offset n = number_of (take n (drop offset bytes))

-- ---- the parts of a local instruction

-- what the 16 bytes of a local instruction are made of
pub record Parts : Type 0 where
  pub opcode : ℕ
  -- the registers that are used, from the first on
  pub registers : List ℕ
  -- the number and the target in the last eight bytes
  pub imm : ℕ
  pub target : ℕ

-- the parts one by one
abbrev pub parts : ℕ → List ℕ → ℕ → ℕ → Parts
parts opcode registers imm target = record { opcode = opcode; registers = registers; imm = imm; target = target }

-- the parts of each local instruction, in the order of the table; what it has no use for is 0
unfoldable pub local_parts : LocalInstr → Parts
local_parts (local.Const a imm) = parts 1 (a ∷ []) imm 0
local_parts (local.Move a b) = parts 2 (a ∷ b ∷ []) 0 0
local_parts (local.Add a b c) = parts 3 (a ∷ b ∷ c ∷ []) 0 0
local_parts (local.AddNumber a b imm) = parts 4 (a ∷ b ∷ []) imm 0
local_parts (local.Subtract a b c) = parts 5 (a ∷ b ∷ c ∷ []) 0 0
local_parts (local.And a b c) = parts 6 (a ∷ b ∷ c ∷ []) 0 0
local_parts (local.Or a b c) = parts 7 (a ∷ b ∷ c ∷ []) 0 0
local_parts (local.Xor a b c) = parts 8 (a ∷ b ∷ c ∷ []) 0 0
local_parts (local.ShiftLeft a b imm) = parts 9 (a ∷ b ∷ []) imm 0
local_parts (local.ShiftRight a b imm) = parts 10 (a ∷ b ∷ []) imm 0
local_parts (local.Take a b) = parts 11 (a ∷ b ∷ []) 0 0
local_parts (local.Swap a b imm) = parts 12 (a ∷ b ∷ []) imm 0
local_parts (local.LoadByte a b imm) = parts 13 (a ∷ b ∷ []) imm 0
local_parts (local.LoadWord a b imm) = parts 14 (a ∷ b ∷ []) imm 0
local_parts (local.StoreByte a b imm) = parts 15 (a ∷ b ∷ []) imm 0
local_parts (local.StoreWord a b imm) = parts 16 (a ∷ b ∷ []) imm 0
local_parts (local.Jump target) = parts 17 [] 0 target
local_parts (local.JumpZero a target) = parts 18 (a ∷ []) 0 target
local_parts (local.JumpNotZero a target) = parts 19 (a ∷ []) 0 target
local_parts (local.JumpEqual a imm target) = parts 20 (a ∷ []) imm target
local_parts (local.JumpNotEqual a imm target) = parts 21 (a ∷ []) imm target
local_parts (local.JumpBelow a imm target) = parts 22 (a ∷ []) imm target
local_parts (local.JumpNotBelow a imm target) = parts 23 (a ∷ []) imm target
local_parts (local.JumpHas a imm target) = parts 24 (a ∷ []) imm target
local_parts (local.JumpHasNot a imm target) = parts 25 (a ∷ []) imm target
local_parts (local.Rep imm target) = parts 26 [] imm target
local_parts (local.EndRep target) = parts 27 [] 0 target

-- ---- the bytes of an instruction

-- the seven registers, 0 where none is used
abbrev pub seven : List ℕ → List ℕ
seven registers = take most_registers (registers ++ replicate most_registers 0)

-- opcode, seven registers, imm, target
abbrev pub fields : ℕ → List ℕ → ℕ → ℕ → List ℕ
fields opcode registers imm target = opcode ∷ (seven registers ++ (bytes_of 4 imm ++ bytes_of 4 target))

-- the 16 bytes of a local instruction
abbrev pub local_bytes : LocalInstr → List ℕ
local_bytes i = let p = local_parts i in fields p.opcode p.registers p.imm p.target

-- the 16 bytes of a system call: the opcode of its row, seven registers, and eight bytes that its row says how to read
abbrev pub call_bytes : CallInstr → List ℕ
call_bytes i = (call_row i.name).opcode ∷ (i.registers ++ i.last)

-- the 16 bytes of an instruction
abbrev pub instr_bytes : Instr → List ℕ
instr_bytes (instr.Local i) = local_bytes i
instr_bytes (instr.Call i) = call_bytes i
instr_bytes (instr.Unknown bytes) = bytes

-- ---- the ranges of an instruction

-- each names one of the 32 registers
abbrev pub are_registers : List ℕ → Bool
are_registers rs = list_all (λ r. nat_lt r register_count) rs

-- the number has 32 bits at most
abbrev pub is_32_bits : ℕ → Bool
is_32_bits n = nat_lt n 4294967296

-- room for n handles in triples of registers, from the register first on
abbrev pub is_room : ℕ → ℕ → Bool
is_room first n = nat_le n most_handles && nat_le (first + 3 * n) register_count

-- each byte is a register, or ff for none
abbrev pub are_places : List ℕ → Bool
are_places places = list_all (λ b. nat_lt b register_count || (b == no_register)) places

-- no register stands after an ff
abbrev pub is_packed : List ℕ → Bool
is_packed [] = true
is_packed (b ∷ bs) = if b == no_register then list_all (λ x. x == no_register) bs else is_packed bs

-- the register of a place, if one stands there
abbrev pub register_in : Option ℕ → Option ℕ
register_in None = None
register_in (Some b) = if nat_lt b register_count then Some b else None

-- the local instruction can stand in an image
abbrev pub is_local_in_range : LocalInstr → Bool
is_local_in_range i = let p = local_parts i in (is_32_bits p.imm && is_32_bits p.target) && are_registers p.registers

-- what is read of the 16 bytes of an instruction behind its opcode
pub record Reading : Type 0 where
  pub registers : List ℕ
  pub imm : ℕ
  pub target : ℕ
  pub places : List ℕ

-- what is read of a system call
abbrev pub call_reading : CallInstr → Reading
call_reading i = record { registers = i.registers; imm = number_at i.last 0 4; target = number_at i.last 4 4; places = i.last }

-- each register that the last eight bytes name is there
abbrev pub names_registers : Ending → Reading → Bool
names_registers ending.Room r = is_room (slice_index r.registers 6) r.imm
names_registers ending.Handles r = are_places r.places
names_registers _ r = true

-- what isn't used of the last eight bytes is 0
abbrev pub is_ending_clear : Ending → Reading → Bool
is_ending_clear ending.Nothing r = (r.imm == 0) && (r.target == 0)
is_ending_clear ending.Number r = r.target == 0
is_ending_clear ending.Room r = r.target == 0
is_ending_clear ending.FromSlots r = r.target == 0
is_ending_clear ending.IntoSlots r = r.target == 0
is_ending_clear ending.Target r = r.imm == 0
is_ending_clear ending.Both r = true
is_ending_clear ending.Handles r = is_packed r.places

-- what the layout doesn't use is 0
abbrev pub is_unused_zero : Layout → Reading → Bool
is_unused_zero l r = list_all (λ b. b == 0) (drop l.registers r.registers) && is_ending_clear l.ending r

-- the system call can stand in an image: it has its seven registers and eight bytes, and they have no fault by its row
abbrev pub is_call_in_range : CallInstr → Bool
is_call_in_range i =
    ((length i.registers == most_registers) && ((length i.last == most_handles) && list_all (λ b. nat_lt b 256) i.last))
    && (are_registers i.registers
    && (names_registers (call_row i.name).ending (call_reading i)
    && is_unused_zero (layout_in (call_row i.name)) (call_reading i)))

-- the version knows the instruction, whose fields are in their ranges; an opcode that it doesn't know stands under the
-- raw mark alone
abbrev pub is_instr_in_range : Version → Bool → Instr → Bool
is_instr_in_range v raw (instr.Local i) = is_known v (local_parts i).opcode && is_local_in_range i
is_instr_in_range v raw (instr.Call i) = is_known v (call_row i.name).opcode && is_call_in_range i
is_instr_in_range v raw (instr.Unknown bytes) =
    raw && ((length bytes == instruction_length) && (list_all (λ b. nat_lt b 256) bytes && not (is_some (layout_at v (slice_index bytes 0)))))

-- ---- declarations

-- a declared kind as a byte, 0 for any kind
abbrev pub kind_byte : Option Kind → ℕ
kind_byte None = 0
kind_byte (Some k) = kind_number k

-- the rights that a declaration of the kind may name
abbrev pub rights_allowed : Option Kind → ℕ
rights_allowed None = KNOWN_RIGHTS
rights_allowed (Some k) = default_rights_of k

-- kind, three bytes 0, rights
abbrev pub start_bytes : Start → List ℕ
start_bytes s = kind_byte s.kind ∷ 0 ∷ 0 ∷ 0 ∷ bytes_of 4 (bits s.rights)

-- kind, a byte 0, length, rights
abbrev pub slot_bytes : SlotArray → List ℕ
slot_bytes s = kind_byte s.kind ∷ 0 ∷ (bytes_of 2 s.length ++ bytes_of 4 (bits s.rights))

-- an image can declare the start handle: with rights that its kind allows
abbrev pub is_start_in_range : Start → Bool
is_start_in_range s = within (bits s.rights) (rights_allowed s.kind)

-- an image can declare the slot array: 1 to 256 places, and rights that its kind allows
abbrev pub is_slot_in_range : SlotArray → Bool
is_slot_in_range s = nat_lt 0 s.length && (nat_le s.length most_places && within (bits s.rights) (rights_allowed s.kind))

-- the bit of a need that the image has, else 0
abbrev pub bit_if : List Condition → Condition → ℕ → ℕ
bit_if needs c bit = if is_among needs c then bit else 0

-- the needs as a byte: bit 0 for channels, 1 for events, 2 for event pairs, 3 for ports, 4 for processes
abbrev pub needs_byte : List Condition → ℕ
needs_byte needs =
    bit_if needs condition.NewChannel 1 + (bit_if needs condition.NewEvent 2 + (bit_if needs condition.NewEventpair 4
    + (bit_if needs condition.NewPort 8 + bit_if needs condition.NewProcess 16)))

-- the numbers are above n, and each is above the one before
abbrev pub ascend_from : ℕ → List ℕ → Bool
ascend_from n [] = true
ascend_from n (x ∷ xs) = nat_lt n x && ascend_from x xs

-- needs are conditions of making an object of one kind, in the order of their numbers, each once
abbrev pub are_needs : List Condition → Bool
are_needs needs = ascend_from 2 (map condition_number needs)

-- ---- an image

-- 5a 4c 41 42
abbrev pub magic : List ℕ
magic = 0x5a ∷ 0x4c ∷ 0x41 ∷ 0x42 ∷ []

-- the number of a version
abbrev pub version_number : Version → ℕ
version_number version.One = 1
version_number version.Two = 2

-- the 20 bytes at the front: version, mark, count of instructions, memory, budget, needs, counts of start handles and slot arrays
abbrev pub header_bytes : Version → Bool → ℕ → ℕ → ℕ → List Condition → ℕ → ℕ → List ℕ
header_bytes v raw count memory budget needs starts slots =
    magic
    ++ ((version_number v ∷ (if raw then 1 else 0) ∷ [])
    ++ (bytes_of 2 count
    ++ (bytes_of 4 memory
    ++ (bytes_of 4 budget
    ++ (needs_byte needs ∷ starts ∷ slots ∷ 0 ∷ [])))))

-- the bytes behind the header: start handles, slot arrays, and the bytes of the instructions
abbrev pub body_bytes : List Start → List SlotArray → List ℕ → List ℕ
body_bytes starts slots code = flat_map start_bytes starts ++ (flat_map slot_bytes slots ++ code)

-- the 20 bytes at the front of the image
abbrev pub header : Image → List ℕ
header i = header_bytes i.version i.raw (length i.code) i.memory i.budget i.needs (length i.starts) (length i.slots)

-- the bytes of the image
abbrev pub spelling : Image → List ℕ
spelling i = header i ++ body_bytes i.starts i.slots (flat_map instr_bytes i.code)

-- each field is in its range
abbrev pub is_in_range : Image → Bool
is_in_range i =
    nat_le (length i.code) most_instructions
    && (nat_le i.memory most_memory
    && (nat_lt 0 i.budget
    && (nat_le i.budget most_budget
    && (are_needs i.needs
    && (nat_le (length i.starts) most_starts
    && (nat_le (length i.slots) most_slot_arrays
    && (list_all is_start_in_range i.starts
    && (list_all is_slot_in_range i.slots
    && (list_all (is_instr_in_range i.version i.raw) i.code
    && are_blocks (marks_of i.code) (map jump_of i.code))))))))))

-- the bytes are those of the image
pub record Spells (bytes : List ℕ) (i : Image) : Type 0 where
  pub same : bytes ≡ spelling i
  pub in_range : IsTrue (is_in_range i)

-- ---- the first fault of bytes

-- how many instructions the header says that there are
abbrev pub count_at : List ℕ → ℕ
count_at bytes = number_at bytes 6 2

-- how many start handles the header says that there are
abbrev pub starts_at : List ℕ → ℕ
starts_at bytes = slice_index bytes 17

-- how many slot arrays the header says that there are
abbrev pub slots_at : List ℕ → ℕ
slots_at bytes = slice_index bytes 18

-- the number is that of a version
abbrev pub is_version : ℕ → Bool
is_version n = (n == 1) || (n == 2)

-- the version of the bytes
abbrev pub version_at : List ℕ → Version
version_at bytes = if slice_index bytes 4 == 2 then version.Two else version.One

-- whether the bytes have the raw mark
abbrev pub is_raw_at : List ℕ → Bool
is_raw_at bytes = slice_index bytes 5 == 1

-- no bit but 0 to 4
abbrev pub is_needs_byte : ℕ → Bool
is_needs_byte b = nat_lt b 32

-- the fields of the header from offset 5 on are in their ranges
abbrev pub is_header_in_range : List ℕ → Bool
is_header_in_range bytes =
    nat_le (slice_index bytes 5) 1
    && (nat_le (count_at bytes) most_instructions
    && (nat_le (number_at bytes 8 4) most_memory
    && (nat_lt 0 (number_at bytes 12 4)
    && (nat_le (number_at bytes 12 4) most_budget
    && (is_needs_byte (slice_index bytes 16)
    && (nat_le (starts_at bytes) most_starts
    && (nat_le (slots_at bytes) most_slot_arrays
    && (slice_index bytes 19 == 0))))))))

-- how many bytes the header says that there are
abbrev pub length_at : List ℕ → ℕ
length_at bytes =
    header_length + declaration_length * starts_at bytes + declaration_length * slots_at bytes + instruction_length * count_at bytes

-- the first fault of the header, or a length that isn't what the header says
unfoldable pub header_fault : List ℕ → Option DecodeFault
header_fault bytes = first_some (
    then_some (nat_lt (length bytes) header_length) fault.Short
    ∷ then_some (not (starts_with ◌==◌ bytes magic)) fault.Magic
    ∷ then_some (not (is_version (slice_index bytes 4))) fault.Version
    ∷ then_some (not (is_header_in_range bytes)) fault.BadHeader
    ∷ then_some (not (length bytes == length_at bytes)) fault.Length
    ∷ [])

-- ---- the fault of a declaration

-- the first of these kinds that has the number
abbrev pub kind_among : List Kind → ℕ → Option Kind
kind_among [] n = None
kind_among (k ∷ ks) n = if kind_number k == n then Some k else kind_among ks n

-- the kind of the byte, where 0 is any, or nothing where the byte is no kind's
abbrev pub kind_at : ℕ → Option (Option Kind)
kind_at b = if b == 0 then Some None else option_map Some (kind_among all_kinds b)

-- the byte is that of a kind, or of any, with which an image can declare the rights
abbrev pub allows : Option (Option Kind) → ℕ → Bool
allows None rights = false
allows (Some k) rights = within rights (rights_allowed k)

-- a kind in the first of the 8 bytes, and in the last four rights that it allows
abbrev pub has_rights : List ℕ → Bool
has_rights bytes = allows (kind_at (slice_index bytes 0)) (number_at bytes 4 4)

-- the fault of the 8 bytes of a start handle
unfoldable pub start_fault : List ℕ → Option DecodeFault
start_fault bytes = then_some (not (list_all (λ b. b == 0) (take 3 (drop 1 bytes)) && has_rights bytes)) fault.BadHeader

-- a byte 0, and behind it the length of a slot array
abbrev pub has_length : List ℕ → Bool
has_length bytes = (slice_index bytes 1 == 0) && (nat_lt 0 (number_at bytes 2 2) && nat_le (number_at bytes 2 2) most_places)

-- the fault of the 8 bytes of a slot array
unfoldable pub slot_fault : List ℕ → Option DecodeFault
slot_fault bytes = then_some (not (has_length bytes && has_rights bytes)) fault.BadHeader

-- ---- the fault of an instruction

-- the seven registers in the 16 bytes of an instruction
abbrev pub registers_at : List ℕ → List ℕ
registers_at bytes = take most_registers (drop 1 bytes)

-- the fields of the 16 bytes, whichever of them the instruction uses
abbrev pub reading_of : List ℕ → Reading
reading_of bytes = record { registers = registers_at bytes; imm = number_at bytes 8 4; target = number_at bytes 12 4; places = drop 8 bytes }

-- the fault of an instruction by the layout of its opcode, if the version knows that; only the raw mark lets pass one that has none
abbrev pub fault_by : Bool → Reading → Option Layout → Option DecodeFault
fault_by raw r None = then_some (not raw) fault.UnknownOp
fault_by raw r (Some l) = first_some (
    then_some (not (are_registers r.registers && names_registers l.ending r)) fault.BadRegister
    ∷ then_some (not (is_unused_zero l r)) fault.UnusedField
    ∷ [])

-- the fault of the 16 bytes of an instruction
unfoldable pub instr_fault : Version → Bool → List ℕ → Option DecodeFault
instr_fault v raw bytes = fault_by raw (reading_of bytes) (layout_at v (slice_index bytes 0))

-- the last eight bytes by their ending, with 0 for what it doesn't use
abbrev pub ending_bytes : Ending → Reading → List ℕ
ending_bytes ending.Nothing r = bytes_of 4 0 ++ bytes_of 4 0
ending_bytes ending.Number r = bytes_of 4 r.imm ++ bytes_of 4 0
ending_bytes ending.Room r = bytes_of 4 r.imm ++ bytes_of 4 0
ending_bytes ending.FromSlots r = bytes_of 4 r.imm ++ bytes_of 4 0
ending_bytes ending.IntoSlots r = bytes_of 4 r.imm ++ bytes_of 4 0
ending_bytes ending.Target r = bytes_of 4 0 ++ bytes_of 4 r.target
ending_bytes ending.Both r = bytes_of 4 r.imm ++ bytes_of 4 r.target
ending_bytes ending.Handles r = r.places

-- the 16 bytes of an instruction of the layout, with 0 for what it doesn't use
abbrev pub row_bytes : ℕ → Layout → Reading → List ℕ
row_bytes opcode l r = opcode ∷ (seven (take l.registers r.registers) ++ ending_bytes l.ending r)

-- ---- the first fault of all

-- the n pieces of so many bytes
unfoldable pub pieces : ℕ → ℕ → List ℕ → List (List ℕ)
pieces size zero bytes = []
pieces size (suc n) bytes = take size bytes ∷ pieces size n (drop size bytes)

-- the bytes of each start handle
abbrev pub start_pieces : List ℕ → List (List ℕ)
start_pieces bytes = pieces declaration_length (starts_at bytes) (drop header_length bytes)

-- the bytes of each slot array
abbrev pub slot_pieces : List ℕ → List (List ℕ)
slot_pieces bytes =
    pieces declaration_length (slots_at bytes) (drop (header_length + declaration_length * starts_at bytes) bytes)

-- the bytes of each instruction
abbrev pub code_pieces : List ℕ → List (List ℕ)
code_pieces bytes =
    pieces instruction_length (count_at bytes)
    (drop (header_length + declaration_length * starts_at bytes + declaration_length * slots_at bytes) bytes)

-- what the bytes of an instruction are to blocks
abbrev pub mark_in : Version → List ℕ → Mark
mark_in version.One bytes = mark.Plain
mark_in version.Two bytes =
    if slice_index bytes 0 == 26 then mark.Rep (number_at bytes 8 4) (number_at bytes 12 4)
    else if slice_index bytes 0 == 27 then mark.EndRep (number_at bytes 12 4)
    else mark.Plain

-- the opcodes of jumps
abbrev pub jumps : List ℕ
jumps = 17 ∷ 18 ∷ 19 ∷ 20 ∷ 21 ∷ 22 ∷ 23 ∷ 24 ∷ 25 ∷ []

-- where the bytes of an instruction jump
abbrev pub jump_in : List ℕ → Option ℕ
jump_in bytes = if list_any (λ opcode. slice_index bytes 0 == opcode) jumps then Some (number_at bytes 12 4) else None

-- the bytes of the instructions keep the block rule
abbrev pub keep_blocks : Version → List (List ℕ) → Bool
keep_blocks v code = are_blocks (map (mark_in v) code) (map jump_in code)

-- the fault that is met first, where bytes spell no image
unfoldable pub first_fault : List ℕ → Option DecodeFault
first_fault bytes = first_some (
    header_fault bytes
    ∷ first_some (map start_fault (start_pieces bytes))
    ∷ first_some (map slot_fault (slot_pieces bytes))
    ∷ first_some (map (instr_fault (version_at bytes) (is_raw_at bytes)) (code_pieces bytes))
    ∷ then_some (not (keep_blocks (version_at bytes) (code_pieces bytes))) fault.BadBlock
    ∷ [])
