-- The first fault of some bytes, by computation.
use Rattle.zl_code.specs.Blocks.{all_nest, all_stay, blocks_at}
use Rattle.zl_code.proofs.Common.{DecodeFault, List, None, Some, [], first_fault, header_fault, instr_fault, pieces, refl, replicate, row_of, slice_set}
use Rattle.zl_code.proofs.Common.{slot_fault, start_fault, take, ℕ, ◌++◌, ◌∷◌, ◌≡◌}
use Rattle.zl_code.specs.declared.image.DecodeFault.TheVariants as fault

-- an image without instructions: version 1, no mark, no memory, budget 1
abbrev empty : List ℕ
empty = 0x5a ∷ 0x4c ∷ 0x41 ∷ 0x42 ∷ 1 ∷ 0 ∷ 0 ∷ 0 ∷ 0 ∷ 0 ∷ 0 ∷ 0 ∷ 1 ∷ replicate 7 0

-- the image of process_exit r0 alone; its instruction starts at byte 20
abbrev exit : List ℕ
exit = slice_set empty 6 1 ++ 0x53 ∷ replicate 15 0

-- the same with the raw mark
abbrev raw_exit : List ℕ
raw_exit = slice_set exit 5 1

-- the bytes with v at n
abbrev with_byte : ℕ → ℕ → List ℕ → List ℕ
with_byte n v bytes = slice_set bytes n v

-- the fault that is met first
abbrev FirstIs : List ℕ → DecodeFault → Type 0
FirstIs bytes f = first_fault bytes ≡ Some f

-- ---- no fault

rows_of_no_fault :
    -- An image may have no instruction.
    (first_fault empty ≡ None)
    -- An image of one instruction.
    × (first_fault exit ≡ None)
unfolding first_fault header_fault start_fault slot_fault instr_fault pieces row_of all_nest all_stay blocks_at
rows_of_no_fault = (refl, refl)

-- ---- one fault

rows_of_one_fault :
    -- Nothing at all is too short.
    (FirstIs [] fault.Short)
    -- 19 bytes are no header.
    × (FirstIs (take 19 exit) fault.Short)
    -- The header alone lacks its instruction.
    × (FirstIs (take 20 exit) fault.Length)
    -- The last byte is missing.
    × (FirstIs (take 35 exit) fault.Length)
    -- There is a byte behind the last instruction.
    × (FirstIs (exit ++ 0 ∷ []) fault.Length)
    -- The last byte of the magic is another.
    × (FirstIs (with_byte 3 0x43 exit) fault.Magic)
    -- The version is 3.
    × (FirstIs (with_byte 4 3 exit) fault.Version)
    -- The version is 0.
    × (FirstIs (with_byte 4 0 exit) fault.Version)
    -- Version 2 is one.
    × (first_fault (with_byte 4 2 exit) ≡ None)
    -- The budget is 0.
    × (FirstIs (with_byte 12 0 exit) fault.BadHeader)
    -- The budget is 1,000,001, one above the largest.
    × (FirstIs (with_byte 12 0x41 (with_byte 13 0x42 (with_byte 14 0x0f exit))) fault.BadHeader)
    -- The largest budget, 1,000,000.
    × (first_fault (with_byte 12 0x40 (with_byte 13 0x42 (with_byte 14 0x0f exit))) ≡ None)
    -- The memory is 65,537 bytes, one above the largest.
    × (FirstIs (with_byte 8 1 (with_byte 10 1 exit)) fault.BadHeader)
    -- The raw mark is 2.
    × (FirstIs (with_byte 5 2 exit) fault.BadHeader)
    -- Bit 5 of the needs stands for nothing.
    × (FirstIs (with_byte 16 32 exit) fault.BadHeader)
    -- Bit 2 stands for event pairs.
    × (first_fault (with_byte 16 4 exit) ≡ None)
    -- No instruction has opcode 26.
    × (FirstIs (with_byte 20 26 exit) fault.UnknownOp)
    -- Under the raw mark it may stand, whatever its other bytes are.
    × (first_fault (with_byte 20 26 (with_byte 21 32 (with_byte 35 9 raw_exit))) ≡ None)
    -- There is no register 32.
    × (FirstIs (with_byte 21 32 exit) fault.BadRegister)
    -- The raw mark doesn't help against that.
    × (FirstIs (with_byte 21 32 raw_exit) fault.BadRegister)
    -- Register 31 is the last.
    × (first_fault (with_byte 21 31 exit) ≡ None)
    -- process_exit has one register, and the field of the second is set.
    × (FirstIs (with_byte 22 1 exit) fault.UnusedField)
    -- process_exit has no number, and its field is set.
    × (FirstIs (with_byte 28 1 exit) fault.UnusedField)
    -- process_exit has no target, and the last byte of its field is set.
    × (FirstIs (with_byte 35 1 exit) fault.UnusedField)
unfolding first_fault header_fault start_fault slot_fault instr_fault pieces row_of all_nest all_stay blocks_at
rows_of_one_fault =
    (refl, refl, refl, refl, refl, refl, refl, refl, refl, refl, refl, refl, refl, refl, refl, refl, refl, refl, refl, refl, refl, refl, refl, refl)

-- process_exit's place taken by the opcode, in version 2
abbrev in_two : ℕ → List ℕ
in_two opcode = with_byte 4 2 (with_byte 20 opcode exit)

rows_of_later_calls :
    -- Version 1 knows no call behind eventpair_create.
    (FirstIs (with_byte 20 88 exit) fault.UnknownOp)
    × (FirstIs (with_byte 20 89 exit) fault.UnknownOp)
    × (FirstIs (with_byte 20 90 exit) fault.UnknownOp)
    -- Version 2 knows three.
    × (first_fault (in_two 88) ≡ None)
    × (first_fault (in_two 89) ≡ None)
    × (first_fault (in_two 90) ≡ None)
    × (FirstIs (in_two 91) fault.UnknownOp)
    -- Two of them have the number of a slot array, and no target.
    × (first_fault (with_byte 28 1 (in_two 88)) ≡ None)
    × (first_fault (with_byte 28 1 (in_two 89)) ≡ None)
    × (FirstIs (with_byte 32 1 (in_two 88)) fault.UnusedField)
    × (FirstIs (with_byte 32 1 (in_two 89)) fault.UnusedField)
    -- The third has no number.
    × (FirstIs (with_byte 28 1 (in_two 90)) fault.UnusedField)
unfolding first_fault header_fault start_fault slot_fault instr_fault pieces row_of all_nest all_stay blocks_at
rows_of_later_calls = (refl, refl, refl, refl, refl, refl, refl, refl, refl, refl, refl, refl)

-- ---- two faults at once

rows_of_two_faults_at_once :
    -- Short before magic.
    (FirstIs (take 19 (with_byte 0 0 exit)) fault.Short)
    -- Magic before version.
    × (FirstIs (with_byte 0 0 (with_byte 4 3 exit)) fault.Magic)
    -- Version before the fields of the header.
    × (FirstIs (with_byte 4 3 (with_byte 12 0 exit)) fault.Version)
    -- The fields of the header before the length.
    × (FirstIs (with_byte 12 0 (take 35 exit)) fault.BadHeader)
    -- The length before an instruction.
    × (FirstIs (with_byte 20 26 (take 35 exit)) fault.Length)
    -- The opcode before the registers.
    × (FirstIs (with_byte 20 26 (with_byte 21 32 exit)) fault.UnknownOp)
    -- Registers before unused fields; a field that isn't used is no register above 31 either.
    × (FirstIs (with_byte 21 1 (with_byte 22 32 exit)) fault.BadRegister)
    -- An earlier instruction before a later one.
    × (FirstIs (with_byte 6 2 (with_byte 35 1 exit) ++ 26 ∷ replicate 15 0) fault.UnusedField)
unfolding first_fault header_fault start_fault slot_fault instr_fault pieces row_of
rows_of_two_faults_at_once = (refl, refl, refl, refl, refl, refl, refl, refl)
