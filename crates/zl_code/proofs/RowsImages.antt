-- The table of instructions, and images with declarations and messages, by computation.
use Rattle.zl_code.specs.Blocks.{all_nest, all_stay, blocks_at}
use Rattle.zl_code.specs.Image.{blank_image}
use Rattle.zl_code.proofs.Common.{DecodeFault, Image, List, None, Some, Spells, [], first_fault, header_fault, instr_fault, length, list_all}
use Rattle.zl_code.proofs.Common.{local_parts, map, nat_le, pieces, refl, replicate, rights_of, row_of, rows, slice_set, slot_fault, start_fault, suc, true}
use Rattle.zl_code.proofs.Common.{zero, ℕ, ◌++◌, ◌+◌, ◌∷◌, ◌≡◌}
use Rattle.zl_rights.specs.declared.kind.Kind.TheVariants as kind
use Rattle.zl_rights.specs.declared.policy.Condition.TheVariants as condition
use Rattle.zl_code.specs.declared.image.DecodeFault.TheVariants as fault
use Rattle.zl_code.specs.declared.instr.Instr.TheVariants as instr
use Rattle.zl_code.specs.declared.instr.LocalInstr.TheVariants as local
use Rattle.zl_code.specs.declared.history.CallName.TheVariants as name
use Rattle.zl_code.proofs.Called.{called, sending}

-- ---- the table

abbrev numbers_from : ℕ → ℕ → List ℕ
numbers_from first zero = []
numbers_from first (suc n) = first ∷ numbers_from (first + 1) n

rows_of_the_table :
    -- 27 local instructions and 27 calls, in the order of their opcodes.
    (map (λ r. r.opcode) rows ≡ numbers_from 1 27 ++ numbers_from 64 27)
    -- None uses more than seven registers.
    × (list_all (λ r. nat_le (length r.fields) 7) rows ≡ true)
rows_of_the_table = (refl, refl)

-- ---- an image that declares something

-- four of the five needs, an event to signal and to wait for, 256 places for any handle, and swap r1, r2, 0
abbrev declared : List ℕ
declared =
    0x5a ∷ 0x4c ∷ 0x41 ∷ 0x42 ∷ 1 ∷ 0 ∷ 1 ∷ 0 ∷ 0 ∷ 0 ∷ 0 ∷ 0 ∷ 100 ∷ 0 ∷ 0 ∷ 0 ∷ 0x1b ∷ 1 ∷ 1 ∷ 0 ∷ 5 ∷ 0 ∷ 0 ∷ 0 ∷ 0 ∷ 0x50 ∷ 0 ∷ 0
    ∷ 0 ∷ 0 ∷ 0 ∷ 1 ∷ 0x0f ∷ 0xf6 ∷ 3 ∷ 0 ∷ 12 ∷ 1 ∷ 2 ∷ replicate 13 0

abbrev declared_image : Image
declared_image = record blank_image {
  budget = 100;
  needs = condition.NewChannel ∷ condition.NewEvent ∷ condition.NewPort ∷ condition.NewProcess ∷ [];
  starts = record { kind = Some kind.Event; rights = rights_of 0x5000 } ∷ [];
  slots = record { kind = None; length = 256; rights = rights_of 0x3f60f } ∷ [];
  code = instr.Local (local.Swap 1 2 0) ∷ [];
}

declared_spelled : Spells declared declared_image
unfolding local_parts all_nest all_stay blocks_at
declared_spelled = record { same = refl; in_range = refl }

-- the fault that is met first
abbrev FirstIs : List ℕ → DecodeFault → Type 0
FirstIs bytes f = first_fault bytes ≡ Some f

-- ---- faults of declarations

rows_of_faults_of_declarations :
    -- The list of start handles is shorter than the header says.
    (FirstIs (slice_set declared 17 2) fault.Length)
    -- No kind has number 2.
    × (FirstIs (slice_set declared 20 2) fault.BadHeader)
    -- An event's default rights don't have READ.
    × (FirstIs (slice_set declared 24 4) fault.BadHeader)
    -- A byte of a start handle that is always 0.
    × (FirstIs (slice_set declared 22 1) fault.BadHeader)
    -- A slot array has 1 to 256 places.
    × (FirstIs (slice_set declared 31 0) fault.BadHeader)
unfolding first_fault header_fault start_fault slot_fault instr_fault pieces row_of
rows_of_faults_of_declarations = (refl, refl, refl, refl, refl)

many_places : FirstIs (slice_set declared 30 1) fault.BadHeader
unfolding first_fault header_fault start_fault slot_fault instr_fault pieces row_of
many_places = refl

rows_of_faults_of_declarations_2 :
    -- For any kind just the known rights may be declared.
    (FirstIs (slice_set declared 34 7) fault.BadHeader)
    -- Declarations come before instructions.
    × (FirstIs (slice_set (slice_set declared 34 7) 36 99) fault.BadHeader)
unfolding first_fault header_fault start_fault slot_fault instr_fault pieces row_of
rows_of_faults_of_declarations_2 = (refl, refl)

-- ---- messages

-- chan_write of the handles in registers 5 and 6, and chan_read_etc with room for 8 handles
abbrev messages : List ℕ
messages =
    0x5a ∷ 0x4c ∷ 0x41 ∷ 0x42 ∷ 1 ∷ 0 ∷ 2 ∷ 0 ∷ 0 ∷ 0 ∷ 0 ∷ 0 ∷ 100 ∷ 0 ∷ 0 ∷ 0 ∷ 0 ∷ 0 ∷ 0 ∷ 0 ∷ 68 ∷ 1 ∷ 2 ∷ 3 ∷ 4 ∷ 0 ∷ 0 ∷ 0 ∷ 5 ∷ 6 ∷ replicate 6 255
    ++ 69 ∷ 1 ∷ 2 ∷ 3 ∷ 4 ∷ 5 ∷ 6 ∷ 8 ∷ 8 ∷ replicate 7 0

messages_spelled : Spells messages (record declared_image {
  needs = [];
  starts = [];
  slots = [];
  code = instr.Call (sending (1 ∷ 2 ∷ 3 ∷ 4 ∷ []) (5 ∷ 6 ∷ [])) ∷ instr.Call (called name.ChanReadEtc (1 ∷ 2 ∷ 3 ∷ 4 ∷ 5 ∷ 6 ∷ 8 ∷ []) 8) ∷ [];
})
unfolding all_nest all_stay blocks_at
messages_spelled = record { same = refl; in_range = refl }

rows_of_messages :
    -- A place is a register or ff.
    (FirstIs (slice_set messages 31 254) fault.BadRegister)
    -- No register stands behind an ff.
    × (FirstIs (slice_set messages 31 7) fault.UnusedField)
    -- Eight triples from register 9 on would need register 32.
    × (FirstIs (slice_set messages 43 9) fault.BadRegister)
    -- There is room for 8 handles at most.
    × (FirstIs (slice_set (slice_set messages 43 0) 44 9) fault.BadRegister)
unfolding first_fault header_fault start_fault slot_fault instr_fault pieces row_of
rows_of_messages = (refl, refl, refl, refl)
