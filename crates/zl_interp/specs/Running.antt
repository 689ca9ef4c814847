-- The parts of local instructions: memory and slots. No public clause cites this module.
use Rattle.std.specs.Prelude.{ℕ, List, Option, Some, None, slice_get, slice_set, replicate}
use Rattle.zl_code.specs.Common.{Cpu, bytes_of}
use Rattle.zl_code.specs.declared.image.SlotArray.{SlotArray}
use Rattle.zl_code.specs.Local.{reg, sets, overwritten}
use Rattle.zl_interp.specs.Cpu.{register_set}

-- the n bytes of the value stand in memory from the address on
abbrev pub memory_set : Cpu → ℕ → ℕ → ℕ → Cpu
memory_set c n address value = record c { memory = overwritten c.memory address (bytes_of n value) }

-- the register holds what was in the other, which holds 0, and the next instruction stands next
abbrev pub moved : Cpu → ℕ → ℕ → Cpu
moved c destination source = register_set (sets c destination (reg c source)) source 0

-- the places of a slot array that starts: each holds 0
abbrev pub empty_places : SlotArray → List ℕ
empty_places array = replicate array.length 0

-- what is in the place of the slot array that was found
abbrev pub place_in : Option (List ℕ) → ℕ → Option ℕ
place_in None place = None
place_in (Some places) place = slice_get places place

-- what is in the place of the slot array, if both are there
abbrev pub slot_in : List (List ℕ) → ℕ → ℕ → Option ℕ
slot_in slots array place = place_in (slice_get slots array) place

-- the slot arrays with a place of the array that was found written; without one they stay
abbrev pub set_in : List (List ℕ) → ℕ → ℕ → ℕ → Option (List ℕ) → List (List ℕ)
set_in slots array place value None = slots
set_in slots array place value (Some places) = slice_set slots array (slice_set places place value)

-- the slot arrays with this value in the place
abbrev pub slot_set : List (List ℕ) → ℕ → ℕ → ℕ → List (List ℕ)
slot_set slots array place value = set_in slots array place value (slice_get slots array)
