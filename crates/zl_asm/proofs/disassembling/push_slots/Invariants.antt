use Rattle.zl_asm.proofs.Common.{flat_map, slot_array_text, string_bytes, take, ◌++◌, ◌≡◌}
use Rattle.zl_asm.proofs.disassembling.push_slots.Given as goal

abbrev pub invariant-loop-array : goal.invariant-loop-array
invariant-loop-array l = string_bytes l.text ≡ string_bytes l.fn.text ++ flat_map slot_array_text (take l.array-index l.slots)
