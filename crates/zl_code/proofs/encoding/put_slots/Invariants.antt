use Rattle.zl_code.proofs.Common.{flat_map, slot_bytes, take, ◌++◌, ◌≡◌}
use Rattle.zl_code.proofs.encoding.put_slots.Given as goal

abbrev pub invariant-loop-array : goal.invariant-loop-array
invariant-loop-array l = l.out.items ≡ l.fn.out.items ++ flat_map slot_bytes (take l.array-index l.slots)
