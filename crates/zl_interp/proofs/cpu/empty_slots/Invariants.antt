use Rattle.zl_interp.proofs.Common.{map, replicate, take, ◌≡◌}
use Rattle.zl_interp.proofs.cpu.empty_slots.Given as goal

abbrev pub invariant-loop-array : goal.invariant-loop-array
invariant-loop-array l = map (λ places. places.items) l.slots.items ≡ map (λ array. replicate array.length 0) (take l.array-index l.arrays)
