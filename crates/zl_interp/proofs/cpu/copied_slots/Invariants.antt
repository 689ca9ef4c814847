use Rattle.zl_interp.proofs.Common.{map, take, ◌≡◌}
use Rattle.zl_interp.proofs.cpu.copied_slots.Given as goal

abbrev pub invariant-loop-array : goal.invariant-loop-array
invariant-loop-array l = map (λ places. places.items) l.slots.items ≡ map (λ places. places.items) (take l.array-index l.arrays)
