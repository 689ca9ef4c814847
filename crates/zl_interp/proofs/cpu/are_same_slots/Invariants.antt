use Rattle.zl_interp.proofs.Common.{map, take, ◌≡◌}
use Rattle.zl_interp.proofs.cpu.are_same_slots.Given as goal

abbrev pub invariant-loop-n : goal.invariant-loop-n
invariant-loop-n l = map (λ places. places.items) (take l.n l.one) ≡ map (λ places. places.items) (take l.n l.other)
