use Rattle.zl_interp.proofs.Common.{drop, length, map, slice_index, take, used, ◌++◌, ◌≡◌, ◌≤◌}
use Rattle.zl_interp.proofs.cpu.Cpu.listed.Given as goal

abbrev pub invariant-loop-place : goal.invariant-loop-place
invariant-loop-place l =
    (length l.values ≡ 8) × (l.count ≤ l.place) × (map (slice_index l.self.registers) (used l.handles.places)
    ≡ take l.count l.values ++ map (slice_index l.self.registers) (used (drop l.place l.handles.places)))
