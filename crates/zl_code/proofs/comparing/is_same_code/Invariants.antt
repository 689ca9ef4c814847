use Rattle.zl_code.proofs.Common.{flat_map, instr_bytes, take, ◌≡◌}
use Rattle.zl_code.proofs.comparing.is_same_code.Given as goal

abbrev pub invariant-loop-n : goal.invariant-loop-n
invariant-loop-n l = flat_map instr_bytes (take l.n l.one) ≡ flat_map instr_bytes (take l.n l.other)
