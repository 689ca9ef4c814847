use Rattle.zl_abs.proofs.Common.{bounds_of, drop, imm_bounds, ◌++◌, ◌≡◌}
use Rattle.zl_abs.proofs.bounds.gathered.Given as goal

abbrev pub invariant-loop-instr : goal.invariant-loop-instr
invariant-loop-instr l = l.bounds.items ++ imm_bounds (drop l.instr-index l.code) ≡ bounds_of l.code
