use Rattle.zl_abs.proofs.Common.{drop, imm_bounds, least_from, ◌≡◌}
use Rattle.zl_abs.proofs.round_up.least_in_code.Given as goal

abbrev pub invariant-loop-instr : goal.invariant-loop-instr
invariant-loop-instr l = least_from l.number l.fn.best (imm_bounds l.code) ≡ least_from l.number l.best (imm_bounds (drop l.instr-index l.code))
