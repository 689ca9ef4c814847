use Rattle.zl_abs.proofs.Common.{ap, arith, drop, imm_bounds, least_from, sym, ℕ, ◌+◌, ◌∙◌}
use Rattle.zl_abs.proofs.Rounding.{code_step, code_end}
use Rattle.zl_abs.proofs.round_up.least_in_code.Goals as goal

pub loop-instr-preserved : goal.loop-instr-preserved
loop-instr-preserved c =
    c.loop-instr.invariant
    ∙ (code_step c.args.number c.loop-instr.best c.args.code.now c.loop-instr.instr-index c.instr-item.result (omega arith) c.instr-item.is
    ∙ ap (λ (b : ℕ). least_from c.args.number b (imm_bounds (drop (c.loop-instr.instr-index + 1) c.args.code.now))) (sym c.least_of-best.ensures))

pub returns : goal.returns
returns c = code_end c.args.number c.loop-instr.best c.args.code.now c.loop-instr.instr-index (omega arith) ∙ sym c.loop-instr.invariant
