use Rattle.zl_abs.proofs.Common.{ap, arith, drop, least_from, sym, ℕ, ◌+◌, ◌∙◌}
use Rattle.zl_abs.proofs.Rounding.{least_step, least_end}
use Rattle.zl_abs.proofs.round_up.least_in.Goals as goal

pub loop-bound-preserved : goal.loop-bound-preserved
loop-bound-preserved c =
    c.loop-bound.invariant ∙ (least_step c.args.number c.loop-bound.best c.args.bounds.now c.loop-bound.bound-index (omega arith)
    ∙ ap (λ (b : ℕ). least_from c.args.number b (drop (c.loop-bound.bound-index + 1) c.args.bounds.now)) (sym c.nearer-best.ensures))

pub returns : goal.returns
returns c = least_end c.args.number c.loop-bound.best c.args.bounds.now c.loop-bound.bound-index (omega arith) ∙ sym c.loop-bound.invariant
