use Rattle.zl_abs.proofs.Common.{arith, refl, sym, ◌∙◌}
use Rattle.zl_abs.proofs.StateSteps.{below_step, below_end}
use Rattle.zl_abs.proofs.state.are_below.Goals as goal

pub returns-then-not-is_below : goal.returns-then-not-is_below
returns-then-not-is_below c =
    let step = below_step c.args.values.now c.args.others.now c.loop-i.i _ _ (omega arith) (omega arith) c.index-values-i.is c.index-others-i.is in
    sym (c.loop-i.invariant ∙ (step ∙ rw (sym c.is_below.ensures ∙ c.if-not-is_below.true) refl))

pub loop-i-preserved : goal.loop-i-preserved
loop-i-preserved c =
    let step = below_step c.args.values.now c.args.others.now c.loop-i.i _ _ (omega arith) (omega arith) c.index-values-i.is c.index-others-i.is in
    c.loop-i.invariant ∙ (step ∙ rw (sym c.is_below.ensures ∙ c.if-not-is_below.false) refl)

pub returns : goal.returns
returns c = sym (c.loop-i.invariant ∙ below_end _ _ c.loop-i.i (omega arith) (omega arith))
