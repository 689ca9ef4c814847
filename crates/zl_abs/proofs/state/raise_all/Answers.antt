use Rattle.zl_abs.proofs.Common.{arith, sym, ◌∙◌}
use Rattle.zl_abs.proofs.RaiseSteps.{still_apart, raised_more, raised_same, raised_stop, raised_joined, raised_rises}
use Rattle.zl_abs.proofs.state.raise_all.Goals as goal
use Rattle.zl_abs.proofs.state.raise_all.Goals.{then-not-is_below+in-Some, else-not-is_below}

pub returns-in_default-clause-none : goal.returns-in_default-clause-none
returns-in_default-clause-none c =
    raised_stop _ _ c.loop-i.values c.loop-i.rose c.loop-i.i _ _ (omega arith)
    (omega arith) c.index-values-i-then-not-is_below.is c.index-others-i.is c.loop-i.invariant (c.in_default.ensures {u = tt})

pub loop-i-preserved : goal.loop-i-preserved
loop-i-preserved c = elim c.if-not-is_below.branch [
  | then-not-is_below+in-Some w ↦ rw (w.values-is, w.rose-is)
      (raised_more _ _ c.loop-i.values c.loop-i.rose c.loop-i.i _ _ (omega arith)
      (omega arith) w.index-values-i-then-not-is_below.is c.index-others-i.is c.loop-i.invariant w.in-Some.value (w.in-Some.ensures {u = tt})
      (still_apart c.loop-i.values c.loop-i.i _ _ _ (omega arith) c.index-values-i.is w.index-values-i-then-not-is_below.is
      (sym c.is_below.ensures ∙ w.if-not-is_below.true)))
  | else-not-is_below w ↦ rw (w.values-is, w.rose-is)
      (raised_same _ _ c.loop-i.values c.loop-i.rose c.loop-i.i _ _ (omega arith) (omega arith) c.index-values-i.is c.index-others-i.is c.loop-i.invariant
      (sym c.is_below.ensures ∙ w.if-not-is_below.false))
]

pub returns-clause-joined : goal.returns-clause-joined
returns-clause-joined c = raised_joined _ _ c.loop-i.values c.loop-i.rose c.loop-i.i (omega arith) (omega arith) c.loop-i.invariant

pub returns-clause-rose : goal.returns-clause-rose
returns-clause-rose c = raised_rises _ _ c.loop-i.values c.loop-i.rose c.loop-i.i (omega arith) (omega arith) c.loop-i.invariant
