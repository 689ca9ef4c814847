use Rattle.zl_abs.proofs.Common.{AbsVal, List, ap, arith, option_map, sym, take, ◌++◌, ◌∙◌}
use Rattle.zl_abs.proofs.StateSteps.{joined_more, joined_stop, joined_end}
use Rattle.zl_abs.proofs.state.join_all.Goals as goal

pub returns-in_default : goal.returns-in_default
returns-in_default c =
    let stop = joined_stop c.loop-i.values c.args.others.now c.loop-i.i _ _ (omega arith) (omega arith) c.index-values-i.is c.index-others-i.is
    (c.in_default.ensures {u = tt}) in
    sym (c.loop-i.invariant ∙ ap (option_map (λ (rest : List AbsVal). take c.loop-i.i c.loop-i.values ++ rest)) stop)

pub loop-i-preserved : goal.loop-i-preserved
loop-i-preserved c =
    c.loop-i.invariant ∙ joined_more c.loop-i.values c.args.others.now c.loop-i.i _ _ c.in-Some.value (omega arith)
    (omega arith) c.index-values-i.is c.index-others-i.is (c.in-Some.ensures {u = tt})

pub returns : goal.returns
returns c = sym (c.loop-i.invariant ∙ joined_end c.loop-i.values c.args.others.now c.loop-i.i (omega arith) (omega arith))
