use Rattle.zl_abs.proofs.Common.{AbsVal, List, ap, arith, drop, sym, with_all, ◌+◌, ◌∙◌}
use Rattle.zl_abs.proofs.StateSteps.{with_all_more, with_all_end}
use Rattle.zl_abs.proofs.state.AbsState.write_all.Goals as goal

pub loop-register-preserved : goal.loop-register-preserved
loop-register-preserved c =
    c.loop-register.invariant ∙ (with_all_more _ _ c.loop-register.register-index c.loop-register-item.result (omega arith) c.loop-register-item.is
    ∙ ap (λ (s : List AbsVal). with_all s (drop (c.loop-register.register-index + 1) c.args.results.now)) (sym c.write.ensures))

pub returns : goal.returns
returns c = sym (c.loop-register.invariant ∙ with_all_end _ _ c.loop-register.register-index (omega arith))
