use Rattle.zl_abs.proofs.Common.{AbsVal, List, ap, arith, drop, starts_from, sym, with_all, ◌+◌, ◌∙◌}
use Rattle.zl_abs.proofs.StateSteps.{starts_step, starts_end}
use Rattle.zl_abs.proofs.state.AbsState.with_starts.Goals as goal

pub loop-place-preserved : goal.loop-place-preserved
loop-place-preserved c =
    c.loop-place.invariant ∙ (starts_step c.loop-place.state c.args.starts.now c.loop-place.place _ c.loop-place-test.true
    ∙ ap (λ (s : List AbsVal). with_all s (starts_from (2 + (c.loop-place.place + 1)) (drop (c.loop-place.place + 1) c.args.starts.now)))
    (sym (rw (c.register.ensures, c.start_value.ensures) at c.with-state.ensures)))

pub returns : goal.returns
returns c = sym (c.loop-place.invariant ∙ starts_end _ _ c.loop-place.place (omega arith))
