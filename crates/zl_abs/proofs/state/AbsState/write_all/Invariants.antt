use Rattle.zl_abs.proofs.Common.{drop, with_all, ◌≡◌}
use Rattle.zl_abs.proofs.state.AbsState.write_all.Given as goal

abbrev pub invariant-loop-register : goal.invariant-loop-register
invariant-loop-register l = with_all l.initial.self l.results ≡ with_all l.self (drop l.register-index l.results)
