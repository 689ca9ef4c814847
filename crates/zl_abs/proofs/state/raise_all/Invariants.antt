use Rattle.zl_abs.proofs.RaiseSteps.{IsRaised}
use Rattle.zl_abs.proofs.state.raise_all.Given as goal

abbrev pub invariant-loop-i : goal.invariant-loop-i
invariant-loop-i l = IsRaised l.initial.values l.others l.values l.rose l.i
