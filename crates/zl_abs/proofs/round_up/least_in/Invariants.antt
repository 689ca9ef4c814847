use Rattle.zl_abs.proofs.Common.{drop, least_from, ◌≡◌}
use Rattle.zl_abs.proofs.round_up.least_in.Given as goal

abbrev pub invariant-loop-bound : goal.invariant-loop-bound
invariant-loop-bound l = least_from l.number l.fn.best l.bounds ≡ least_from l.number l.best (drop l.bound-index l.bounds)
