use Rattle.zl_abs.proofs.Common.{drop, starts_from, with_all, ◌+◌, ◌≡◌}
use Rattle.zl_abs.proofs.state.AbsState.with_starts.Given as goal

abbrev pub invariant-loop-place : goal.invariant-loop-place
invariant-loop-place l = with_all l.fn.self (starts_from 2 l.starts) ≡ with_all l.state (starts_from (2 + l.place) (drop l.place l.starts))
