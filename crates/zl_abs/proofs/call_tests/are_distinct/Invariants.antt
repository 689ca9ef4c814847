use Rattle.zl_abs.proofs.Common.{are_distinct, drop, ◌≡◌}
use Rattle.zl_abs.proofs.call_tests.are_distinct.Given as goal

abbrev pub invariant-loop-i : goal.invariant-loop-i
invariant-loop-i l = are_distinct l.results ≡ are_distinct (drop l.i l.results)
