use Rattle.zl_abs.proofs.Common.{all_below, drop, ◌≡◌}
use Rattle.zl_abs.proofs.state.are_below.Given as goal

abbrev pub invariant-loop-i : goal.invariant-loop-i
invariant-loop-i l = all_below l.values l.others ≡ all_below (drop l.i l.values) (drop l.i l.others)
