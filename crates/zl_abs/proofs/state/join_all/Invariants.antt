use Rattle.zl_abs.proofs.Common.{all_joined, drop, option_map, take, ◌++◌, ◌≡◌}
use Rattle.zl_abs.proofs.state.join_all.Given as goal

abbrev pub invariant-loop-i : goal.invariant-loop-i
invariant-loop-i l = all_joined l.initial.values l.others ≡ option_map (λ rest. take l.i l.values ++ rest) (all_joined (drop l.i l.values) (drop l.i l.others))
