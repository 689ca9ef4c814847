use Rattle.zl_abs.proofs.Common.{drop, map, take, untagged, ◌++◌, ◌≡◌}
use Rattle.zl_abs.proofs.state.untag.Given as goal

abbrev pub invariant-loop-value : goal.invariant-loop-value
invariant-loop-value l = take l.value-index l.values ++ map (untagged l.register) (drop l.value-index l.values) ≡ map (untagged l.register) l.initial.values
