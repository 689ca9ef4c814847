use Rattle.zl_abs.proofs.Common.{drop, map, retagged, take, ◌++◌, ◌≡◌}
use Rattle.zl_abs.proofs.state.retag.Given as goal

abbrev pub invariant-loop-value : goal.invariant-loop-value
invariant-loop-value l =
    take l.value-index l.values ++ map (retagged l.source l.destination) (drop l.value-index l.values) ≡ map (retagged l.source l.destination) l.initial.values
