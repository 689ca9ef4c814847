use Rattle.zl_abs.proofs.Common.{length, triple_results, ◌*◌, ◌++◌, ◌+◌, ◌-◌, ◌≡◌}
use Rattle.zl_abs.proofs.call_results.Results.receive.Given as goal

abbrev pub invariant-loop-place : goal.invariant-loop-place
invariant-loop-place g l =
    (length l.self ≡ length l.initial.self + 3 * l.place)
    × (l.self ++ triple_results (l.first + 3 * l.place) (l.places - l.place) ≡ l.initial.self ++ triple_results l.first l.places)
