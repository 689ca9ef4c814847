use Rattle.zl_objects.proofs.Common.{None, drop, earliest_from, order_at, ◌≡◌}
use Rattle.zl_objects.proofs.due.earliest_among.Given as goal

abbrev pub invariant-loop-koid : goal.invariant-loop-koid
invariant-loop-koid l =
    earliest_from (order_at l.by_koid.entries) l.earliest (drop l.koid-index l.koids) ≡ earliest_from (order_at l.by_koid.entries) None l.koids
