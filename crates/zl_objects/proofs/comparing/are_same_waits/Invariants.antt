use Rattle.zl_objects.proofs.Common.{listed_value, map, take, ◌≡◌}
use Rattle.zl_objects.proofs.comparing.are_same_waits.Given as goal

abbrev pub invariant-loop-place : goal.invariant-loop-place
invariant-loop-place l = map listed_value (take l.place l.one.items) ≡ map listed_value (take l.place l.other.items)
