use Rattle.zl_objects.proofs.Common.{map, object_entry, ◌↔◌, ◌≡◌}
use Rattle.zl_objects.proofs.comparing.are_same_objects.Given as goal

abbrev pub invariant-loop-koid : goal.invariant-loop-koid
invariant-loop-koid l =
    (map object_entry l.koid-iterator ≡ map object_entry l.others) ↔ (map object_entry l.one.entries ≡ map object_entry l.other.entries)
