use Rattle.zl_objects.proofs.Common.{IsTrue, each, is_sorted, length, nat_cmp, without_given, without_port_waits, ◌≡◌}
use Rattle.zl_objects.proofs.Unlisted.{AreKnown}
use Rattle.zl_objects.proofs.releasing.end_port.Given as goal

abbrev pub invariant-loop-wait : goal.invariant-loop-wait
invariant-loop-wait l = record {
  in_order : IsTrue (is_sorted nat_cmp l.by_koid.entries);
  ended : each (λ j. without_port_waits l.port) l.by_koid.entries ≡ each (λ j. without_port_waits l.port) l.initial.by_koid.entries;
  others : without_given l.port l.waits.entries.items ≡ without_given l.port l.initial.waits.entries.items;
  known : AreKnown l.port l.waits.entries.items l.by_koid.entries;
  made : l.waits.made ≡ l.initial.waits.made;
}

abbrev pub decreases-loop-wait : goal.decreases-loop-wait
decreases-loop-wait l = length l.waits.entries.items
