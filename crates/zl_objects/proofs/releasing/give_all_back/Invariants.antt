use Rattle.zl_objects.proofs.Common.{giving_back, length, ℕ, ◌≡◌}
use Rattle.zl_objects.proofs.Unlisted.{AreOut}
use Rattle.zl_objects.proofs.releasing.give_all_back.Given as goal

abbrev pub invariant-loop-wait : goal.invariant-loop-wait
invariant-loop-wait l = record {
  back : giving_back l.signals.waits l.by_koid.entries ≡ giving_back l.initial.signals.waits l.initial.by_koid.entries;
  out : (k : ℕ) → AreOut k l.initial.signals.waits l.initial.waits.entries.items l.signals.waits l.waits.entries.items;
  made : l.waits.made ≡ l.initial.waits.made;
}

abbrev pub decreases-loop-wait : goal.decreases-loop-wait
decreases-loop-wait l = length l.signals.waits
