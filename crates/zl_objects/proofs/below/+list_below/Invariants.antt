use Rattle.zl_objects.proofs.Common.{IsTrue, is_one_of, ℕ, ◌-◌, ◌^◌}
use Rattle.zl_objects.proofs.Descending.{HasUntil}
use Rattle.zl_objects.proofs.below.+list_below.Given as goal

abbrev pub decreases-list_below : goal.decreases-list_below
decreases-list_below l = l.levels

abbrev pub invariant-loop-koid : goal.invariant-loop-koid
invariant-loop-koid l = record {
  until : HasUntil l.children l.job (l.levels - 1) l.last l.found.items;
  more : (k : ℕ) → IsTrue (is_one_of k l.initial.found.items) → IsTrue (is_one_of k l.found.items);
}

abbrev pub decreases-loop-koid : goal.decreases-loop-koid
decreases-loop-koid l = 2 ^ 64 - l.last
