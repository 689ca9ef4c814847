use Rattle.zl_objects.proofs.Common.{LetsGo, [], budget, length, vec_capacity, ◌+◌, ◌≡◌}
use Rattle.zl_objects.specs.Store.{Sheds}
use Rattle.zl_objects.proofs.store.Store.remove_dying.Given as goal

abbrev pub invariant-loop-koid : goal.invariant-loop-koid
invariant-loop-koid l = record {
  goes : LetsGo [] l.initial.self.by_koid.entries l.initial.self.dying.items l.self.by_koid.entries l.self.dying.items;
  capacity : vec_capacity l.self.dying ≡ vec_capacity l.initial.self.dying;
  sheds : Sheds l.initial.self l.self;
}

abbrev pub decreases-loop-koid : goal.decreases-loop-koid
decreases-loop-koid l = budget l.self.by_koid.entries l.self.dying.items + length l.self.by_koid.entries
