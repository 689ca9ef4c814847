use Rattle.zl_objects.proofs.Common.{[], ◌-◌, ◌^◌, ◌≡◌}
use Rattle.zl_objects.specs.Store.{Sheds}
use Rattle.zl_objects.proofs.Sweeps.{Sweeps}
use Rattle.zl_objects.proofs.store.Store.sweep.Given as goal

abbrev pub invariant-loop-koid : goal.invariant-loop-koid
invariant-loop-koid l = record {
  sweeps : Sweeps l.from l.initial.self.by_koid.entries l.self.by_koid.entries;
  none : l.self.dying.items ≡ [];
  sheds : Sheds l.initial.self l.self;
}

abbrev pub decreases-loop-koid : goal.decreases-loop-koid
decreases-loop-koid l = 2 ^ 64 - l.from
