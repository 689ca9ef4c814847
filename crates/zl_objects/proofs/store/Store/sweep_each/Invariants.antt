use Rattle.zl_objects.proofs.Common.{LetsGo, [], drop, ◌≡◌}
use Rattle.zl_objects.specs.Store.{Sheds}
use Rattle.zl_objects.proofs.store.Store.sweep_each.Given as goal

abbrev pub invariant-loop-koid : goal.invariant-loop-koid
invariant-loop-koid l = record {
  goes : LetsGo [] l.initial.self.by_koid.entries l.koids l.self.by_koid.entries (drop l.koid-index l.koids);
  none : l.self.dying.items ≡ [];
  sheds : Sheds l.initial.self l.self;
}
