use Rattle.zl_objects.proofs.Common.{All, NoneDueAt, take, ◌≡◌}
use Rattle.zl_objects.proofs.sleepers.Sleepers.due_among.Given as goal

abbrev pub invariant-loop-koid : goal.invariant-loop-koid
invariant-loop-koid l = record {
  list : l.self.list.items ≡ l.initial.self.list.items;
  crowded : l.self.crowded ≡ l.initial.self.crowded;
  none : All (λ k. NoneDueAt l.by_koid.entries k l.initial.self.list.items) (take l.koid-index l.koids);
}
