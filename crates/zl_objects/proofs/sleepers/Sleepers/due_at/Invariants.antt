use Rattle.zl_objects.proofs.Common.{is_due, ◌≡◌}
use Rattle.zl_objects.proofs.Grouping.{AreJoined}
use Rattle.zl_objects.proofs.Sleeping.{HasLooked}
use Rattle.zl_objects.proofs.sleepers.Sleepers.due_at.Given as goal

abbrev pub invariant-loop-place : goal.invariant-loop-place
invariant-loop-place l = record {
  looked : HasLooked (λ s. is_due l.by_koid.entries s.awaited) l.koid l.self.list.items l.place;
  joined : AreJoined l.group l.koid l.self.list.items l.place;
  its : l.group.koid ≡ l.koid;
}
