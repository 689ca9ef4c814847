use Rattle.zl_objects.proofs.Common.{LetsGo, StayStill, koids_in, take, vec_capacity, ◌≡◌}
use Rattle.zl_objects.proofs.releasing.let_go_all.Given as goal

abbrev pub invariant-loop-handle : goal.invariant-loop-handle
invariant-loop-handle l = record {
  goes : LetsGo (koids_in (take l.handle-index l.handles)) l.initial.by_koid.entries l.initial.dying.items l.by_koid.entries l.dying.items;
  still : StayStill l.initial.by_koid.entries l.by_koid.entries;
  capacity : vec_capacity l.dying ≡ vec_capacity l.initial.dying;
}
