use Rattle.zl_objects.proofs.Common.{LetsGo, List, Map, Object, StayStill, budget, length, named_in, vec_capacity, ℕ, ◌≡◌, ◌≤◌}
use Rattle.zl_objects.proofs.releasing.let_go_queue.Given as goal

abbrev pub invariant-loop-message : goal.invariant-loop-message
invariant-loop-message l = record {
  cheap : budget l.by_koid.entries l.dying.items ≤ budget l.initial.by_koid.entries l.initial.dying.items;
  goes : (m : Map Object) (d : List ℕ) → LetsGo (named_in l.queue) l.by_koid.entries l.dying.items m d
      → LetsGo (named_in l.initial.queue) l.initial.by_koid.entries l.initial.dying.items m d;
  still : StayStill l.initial.by_koid.entries l.by_koid.entries;
  capacity : vec_capacity l.dying ≡ vec_capacity l.initial.dying;
}

abbrev pub decreases-loop-message : goal.decreases-loop-message
decreases-loop-message l = length l.queue
