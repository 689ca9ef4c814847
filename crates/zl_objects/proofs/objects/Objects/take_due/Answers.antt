use Rattle.zl_objects.proofs.Common.{refl}
use Rattle.zl_objects.proofs.Sleeping.{taken_calm, takes_due}
use Rattle.zl_objects.proofs.objects.Objects.take_due.Goals as goal

pub invariant_of-self-inside : goal.invariant_of-self-inside
invariant_of-self-inside c = record {
  kept = c.self.inside.store.kept;
  calm = rw c.take.ensures.list (taken_calm c.self.inside.store.by_koid.entries c.self.inside.store.sleepers.list.items c.in_ok-place.place
      c.self.inside.store.calm);
  indexed = c.self.inside.store.indexed;
}

pub returns-clause-some : goal.returns-clause-some
returns-clause-some c = rw (← c.due_place.ensures.same, ← c.self.view_is)
    (takes_due c.self.inside.store.by_koid.entries c.self.inside.store.sleepers.list.items c.in_ok-place.place
    (rw (← c.due_place.ensures.same, ← c.self.view_is) at (c.in_ok-place.ensures {u = tt}).some)
    c.take.result c.take.ensures.value _ _ refl refl c.take.ensures.list (rw c.take.ensures.crowded refl))
