use Rattle.zl_objects.proofs.Common.{IfNone, None, Option, Some}
use Rattle.zl_objects.proofs.Sleeping.{none_due}
use Rattle.zl_objects.proofs.objects.Objects.due_place.Goals as goal

where_none : {X : Type 0} (o : Option X) {P Q : Type 0} → IfNone o P → (P → Q) → IfNone o Q
where_none None h f = f h
where_none (Some x) h f = h

pub returns-clause-none : goal.returns-clause-none
returns-clause-none c =
    rw (← c.self.view_is) (where_none c.due_among.result c.due_among.ensures.none
    (λ none. none_due c.self.inside.store.by_koid.entries c.self.inside.store.sleepers.list.items c.in-Some.koids.now (c.in-Some.ensures {u = tt}) none
    c.self.inside.store.calm))
