use Rattle.zl_objects.proofs.Common.{LetsGo, Map, Object, Objects, [], all_koids, ap, killing, looked_at, refl, subst}
use Rattle.zl_objects.proofs.Descending.{all_swept}
use Rattle.zl_objects.proofs.Index.{killed_indexed}
use Rattle.zl_objects.proofs.Law.{leaves_largest}
use Rattle.zl_objects.proofs.Released.{left_by, released, waits_left}
use Rattle.zl_objects.proofs.Shedding.{sheds_listed}
use Rattle.zl_objects.proofs.Tasks.{killed_kept}
use Rattle.zl_objects.proofs.objects.Objects.kill.Goals as goal

pub bury_each-requires : goal.bury_each-requires
bury_each-requires c = killed_indexed c.args.task c.self.inside.store.indexed c.kill_task.ensures.killed

pub invariant_of-store : goal.invariant_of-store
invariant_of-store c = record {
  kept = killed_kept _ _ _ _ c.args.task c.self.inside.store.kept c.kill_task.ensures.killed;
  calm = c.kill_task.ensures.calm _ _ c.self.inside.store.calm;
  indexed = c.bury_each.ensures.indexed;
}

pub returns-clause-releases : goal.returns-clause-releases
returns-clause-releases c = rw (← c.self.view_is) (λ before. released (all_swept c.self.inside.store.by_koid.entries
    c.sweep_task.new.self.by_koid.entries c.args.task c.args.list.now.whole c.args.list.now.koids.items (rw (← c.self.view_is) at c.requires) before
    (subst (λ (m : Map Object). LetsGo [] m (looked_at c.args.list.now.whole c.args.list.now.koids.items m) c.sweep_task.new.self.by_koid.entries [])
    c.kill_task.ensures.killed c.sweep_task.ensures.goes)) refl c.sweep_task.ensures.sheds.next_koid)

pub returns-clause-largest : goal.returns-clause-largest
returns-clause-largest c = λ before.
    leaves_largest [] (all_koids c.args.self.now.objects) (killing c.args.self.now c.args.task) _ (returns-clause-releases c before)

pub returns-clause-waits : goal.returns-clause-waits
returns-clause-waits c =
    rw (← ap (λ (r : Objects). r.objects) c.self.view_is, ← c.kill_task.ensures.killed) (waits_left (left_by c.sweep_task.ensures.goes)
    (killed_kept _ _ _ _ c.args.task c.self.inside.store.kept c.kill_task.ensures.killed).whole.places)

pub returns-clause-places : goal.returns-clause-places
returns-clause-places c = c.sweep_task.new.self.kept.whole.places

pub returns-clause-listed : goal.returns-clause-listed
returns-clause-listed c =
    let left = sheds_listed c.sweep_task.ensures.sheds in
    rw (← c.self.view_is) record { waits = left.waits; made = left.made; asleep = left.asleep }
