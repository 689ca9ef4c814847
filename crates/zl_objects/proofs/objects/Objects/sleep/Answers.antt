use Rattle.zl_objects.proofs.Common.{koid_of, slept, sym, update, ◌∙◌, ◌≡◌}
use Rattle.zl_objects.proofs.CalmMade.{keeps_slept, slept_calm}
use Rattle.zl_objects.proofs.Index.{kept_indexed}
use Rattle.zl_objects.proofs.Kept.{slept_kept}
use Rattle.zl_objects.proofs.Sleeping.{put_calm, put_order, put_others, put_there}
use Rattle.zl_objects.proofs.objects.Objects.sleep.Goals as goal

pub is_due-requires : goal.is_due-requires
is_due-requires c = kept_indexed slept keeps_slept (koid_of c.args.awaited) c.self.inside.store.indexed (rw c.koid-koid.ensures at c.note_slept.ensures.objects)

pub invariant_of-store-2 : goal.invariant_of-store-2
invariant_of-store-2 c =
    let noted : c.note_slept.new.by_koid.entries ≡ update c.self.inside.store.by_koid.entries (koid_of c.args.awaited) slept =
    rw c.koid-koid.ensures at c.note_slept.ensures.objects in
    record {
      kept = slept_kept _ _ _ _
          (koid_of c.args.awaited) c.self.inside.store.kept noted;
      calm = put_calm c.add_if.ensures.more c.self.inside.store.by_koid.entries c.note_slept.new.by_koid.entries
          (record { pid = c.args.pid; awaited = c.args.awaited }) c.self.inside.store.sleepers.list.items
          c.put.new.self.list.items c.self.inside.store.sleepers.crowded c.put.new.self.crowded c.is_due.result
          (c.self.inside.store.kept.whole.below (koid_of c.args.awaited) (rw c.koid-koid.ensures at
          (sym c.note_slept.ensures.there ∙ c.if-not-note_slept.false))) noted c.is_due.ensures
          (rw c.koid-koid.ensures at c.add_if.ensures.wanted) c.put.ensures c.self.inside.store.calm;
      indexed = kept_indexed slept keeps_slept (koid_of c.args.awaited) c.self.inside.store.indexed noted;
    }

-- the object isn't there
pub invariant_of-store-then-not-note_slept : goal.invariant_of-store-then-not-note_slept
invariant_of-store-then-not-note_slept c =
    let noted : c.note_slept.new.by_koid.entries ≡ update c.self.inside.store.by_koid.entries (koid_of c.args.awaited) slept =
    rw c.koid-koid.ensures at c.note_slept.ensures.objects in
    record {
      kept = slept_kept _ _ _ _
          (koid_of c.args.awaited) c.self.inside.store.kept noted;
      calm = slept_calm c.self.inside.store.by_koid.entries c.note_slept.new.by_koid.entries (koid_of c.args.awaited) noted c.self.inside.store.calm;
      indexed = kept_indexed slept keeps_slept (koid_of c.args.awaited) c.self.inside.store.indexed noted;
    }

pub returns-clause-there : goal.returns-clause-there
returns-clause-there c = put_there _ _ _ _ _ c.put.ensures

pub returns-clause-others : goal.returns-clause-others
returns-clause-others c = λ other a there. put_others _ _ _ _ _ c.put.ensures (record { pid = other; awaited = a }) (rw (← c.self.view_is) at there)

pub returns-clause-order : goal.returns-clause-order
returns-clause-order c = rw (← c.self.view_is) (put_order _ _ _ _ _ c.put.ensures)
