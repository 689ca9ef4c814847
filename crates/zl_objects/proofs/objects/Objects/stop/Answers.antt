use Rattle.zl_objects.proofs.Common.{refl, rules, stopped}
use Rattle.zl_objects.proofs.ByKoid.{by_koid}
use Rattle.zl_objects.proofs.CalmEnds.{ended_calm}
use Rattle.zl_objects.proofs.Kept.{stopped_kept}
use Rattle.zl_objects.proofs.Index.{stopped_none, stopped_stands, updated_indexed}
use Rattle.zl_objects.proofs.objects.Objects.stop.Goals as goal

pub bury-requires : goal.bury-requires
bury-requires c = updated_indexed stopped (λ o. stopped_stands o.body) c.args.pid c.self.inside.store.indexed (search (rules, by_koid))

pub invariant_of-store-2 : goal.invariant_of-store-2
invariant_of-store-2 c =
    record {
      kept = stopped_kept _ _ _ _ c.args.pid c.self.inside.store.kept (search (rules, by_koid));
      calm = ended_calm stopped stopped_none (λ o. refl) c.mark_watched.ensures.more c.mark_watched-2.ensures.more c.self.inside.store.by_koid.entries
          (c.get_mut.follows.lender c.stop.new.self).entries c.args.pid (search (rules, by_koid)) c.mark_watched.ensures.wanted c.in-Some.object.now
          (search (rules, by_koid)) (rw c.keeper-keeper.ensures at c.mark_watched-2.ensures.wanted) _ _ c.self.inside.store.calm;
      indexed = c.bury.ensures.indexed;
    }
