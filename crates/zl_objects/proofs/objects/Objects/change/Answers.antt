use Rattle.zl_objects.proofs.Common.{raised_changed, rules}
use Rattle.zl_objects.proofs.ByKoid.{by_koid}
use Rattle.zl_objects.proofs.CalmChanges.{found_calm, keeps_changed}
use Rattle.zl_objects.proofs.Kept.{changed_kept}
use Rattle.zl_objects.proofs.Index.{kept_indexed}
use Rattle.zl_objects.proofs.objects.Objects.change.Goals as goal

pub invariant_of-self-inside-2 : goal.invariant_of-self-inside-2
invariant_of-self-inside-2 c =
    record {
      kept = changed_kept _ _ _ _ c.args.koid c.args.clear.0 c.args.set.0 c.self.inside.store.kept (search (rules, by_koid));
      calm = found_calm c.add_if.ensures.more (raised_changed c.args.clear.0 c.args.set.0) (keeps_changed c.args.clear.0 c.args.set.0)
          c.self.inside.store.by_koid.entries
          (c.get_mut.follows.lender c.change.new.self).entries c.args.koid c.in-Some.object.now c.change.new.self (search rules)
          c.is_watched.result c.is_watched.ensures c.add_if.ensures.wanted c.change.ensures (search (rules, by_koid)) c.self.inside.store.calm;
      indexed = kept_indexed (raised_changed c.args.clear.0 c.args.set.0) (keeps_changed c.args.clear.0 c.args.set.0) c.args.koid
          c.self.inside.store.indexed (search (rules, by_koid));
    }
