use Rattle.zl_objects.proofs.Common.{rules, started}
use Rattle.zl_objects.proofs.CalmChanges.{keeps_started, quiet_calm, started_stays}
use Rattle.zl_objects.proofs.ByKoid.{by_koid}
use Rattle.zl_objects.proofs.Tasks.{started_kept}
use Rattle.zl_objects.proofs.Index.{kept_indexed}
use Rattle.zl_objects.proofs.objects.Objects.start.Goals as goal

pub invariant_of-self-inside-2 : goal.invariant_of-self-inside-2
invariant_of-self-inside-2 c =
    record {
      kept = started_kept _ _ _ _ c.args.pid c.self.inside.store.kept (search (rules, by_koid));
      calm = quiet_calm started keeps_started started_stays c.self.inside.store.by_koid.entries (c.get_mut.follows.lender c.start.new.self).entries c.args.pid
          (search (rules, by_koid)) c.self.inside.store.calm;
      indexed = kept_indexed started keeps_started c.args.pid c.self.inside.store.indexed (search (rules, by_koid));
    }
