use Rattle.zl_objects.proofs.Common.{received, rules}
use Rattle.zl_objects.proofs.ByKoid.{by_koid}
use Rattle.zl_objects.proofs.CalmChanges.{keeps_received, quiet_calm, received_stays}
use Rattle.zl_objects.proofs.Kept.{received_kept}
use Rattle.zl_objects.proofs.Index.{kept_indexed}
use Rattle.zl_objects.proofs.objects.Objects.receive.Goals as goal

pub invariant_of-self-inside-2 : goal.invariant_of-self-inside-2
invariant_of-self-inside-2 c =
    record {
      kept = received_kept _ _ _ _ c.args.koid c.self.inside.store.kept (search (rules, by_koid));
      calm = quiet_calm received keeps_received received_stays c.self.inside.store.by_koid.entries (c.get_mut.follows.lender c.receive.new.self).entries
          c.args.koid (search (rules, by_koid)) c.self.inside.store.calm;
      indexed = kept_indexed received keeps_received c.args.koid c.self.inside.store.indexed (search (rules, by_koid));
    }
