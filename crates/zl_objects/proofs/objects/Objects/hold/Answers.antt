use Rattle.zl_objects.proofs.Common.{held_once_more, rules}
use Rattle.zl_objects.proofs.ByKoid.{by_koid}
use Rattle.zl_objects.proofs.CalmChanges.{keeps_more, more_stays, quiet_calm}
use Rattle.zl_objects.proofs.Kept.{more_kept}
use Rattle.zl_objects.proofs.Index.{kept_indexed}
use Rattle.zl_objects.proofs.objects.Objects.hold.Goals as goal

pub invariant_of-self-inside-2 : goal.invariant_of-self-inside-2
invariant_of-self-inside-2 c =
    record {
      kept = more_kept _ _ _ _ c.args.koid c.self.inside.store.kept (search (rules, by_koid));
      calm = quiet_calm held_once_more keeps_more more_stays c.self.inside.store.by_koid.entries (c.get_mut.follows.lender c.hold_more.new.self).entries
          c.args.koid (search (rules, by_koid)) c.self.inside.store.calm;
      indexed = kept_indexed held_once_more keeps_more c.args.koid c.self.inside.store.indexed (search (rules, by_koid));
    }
