use Rattle.zl_objects.proofs.CalmMade.{cleared_calm}
use Rattle.zl_objects.proofs.Index.{none_indexed}
use Rattle.zl_objects.proofs.Kept.{none_kept}
use Rattle.zl_objects.proofs.objects.Objects.clear.Goals as goal

pub invariant_of-store : goal.invariant_of-store
invariant_of-store c = record {
  kept = none_kept c.clear.new.self.entries _ _ _ c.clear.ensures.empty c.clear-3.ensures.entries;
  indexed = none_indexed c.clear.new.self.entries c.clear.ensures.empty;
  calm = cleared_calm c.self.inside.store.by_koid.entries c.clear.new.self.entries c.clear.ensures.empty c.self.inside.store.calm;
}
