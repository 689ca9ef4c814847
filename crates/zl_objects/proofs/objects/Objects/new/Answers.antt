use Rattle.zl_objects.proofs.Common.{vec_capacity}
use Rattle.zl_objects.proofs.CalmMade.{none_calm}
use Rattle.zl_objects.proofs.Index.{none_indexed}
use Rattle.zl_objects.proofs.Kept.{none_kept}
use Rattle.zl_objects.proofs.objects.Objects.new.Goals as goal

pub invariant_of-objects : goal.invariant_of-objects
invariant_of-objects c = record {
  kept = none_kept c.new.result.entries 1 (vec_capacity c.new-3.result) _ c.new.ensures.empty c.new-4.ensures.entries;
  indexed = none_indexed c.new.result.entries c.new.ensures.empty;
  calm = none_calm c.new.result.entries c.new.ensures.empty c.in_ok-new.ensures.list;
}
