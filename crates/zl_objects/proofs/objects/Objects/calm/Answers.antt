use Rattle.zl_objects.proofs.Common.{listed_value, map}
use Rattle.zl_objects.proofs.CalmMade.{calmed}
use Rattle.zl_objects.proofs.Listed.{seen_listed}
use Rattle.zl_objects.proofs.objects.Objects.calm.Goals as goal

pub invariant_of-self-inside : goal.invariant_of-self-inside
invariant_of-self-inside c = record {
  kept = c.self.inside.store.kept;
  calm = calmed c.self.inside.store.by_koid.entries (map listed_value c.self.inside.store.waits.entries.items) c.self.inside.store.sleepers.list.items
      (seen_listed c.self.inside.store.waits.entries.items c.self.inside.store.by_koid.entries c.self.inside.store.kept.listed)
      (rw (← c.self.view_is) at c.requires.waits) (rw (← c.self.view_is) at c.requires.sleepers) c.self.inside.store.calm;
  indexed = c.self.inside.store.indexed;
}
