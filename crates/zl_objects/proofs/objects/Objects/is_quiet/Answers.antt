use Rattle.zl_objects.proofs.Common.{listed_value, map}
use Rattle.zl_objects.proofs.CalmMade.{none_listed_holds}
use Rattle.zl_objects.proofs.Listed.{seen_listed}
use Rattle.zl_objects.proofs.objects.Objects.is_quiet.Goals as goal

pub returns-then-is_empty-clause-waits : goal.returns-then-is_empty-clause-waits
returns-then-is_empty-clause-waits c = λ quiet. rw (← c.self.view_is)
    (none_listed_holds c.self.inside.store.by_koid.entries (map listed_value c.self.inside.store.waits.entries.items)
    (seen_listed c.self.inside.store.waits.entries.items c.self.inside.store.by_koid.entries c.self.inside.store.kept.listed)
    (λ k o at. c.self.inside.store.calm.waits k o at (c.is_empty.ensures c.if-is_empty.true k)))
