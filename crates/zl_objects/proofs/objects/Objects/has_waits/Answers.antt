use Rattle.zl_objects.proofs.WaitsThere.{waits_there}
use Rattle.zl_objects.proofs.objects.Objects.has_waits.Goals as goal

pub returns-clause-there : goal.returns-clause-there
returns-clause-there c =
    rw (← c.self.view_is)
    (waits_there c.self.inside.store.waits.entries.items c.self.inside.store.by_koid.entries c.self.inside.store.kept.listed
    c.self.inside.store.kept.whole.places)
