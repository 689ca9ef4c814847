use Rattle.zl_objects.proofs.Common.{◌∙◌}
use Rattle.zl_objects.proofs.Showing.{are_active}
use Rattle.zl_objects.proofs.objects.Objects.signals_of.Goals as goal

pub returns-clause-active : goal.returns-clause-active
returns-clause-active c =
    λ w shows. rw (← c.self.view_is) (c.signals_at.ensures ∙ are_active c.self.inside.store.by_koid.entries c.args.koid w (rw (← c.self.view_is) at shows))
