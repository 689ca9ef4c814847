use Rattle.zl_objects.proofs.Common.{sym, ◌∙◌}
use Rattle.zl_objects.proofs.Grouping.{gone_counts}
use Rattle.zl_objects.proofs.groups.Groups.remove.Goals as goal

pub returns-then-is_at : goal.returns-then-is_at
returns-then-is_at c = λ a apart counts.
    rw c.remove.ensures.items (gone_counts c.args.self.now.crowded c.args.koid c.args.self.now.list.items c.place_of-place.result c.place_of-place.ensures
    (sym c.is_at.ensures ∙ c.if-is_at.true) a apart counts)
