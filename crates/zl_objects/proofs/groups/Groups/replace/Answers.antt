use Rattle.zl_objects.proofs.Common.{refl, sym, ◌∙◌}
use Rattle.zl_objects.proofs.Grouping.{replaced_counts}
use Rattle.zl_objects.proofs.groups.Groups.replace.Goals as goal

pub returns-then-is_at : goal.returns-then-is_at
returns-then-is_at c = λ a counts covers.
    replaced_counts c.args.self.now.crowded c.args.group.koid c.args.self.now.list.items c.place_of-place.result c.place_of-place.ensures
    (sym c.is_at.ensures ∙ c.if-is_at.true) c.args.group refl a counts covers
