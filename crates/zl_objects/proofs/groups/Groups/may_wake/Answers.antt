use Rattle.zl_objects.proofs.Common.{sym, ◌∙◌}
use Rattle.zl_objects.proofs.Grouping.{wakes_here, wakes_nowhere}
use Rattle.zl_objects.proofs.groups.Groups.may_wake.Goals as goal

pub returns-then-is_at : goal.returns-then-is_at
returns-then-is_at c =
    c.sees.ensures ∙ wakes_here c.args.self.now.crowded c.args.koid c.args.self.now.list.items c.place_of-place.result c.place_of-place.ensures
    (sym c.is_at.ensures ∙ c.if-is_at.true) c.args.signals c.args.packets c.index.result.now c.if-self.false c.index.ensures

pub returns-else-is_at : goal.returns-else-is_at
returns-else-is_at c =
    c.if-is_at.false ∙ wakes_nowhere c.args.self.now.crowded c.args.koid c.args.self.now.list.items c.place_of-place.result c.place_of-place.ensures
    (sym c.is_at.ensures ∙ c.if-is_at.false) c.args.self.now.in_order c.args.signals c.args.packets c.if-self.false
