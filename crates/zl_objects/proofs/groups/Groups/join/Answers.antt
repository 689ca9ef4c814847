use Rattle.zl_objects.proofs.Common.{is_ok, sym, ◌∙◌}
use Rattle.zl_objects.proofs.Grouping.{if_in_order, put_counts, put_others, set_counts, set_others}
use Rattle.zl_objects.proofs.groups.Groups.join.Goals as goal

pub returns-then-is_at-clause-joined : goal.returns-then-is_at-clause-joined
returns-then-is_at-clause-joined c =
    set_counts c.args.self.now.crowded c.koid-koid.result c.args.self.now.list.items c.place_of-place.result c.place_of-place.ensures
    (sym c.is_at.ensures ∙ c.if-is_at.true) c.args.awaited.now c.koid-koid.ensures c.index-group.result.now c.join.result c.index-group.ensures c.join.ensures

pub returns-then-is_at-clause-others : goal.returns-then-is_at-clause-others
returns-then-is_at-clause-others c =
    set_others c.args.self.now.crowded c.koid-koid.result c.args.self.now.list.items c.place_of-place.result c.place_of-place.ensures
    (sym c.is_at.ensures ∙ c.if-is_at.true) c.args.awaited.now c.koid-koid.ensures c.index-group.result.now c.join.result c.index-group.ensures c.join.ensures

pub invariant_of-self-2 : goal.invariant_of-self-2
invariant_of-self-2 c = record {
  in_order = if_in_order c.koid-koid.result c.args.self.now.list.items c.place_of-place.result c.place_of-place.ensures (sym c.is_at.ensures ∙ c.if-is_at.false)
      c.args.self.now.in_order c.args.awaited.now (is_ok c.insert.result) c.insert.new.self.items
      (rw (← c.new.ensures, ← c.join-2.ensures) c.insert.ensures.items);
}

pub returns-clause-joined : goal.returns-clause-joined
returns-clause-joined c =
    put_counts c.args.self.now.crowded c.koid-koid.result c.args.self.now.list.items c.place_of-place.result c.place_of-place.ensures
    (sym c.is_at.ensures ∙ c.if-is_at.false) c.args.self.now.in_order c.args.awaited.now c.koid-koid.ensures c.insert.new.self.items
    (rw (← c.new.ensures, ← c.join-2.ensures) (c.in-Ok.ensures {u = tt}).items)

pub returns-clause-others : goal.returns-clause-others
returns-clause-others c =
    put_others c.args.self.now.crowded c.koid-koid.result c.args.self.now.list.items c.place_of-place.result c.place_of-place.ensures
    (sym c.is_at.ensures ∙ c.if-is_at.false) c.args.self.now.in_order c.args.awaited.now c.koid-koid.ensures c.insert.new.self.items
    (rw (← c.new.ensures, ← c.join-2.ensures) (c.in-Ok.ensures {u = tt}).items)
