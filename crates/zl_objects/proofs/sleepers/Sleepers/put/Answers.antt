use Rattle.zl_objects.proofs.Common.{All-weaker, inl, is_ok, refl}
use Rattle.zl_objects.proofs.Sleeping.{insert_all, insert_in_order, insert_listed}
use Rattle.zl_objects.specs.Groups.{Counts}
use Rattle.zl_objects.proofs.sleepers.Sleepers.put.Goals as goal

pub invariant_of-self-2 : goal.invariant_of-self-2
invariant_of-self-2 c = record {
  in_order = insert_in_order c.args.sleeper c.args.self.now.list.items c.place_behind-place.result (rw c.koid.ensures at c.place_behind-place.ensures)
      c.args.self.now.in_order (is_ok c.insert.result) c.insert.new.self.items c.insert.ensures.items;
  counted = insert_all c.args.sleeper c.args.self.now.list.items c.place_behind-place.result (rw c.koid.ensures at c.place_behind-place.ensures)
      (λ s. Counts c.join.new.self.crowded c.join.new.self.list.items s.awaited)
      (All-weaker (λ s. Counts c.args.self.now.groups.crowded c.args.self.now.groups.list.items s.awaited)
      (λ s. Counts c.join.new.self.crowded c.join.new.self.list.items s.awaited) (λ s counts. c.join.ensures.others s.awaited counts)
      c.args.self.now.list.items c.args.self.now.counted) c.join.ensures.joined (is_ok c.insert.result) c.insert.new.self.items c.insert.ensures.items;
}

pub returns : goal.returns
returns c = inl (
  refl,
  insert_listed c.args.sleeper c.args.self.now.list.items c.place_behind-place.result (rw c.koid.ensures at c.place_behind-place.ensures)
      c.insert.new.self.items (c.in-Ok.ensures {u = tt}).items (c.if-is_listed.ensures {u = tt} refl),
)
