use Rattle.zl_objects.proofs.Common.{ap, arith, get_or, is_due, length, rules, signals_at, subst, sym, ◌+◌, ◌<◌, ◌∙◌, ◌≡◌}
use Rattle.zl_objects.proofs.Grouping.{AreJoined, all_joined, joined_koid, one_joined}
use Rattle.zl_objects.proofs.Sleeping.{first_due, look_more, not_due}
use Rattle.zl_objects.specs.declared.groups.Group.{Group}
use Rattle.zl_objects.proofs.sleepers.Sleepers.due_at.Goals as goal

pub returns-then-is_given-clause-some : goal.returns-then-is_given-clause-some
returns-then-is_given-clause-some c =
    let signals : c.from-signals.result ≡ signals_at c.args.by_koid.now.entries c.args.koid = search rules in
    first_due c.args.by_koid.now.entries c.args.koid c.args.self.now.list.items c.loop-place.place c.place_behind-place-end.result
    c.loop-place.invariant.looked c.place_behind-place-end.ensures c.loop-place-test.true c.index.result.now c.index.ensures
    (rw (← signals, ← c.has_packet-packets.ensures) (sym (c.if-is_given.ensures {u = tt})))

pub loop-place-preserved : goal.loop-place-preserved
loop-place-preserved c =
    let signals : c.from-signals.result ≡ signals_at c.args.by_koid.now.entries c.args.koid = search rules in
    let inside : c.loop-place.place < length c.args.self.now.list.items = omega (arith, c.loop-place-test.true, c.place_behind-place-end.ensures.within) in
    record {
      looked = look_more (λ s. is_due c.args.by_koid.now.entries s.awaited) c.args.koid c.args.self.now.list.items c.loop-place.place
          c.loop-place.invariant.looked c.index.result.now inside c.index.ensures (λ here. not_due c.args.by_koid.now.entries c.args.koid
          c.index.result.now.awaited here (rw (← signals, ← c.has_packet-packets.ensures) (sym (c.if-is_given.ensures {u = tt}))));
      joined = subst (λ (g : Group). AreJoined g c.args.koid c.args.self.now.list.items (c.loop-place.place + 1)) (sym c.join-group.ensures)
          (one_joined c.loop-place.group c.args.koid c.args.self.now.list.items c.loop-place.place c.loop-place.invariant.joined c.index.result.now inside
          c.index.ensures);
      its = ap (λ (g : Group). g.koid) c.join-group.ensures ∙ (joined_koid c.index.result.now.awaited c.loop-place.group ∙ c.loop-place.invariant.its);
    }

pub invariant_of-self : goal.invariant_of-self
invariant_of-self c = record {
  in_order = c.args.self.now.in_order;
  counted = λ i d inside. c.replace.ensures (get_or c.args.self.now.list.items i d).awaited (c.args.self.now.counted i d inside) (λ e.
      all_joined c.loop-place.group c.args.koid c.args.self.now.list.items c.loop-place.place c.loop-place.invariant.joined c.place_behind-place-end.result
      c.place_behind-place-end.ensures c.loop-place-test.false i d inside (e ∙ c.loop-place.invariant.its));
}
