use Rattle.zl_interp.proofs.Common.{ap, arith, with_items_is, ◌∙◌}
use Rattle.std.specs.Vec.{with_items}
use Rattle.zl_interp.proofs.Packed.{emptied_at, is_set, packed_at, still_there}
use Rattle.zl_interp.proofs.cpu.Cpu.pack_places.Goals as goal

pub pack-requires : goal.pack-requires
pack-requires c =
    let at = is_set (λ places. places.items) c.self.inside.slots.items c.args.array c.args.count c.index_mut.result.now c.index_mut.result.now
    (rw (← c.self.view_is) at c.requires) in
    rw (c.deref_mut.ensures.value, c.index_mut.ensures.value) at.within

pub returns-clause-packed : goal.returns-clause-packed
returns-clause-packed c =
    rw (← c.self.view_is) (packed_at (λ places. places.items) c.self.inside.slots.items c.args.array c.args.count c.index_mut.result.now
    (with_items c.index_mut.result.now c.pack.new.places) c.deref_mut.result.now c.pack.new.places (rw (← c.self.view_is) at c.requires)
    (c.deref_mut.ensures.value ∙ ap (λ places. places.items) c.index_mut.ensures.value)
    (with_items_is c.index_mut.result.now c.pack.new.places (omega (arith, c.pack.auto.places, c.deref_mut.ensures.len)))
    c.pack.result c.pack.ensures.packed)

pub returns-clause-there : goal.returns-clause-there
returns-clause-there c =
    still_there (λ places. places.items) c.self.inside.slots.items c.args.array c.args.count c.index_mut.result.now
    (with_items c.index_mut.result.now c.pack.new.places) c.deref_mut.result.now c.pack.new.places (rw (← c.self.view_is) at c.requires)
    (c.deref_mut.ensures.value ∙ ap (λ places. places.items) c.index_mut.ensures.value)
    (with_items_is c.index_mut.result.now c.pack.new.places (omega (arith, c.pack.auto.places, c.deref_mut.ensures.len))) c.pack.auto.places

pub returns-clause-emptied : goal.returns-clause-emptied
returns-clause-emptied c = rw (← c.self.view_is) (λ i. record {
  counter = c.self.inside.counter;
  registers = c.self.inside.registers;
  memory = c.self.inside.memory.items;
  slots = emptied_at (λ places. places.items) c.self.inside.slots.items c.args.array c.args.count c.index_mut.result.now
      (with_items c.index_mut.result.now c.pack.new.places) c.deref_mut.result.now c.pack.new.places (rw (← c.self.view_is) at c.requires)
      (c.deref_mut.ensures.value ∙ ap (λ places. places.items) c.index_mut.ensures.value)
      (with_items_is c.index_mut.result.now c.pack.new.places (omega (arith, c.pack.auto.places, c.deref_mut.ensures.len))) c.pack.ensures.others i;
  counters = c.self.inside.counters;
})
