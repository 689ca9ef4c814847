use Rattle.zl_interp.proofs.Common.{List, ap, slice_set, ℕ}
use Rattle.std.specs.Vec.{with_item}
use Rattle.zl_interp.proofs.Slots.{slot_written}
use Rattle.zl_interp.proofs.cpu.Cpu.set_slot.Goals as goal

pub returns : goal.returns
returns c =
    rw (← c.self.view_is) (λ i. record {
      counter = c.self.inside.counter;
      registers = c.self.inside.registers;
      memory = c.self.inside.memory.items;
      slots =
          slot_written (λ places. places.items) c.self.inside.slots.items c.args.array c.args.place c.args.value c.index_mut.result.now
          (with_item c.index_mut.result.now c.args.place c.args.value) (rw (← c.self.view_is) at c.requires)
          (ap (λ (places : List ℕ). slice_set places c.args.place c.args.value) (ap (λ places. places.items) c.index_mut.ensures.value)) i;
      counters = c.self.inside.counters;
    })
