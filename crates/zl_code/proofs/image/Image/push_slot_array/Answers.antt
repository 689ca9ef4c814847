use Rattle.zl_code.proofs.Common.{needs_value}
use Rattle.zl_code.proofs.ImageRanges.{slots_in_range}
use Rattle.zl_code.proofs.image.Image.push_slot_array.Goals as goal

pub invariant_of-self-2 : goal.invariant_of-self-2
invariant_of-self-2 c =
    let i = c.self.inside in
    rw (c.in_ok-push.ensures {u = tt}).items
    (slots_in_range i.version i.raw i.memory i.budget (needs_value i.needs) i.starts.items i.slots.items i.code.items
    c.self.invariant c.args.array c.requires.in_range
    (rw (← c.self.view_is) at c.requires.room))
