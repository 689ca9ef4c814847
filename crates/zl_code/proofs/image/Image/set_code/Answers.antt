use Rattle.zl_code.proofs.Common.{needs_value}
use Rattle.zl_code.proofs.ImageRanges.{code_in_range}
use Rattle.zl_code.proofs.image.Image.set_code.Goals as goal

pub invariant_of-self : goal.invariant_of-self
invariant_of-self c =
    let i = c.self.inside in
    code_in_range i.version i.raw i.memory i.budget (needs_value i.needs) i.starts.items i.slots.items i.code.items c.self.invariant c.args.code.items
    (rw (← c.self.view_is) at c.requires.in_range) c.requires.most c.requires.blocks
