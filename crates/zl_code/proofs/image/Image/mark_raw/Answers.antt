use Rattle.zl_code.proofs.Common.{needs_value}
use Rattle.zl_code.proofs.ImageRanges.{raw_in_range}
use Rattle.zl_code.proofs.image.Image.mark_raw.Goals as goal

pub invariant_of-self : goal.invariant_of-self
invariant_of-self c =
    let i = c.self.inside in raw_in_range i.version i.raw i.memory i.budget (needs_value i.needs) i.starts.items i.slots.items i.code.items c.self.invariant
