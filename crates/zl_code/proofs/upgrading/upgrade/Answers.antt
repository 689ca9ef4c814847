use Rattle.zl_code.proofs.Common.{needs_value, sym, ◌∙◌}
use Rattle.zl_code.proofs.UpgradedRanges.{upgraded_in_range}
use Rattle.zl_code.proofs.upgrading.upgrade.Goals as goal

pub invariant_of-image : goal.invariant_of-image
invariant_of-image c =
    let i = c.image.inside in
    let none = sym (c.first_held.ensures) ∙ c.in-None.is in
    upgraded_in_range (record {
      version = i.version;
      raw = i.raw;
      memory = i.memory;
      budget = i.budget;
      needs = needs_value i.needs;
      starts = i.starts.items;
      slots = i.slots.items;
      code = i.code.items;
    }) c.image.invariant c.in-One.is (rw c.deref.ensures.value at none)
