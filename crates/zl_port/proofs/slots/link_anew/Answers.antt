use Rattle.zl_rights.proofs.Common.{rules, ◌∙◌}
use Rattle.zl_port.proofs.InSlots.{packets_linked}
use Rattle.zl_port.proofs.Linking.{linked_here}
use Rattle.zl_port.proofs.slots.link_anew.Goals as goal

pub loop-place-preserved : goal.loop-place-preserved
loop-place-preserved c =
    let was = c.loop-place.invariant in
    let slots = c.loop-place.slots.items in
    let slot = c.index_mut.result.now in
    record {
      packets = packets_linked slots c.loop-place.place _ slot _ (search rules) c.index_mut.ensures.value c.link.ensures.slot ∙ was.packets;
      long = search rules;
      linked = linked_here slots slot _ (search rules) (search rules) c.link.ensures.slot c.link.ensures.last was.linked;
      buckets = search rules;
      capacity = search rules;
    }
