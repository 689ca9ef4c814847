use Rattle.zl_rights.proofs.Common.{arith, refl, rules, true}
use Rattle.zl_port.specs.declared.slots.Slot.{Slot}
use Rattle.zl_port.proofs.Queued.{pushed}
use Rattle.zl_port.proofs.queue.Queue.push.Goals as goal

pub invariant_of-self : goal.invariant_of-self
invariant_of-self c =
    let made = c.make_place.ensures in
    let slot : Slot = record { packet = c.args.packet; there = true; before = 0 } in
    pushed slot c.link.new.slot c.self.invariant (rw (← c.self.view_is) at c.requires) made.packets made.number made.linked made.buckets refl
    (omega (arith, c.len.ensures, c.make_place.new.slots.ok.0)) c.link.ensures.slot c.link.ensures.last c.push_back_reserved.ensures.items (search rules)
