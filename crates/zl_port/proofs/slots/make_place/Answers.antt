use Rattle.zl_rights.proofs.Common.{ap, arith, rules, ◌∙◌, length, ◌≡◌, filter}
use Rattle.std.proofs.lemmas.Fn.{filter_same}
use Rattle.zl_port.proofs.InSlots.{as_many, packets_stay}
use Rattle.zl_port.specs.Chains.{packets_in}
use Rattle.zl_port.proofs.slots.make_place.Goals as goal

pub returns-clause-packets : goal.returns-clause-packets
returns-clause-packets c =
    let left : c.retain.new.self.items ≡ filter (λ s. s.there) c.args.slots.now.items =
    filter_same _ _ _ (λ x b f' k. search rules) _ _ c.retain.ensures.filtered in
    c.link_anew.ensures.packets ∙ ap packets_in left ∙ packets_stay c.args.slots.now.items

pub returns-clause-place : goal.returns-clause-place
returns-clause-place c =
    let left : c.retain.new.self.items ≡ filter (λ s. s.there) c.args.slots.now.items =
    filter_same _ _ _ (λ x b f' k. search rules) _ _ c.retain.ensures.filtered in
    let anew = c.link_anew.ensures in
    omega (arith, c.requires.room, anew.long, ap length left, as_many c.args.slots.now.items, c.retain.ensures.capacity, anew.capacity)
