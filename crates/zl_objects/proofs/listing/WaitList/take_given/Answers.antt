use Rattle.zl_objects.proofs.Common.{Listed, ap, option_map, sym, ◌∙◌}
use Rattle.zl_objects.proofs.Lists.{none_first}
use Rattle.zl_objects.proofs.PortWaits.{given_first, given_goes, none_given}
use Rattle.zl_objects.proofs.listing.WaitList.take_given.Goals as goal

pub returns-in_err-order-clause-earliest : goal.returns-in_err-order-clause-earliest
returns-in_err-order-clause-earliest c =
    let list = c.args.self.now in
    c.from_residual.ensures ∙ sym (ap (option_map (λ (x : Listed). x.wait))
    (none_given list.by_port list.entries.items list.found list.rising list.made list.below c.args.port (c.in_err-order.ensures {u = tt})))

pub returns-in_err-order-clause-entries : goal.returns-in_err-order-clause-entries
returns-in_err-order-clause-entries c =
    let list = c.args.self.now in
    sym (none_first _ list.entries.items
    (none_given list.by_port list.entries.items list.found list.rising list.made list.below c.args.port (c.in_err-order.ensures {u = tt})))

pub returns-clause-earliest : goal.returns-clause-earliest
returns-clause-earliest c =
    let list = c.args.self.now in
    c.unlist.ensures.wait ∙ ap (option_map (λ (x : Listed). x.wait))
    (given_first list.by_port list.entries.items list.found list.rising list.made list.below c.args.port c.in_ok-order.order (c.in_ok-order.ensures {u = tt}))

pub returns-clause-entries : goal.returns-clause-entries
returns-clause-entries c =
    let list = c.args.self.now in
    c.unlist.ensures.entries
    ∙ given_goes list.by_port list.entries.items list.found list.rising list.made list.below c.args.port c.in_ok-order.order (c.in_ok-order.ensures {u = tt})
