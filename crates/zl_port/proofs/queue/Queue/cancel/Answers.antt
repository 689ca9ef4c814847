use Rattle.zl_rights.proofs.Common.{arith, not, refl}
use Rattle.std.proofs.lemmas.List.Filters.{length-filter_both}
use Rattle.zl_port.specs.Chains.{packets_in}
use Rattle.zl_port.specs.Packets.{is_from}
use Rattle.zl_port.proofs.Queued.{cancelled}
use Rattle.zl_port.proofs.queue.Queue.cancel.Goals as goal

pub overflow_sub-self : goal.overflow_sub-self
overflow_sub-self c =
    let from = is_from c.args.source c.args.key in
    let both = length-filter_both from (λ x. not (from x)) (λ x. refl) (packets_in c.self.inside.slots.items) in
    omega (arith, c.self.invariant.counted, c.take_from-taken.ensures.count, both)

pub invariant_of-self : goal.invariant_of-self
invariant_of-self c =
    let took = c.take_from-taken.ensures in
    cancelled c.args.source c.args.key c.self.invariant took.rest took.count took.linked took.long took.buckets took.capacity
