use Rattle.zl_verify.proofs.Common.{arith}
use Rattle.zl_verify.proofs.Suiting.{typed_nested}
use Rattle.zl_verify.proofs.Filling.{length_listed}
use Rattle.zl_verify.proofs.Leading.{flow_begins, flow_more, flow_ends}
use Rattle.zl_verify.proofs.targets.targets_of.Goals as goal

pub loop-place-init : goal.loop-place-init
loop-place-init c = flow_begins _ _ _ _ _ (omega (arith, c.in_ok-targets.ensures.len, c.len.ensures.value))

pub loop-place-preserved : goal.loop-place-preserved
loop-place-preserved c =
    flow_more c.args.image.now c.args.found.now.stretches.numbers c.args.found.now.states.items c.loop-place.targets.items c.loop-place.flow.is_there
    c.loop-place.flow.state c.loop-place.place c.loop-place.invariant (omega (arith, c.len-place-end.ensures.value))
    c.begin.new.self.is_there c.begin.new.self.state c.begin.ensures c.look.result c.look.ensures.places c.look.ensures.packed
    c.look.new.self.is_there c.look.new.self.state c.look.ensures.flow

pub returns-clause-edges : goal.returns-clause-edges
returns-clause-edges c =
    flow_ends _ _ _ _ c.loop-place.flow.is_there c.loop-place.flow.state c.loop-place.place c.loop-place.invariant
    (omega (arith, c.len-place-end.ensures.value))

pub returns-clause-nested : goal.returns-clause-nested
returns-clause-nested c =
    typed_nested _ c.len-place-end.ensures.in_range _ _
    (flow_ends _ _ _ _ c.loop-place.flow.is_there c.loop-place.flow.state c.loop-place.place c.loop-place.invariant
    (omega (arith, c.len-place-end.ensures.value)))
    (length_listed _ _)
