use Rattle.zl_abs.proofs.Common.{arith, field_of}
use Rattle.zl_abs.proofs.ListSteps.{listed_more, listed_end}
use Rattle.zl_abs.proofs.call_rules.examine_list.Goals as goal

pub loop-place-preserved : goal.loop-place-preserved
loop-place-preserved c =
    listed_more (field_of c.args.field) c.args.handles.places c.loop-place.place _ c.loop-place.after c.loop-place.invariant c.in-Some.register _ _ _
    (c.in-Some.ensures {u = tt}) c.examine-fault.ensures c.is_some.ensures c.if-is_some.false

pub returns : goal.returns
returns c = listed_end (field_of c.args.field) c.args.handles.places c.loop-place.place _ c.loop-place.after c.loop-place.invariant (omega arith)
