use Rattle.zl_trace.proofs.Common.{item_line}
use Rattle.zl_trace.proofs.KnownOutput.{on_err, gathers_line, begun_line}
use Rattle.zl_trace.proofs.writing.add_lines.Goals as goal

pub returns-in_err-add_line-clause-err : goal.returns-in_err-add_line-clause-err
returns-in_err-add_line-clause-err g c =
    on_err c.from_residual.result
    (begun_line item_line c.args.items.now c.loop-item.item-index _ _ _ _ _ _ c.loop-item-test.true c.loop-item.invariant (c.in_err-add_line.ensures).err)

pub loop-item-preserved : goal.loop-item-preserved
loop-item-preserved g c =
    gathers_line item_line c.args.items.now c.loop-item.item-index _ _ _ _ _ _ _ c.loop-item-test.true c.loop-item.invariant (c.in_ok-add_line.ensures).ok
