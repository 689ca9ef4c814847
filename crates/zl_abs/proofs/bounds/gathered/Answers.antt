use Rattle.zl_abs.proofs.Common.{arith}
use Rattle.zl_abs.proofs.SortedBounds.{gathered_step, gathered_end}
use Rattle.zl_abs.proofs.bounds.gathered.Goals as goal

pub loop-instr-preserved : goal.loop-instr-preserved
loop-instr-preserved c =
    gathered_step c.loop-instr.bounds.items _ _ c.args.code.now c.loop-instr.instr-index c.instr-item.result
    (omega arith) c.instr-item.is c.in_ok-push_bounds.ensures c.loop-instr.invariant

pub returns : goal.returns
returns c = gathered_end c.loop-instr.bounds.items _ c.args.code.now c.loop-instr.instr-index (omega arith) c.loop-instr.invariant
