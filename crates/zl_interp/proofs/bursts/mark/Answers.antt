use Rattle.zl_interp.proofs.Common.{arith}
use Rattle.zl_interp.proofs.Marked.{marked_past, marked_set}
use Rattle.zl_interp.proofs.bursts.mark.Goals as goal

pub returns-then-counter-code-clause-filled : goal.returns-then-counter-code-clause-filled
returns-then-counter-code-clause-filled c = marked_set c.args.code.now c.args.marks.now c.args.counter c.requires

pub returns-else-counter-code-clause-filled : goal.returns-else-counter-code-clause-filled
returns-else-counter-code-clause-filled c = marked_past c.args.code.now c.args.marks.now c.args.counter (omega (arith, c.if-counter-code.false))
