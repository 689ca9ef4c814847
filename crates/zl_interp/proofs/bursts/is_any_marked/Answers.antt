use Rattle.zl_interp.proofs.Common.{arith}
use Rattle.zl_interp.proofs.Marked.{unmarked_more}
use Rattle.zl_interp.proofs.bursts.is_any_marked.Goals as goal

pub loop-n-preserved : goal.loop-n-preserved
loop-n-preserved c = unmarked_more c.args.marks.now c.args.start c.loop-n.n c.loop-n.any (omega (arith, c.requires.1, c.loop-n-test.true)) c.loop-n.invariant
