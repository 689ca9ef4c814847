use Rattle.zl_objects.proofs.Common.{arith, sym, ◌∙◌}
use Rattle.zl_objects.proofs.Climbing.{met, passed, at_top}
use Rattle.zl_objects.proofs.killing.comes_to.Goals as goal

pub returns-then-above-job : goal.returns-then-above-job
returns-then-above-job c =
    sym (c.loop.invariant ∙ met c.args.by_koid.now.entries c.args.job c.loop.counter c.loop.above c.parent_at-above.result
    (omega arith) c.parent_at-above.ensures c.if-above-job.true)

pub loop-preserved : goal.loop-preserved
loop-preserved c =
    c.loop.invariant ∙ passed c.args.by_koid.now.entries c.args.job c.loop.counter c.loop.above c.parent_at-above.result
    (omega arith) c.parent_at-above.ensures c.if-above-job.false

pub returns : goal.returns
returns c = sym (c.loop.invariant ∙ at_top c.args.by_koid.now.entries c.args.job c.loop.counter c.loop.above (omega arith))
