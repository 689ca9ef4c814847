use Rattle.zl_objects.proofs.Common.{arith, take_all, take_more}
use Rattle.zl_objects.proofs.Buried.{one_more_buried}
use Rattle.zl_objects.proofs.children.bury_each.Goals as goal

pub loop-koid-preserved : goal.loop-koid-preserved
loop-koid-preserved c = record {
  indexed = c.bury.ensures.indexed;
  buried = λ k there. one_more_buried c.loop-koid.children c.bury.new.children c.bury.ensures.fewer c.args.by_koid.now.entries _ _
      c.loop-koid.invariant.buried c.bury.ensures.buried k (rw (take_more c.args.koids.now c.loop-koid.koid-index 0 c.loop-koid-test.true) at there);
}

pub returns-clause-buried : goal.returns-clause-buried
returns-clause-buried c = λ k there. c.loop-koid.invariant.buried k
    (rw (take_all c.loop-koid.koid-index c.args.koids.now (omega (arith, c.loop-koid-test.false))) there)
