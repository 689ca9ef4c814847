use Rattle.zl_abs.proofs.ListSteps.{triples_more, three_longer}
use Rattle.zl_abs.proofs.call_results.Results.receive.Goals as goal

pub loop-place-preserved : goal.loop-place-preserved
loop-place-preserved g c = (
  three_longer _ _ _ _ _ _ _ _ _ c.push.ensures c.push-in-loop-place.ensures c.push-in-loop-place-2.ensures c.loop-place.invariant.0,
  triples_more _ _ _ _ _ c.args.first c.loop-place.place c.args.places _ _ _ _ c.push.ensures c.push-in-loop-place.ensures c.push-in-loop-place-2.ensures
      c.loop-place-test.true c.behind-handle.ensures c.behind.ensures c.behind-in-loop-place.ensures (c.empty.ensures tt) c.loop-place.invariant.1,
)
