use Rattle.zl_trace.proofs.Common.{DiffersAt, inl, inr, subst, ◌+◌, ◌≡◌}
use Rattle.zl_code.specs.declared.history.TraceItem.TheVariants as item
use Rattle.zl_trace.proofs.Replayed.{differs_at, next_replayed}
use Rattle.zl_trace.proofs.replaying.replay.Goals.{then-index-eq-MOST_ITEMS-via-then-index-eq-MOST_ITEMS}
use Rattle.zl_trace.proofs.replaying.replay.Goals.{then-index-eq-MOST_ITEMS-via-else-index-eq-MOST_ITEMS+then-not-repeat}
use Rattle.zl_trace.proofs.replaying.replay.Goals as goal

pub loop-index-preserved : goal.loop-index-preserved
loop-index-preserved c =
    next_replayed c.args.library c.args.boot.statements.items c.args.boot.limit c.args.items.now c.loop-index.index _ c.loop-index.world c.repeat.new.world
    c.loop-index-test.true c.loop-index.invariant (c.repeat.ensures.same c.if-not-repeat.false)

pub returns-then-index-eq-MOST_ITEMS-clause-at : goal.returns-then-index-eq-MOST_ITEMS-clause-at
returns-then-index-eq-MOST_ITEMS-clause-at c n is =
    let number : c.loop-index.index + 1 ≡ n = cc in
    subst (DiffersAt c.args.library c.args.boot.statements.items c.args.boot.limit c.args.items.now) number
    (elim c.then-index-eq-MOST_ITEMS.branch [
      | then-index-eq-MOST_ITEMS-via-then-index-eq-MOST_ITEMS w ↦
          differs_at c.args.library c.args.boot.statements.items c.args.boot.limit c.args.items.now c.loop-index.index
          (item.Stuck 0) c.loop-index.world c.loop-index-test.true c.loop-index.invariant (inr w.if-index-eq-MOST_ITEMS.true)
      | then-index-eq-MOST_ITEMS-via-else-index-eq-MOST_ITEMS+then-not-repeat w ↦
          differs_at c.args.library c.args.boot.statements.items c.args.boot.limit c.args.items.now c.loop-index.index _ c.loop-index.world
          c.loop-index-test.true c.loop-index.invariant (inl (w.repeat.ensures.other w.if-not-repeat.true))
    ])
