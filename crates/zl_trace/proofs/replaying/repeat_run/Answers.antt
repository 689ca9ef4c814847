use Rattle.zl_trace.proofs.Replayed.{differs_after, one_more_ran}
use Rattle.zl_trace.proofs.replaying.repeat_run.Goals as goal

pub returns-then-not-repeat_step-clause-other : goal.returns-then-not-repeat_step-clause-other
returns-then-not-repeat_step-clause-other c is =
    differs_after c.args.pid c.args.world.now c.loop-turn.turn c.args.count c.loop-turn.world c.loop-turn-test.true c.loop-turn.invariant
    (c.repeat_step.ensures.other c.if-not-repeat_step.true)

pub loop-turn-preserved : goal.loop-turn-preserved
loop-turn-preserved c =
    one_more_ran c.args.pid c.args.world.now c.loop-turn.turn c.loop-turn.world c.repeat_step.new.world c.loop-turn.invariant
    (c.repeat_step.ensures.same c.if-not-repeat_step.false) (c.repeat_step.ensures.own c.if-not-repeat_step.false)
