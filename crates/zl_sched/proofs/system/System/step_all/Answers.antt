use Rattle.zl_sched.proofs.Common.{◌∙◌}
use Rattle.zl_sched.proofs.Walking.{walks_nowhere, pair_walked, pair_stopped}
use Rattle.zl_sched.proofs.system.System.step_all.Goals as goal

pub loop-pair-init : goal.loop-pair-init
loop-pair-init c none = walks_nowhere c.args.self.now

pub returns-in_default : goal.returns-in_default
returns-in_default c none =
    let so_far = c.loop-pair.invariant none in
    pair_stopped c.args.self.now c.loop-pair.self c.step_turns.new.self c.args.schedule.now c.loop-pair.pair-index (0, 0) c.loop-pair-test.true so_far
    c.step_turns.result c.in_default.not-Schedule (c.step_turns.ensures (so_far.adds.out ∙ none))

pub loop-pair-preserved : goal.loop-pair-preserved
loop-pair-preserved c none =
    let so_far = c.loop-pair.invariant none in
    pair_walked c.args.self.now c.loop-pair.self c.step_turns.new.self c.args.schedule.now c.loop-pair.pair-index (0, 0) c.loop-pair-test.true so_far
    ((c.in-Schedule.ensures {u = tt}) (so_far.adds.out ∙ none))
