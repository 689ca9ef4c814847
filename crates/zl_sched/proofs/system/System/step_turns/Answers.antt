use Rattle.zl_sched.proofs.Common.{sym, ◌∙◌}
use Rattle.zl_sched.proofs.Walking.{none_out, walks_nowhere, once_more, no_more, no_room, no_memory}
use Rattle.zl_sched.proofs.system.System.step_turns.Goals as goal

pub loop-turn-init : goal.loop-turn-init
loop-turn-init c none = walks_nowhere c.args.self.now

pub returns-in-NotReady : goal.returns-in-NotReady
returns-in-NotReady c none =
    let done = c.in-NotReady.ensures {u = tt} in
    let so_far = c.loop-turn.invariant none in
    no_more c.args.self.now c.loop-turn.self c.step.new.self c.args.pid c.loop-turn.turn c.args.count so_far c.loop-turn-test.true (sym done.0)
    (sym (none_out c.loop-turn.self c.args.pid (so_far.adds.out ∙ none)) ∙ done.1)

pub returns-in-Limit : goal.returns-in-Limit
returns-in-Limit c none =
    let done = c.in-Limit.ensures {u = tt} in
    let so_far = c.loop-turn.invariant none in
    no_room c.args.self.now c.loop-turn.self c.step.new.self c.args.pid c.loop-turn.turn c.args.count so_far c.loop-turn-test.true (sym done.0)
    (sym (none_out c.loop-turn.self c.args.pid (so_far.adds.out ∙ none)) ∙ done.1) done.2

pub returns-in-NoMemory : goal.returns-in-NoMemory
returns-in-NoMemory c none =
    let done = c.in-NoMemory.ensures {u = tt} in
    let so_far = c.loop-turn.invariant none in
    no_memory c.args.self.now c.loop-turn.self c.step.new.self c.args.pid c.loop-turn.turn c.args.count so_far c.loop-turn-test.true (sym done.0)
    (sym (none_out c.loop-turn.self c.args.pid (so_far.adds.out ∙ none)) ∙ done.1) done.2

pub loop-turn-preserved : goal.loop-turn-preserved
loop-turn-preserved c none = once_more c.args.self.now c.loop-turn.self c.step.new.self c.args.pid c.loop-turn.turn c.args.count (c.loop-turn.invariant none)
    (c.in-Ran.ensures {u = tt})
