use Rattle.zl_calls.proofs.Common.{arith, sym, vec_capacity}
use Rattle.zl_calls.proofs.waking.WakeLoop.{all_had_turns, counter_there, turn_awake}
use Rattle.zl_calls.proofs.waking.wake_each.Goals as goal

pub wake_one-requires-clause-counter : goal.wake_one-requires-clause-counter
wake_one-requires-clause-counter c =
    counter_there c.loop-place.processes.list.items c.loop-place.blocked.items c.loop-place.invariant.list c.loop-place.place c.index-pid.result.now
    c.index-pid.result.now (omega (arith, c.loop-place-test.true, c.len.ensures, c.loop-place.blocked.ok.0)) (sym c.index-pid.ensures)

pub loop-place-preserved-then-wake_one : goal.loop-place-preserved-then-wake_one
loop-place-preserved-then-wake_one c =
    rw (c.remove.ensures.items, c.remove.ensures.capacity)
    (turn_awake c.args.processes.now.list.items c.args.objects.now c.args.blocked.now.items c.args.started (vec_capacity c.args.blocked.now)
    c.loop-place.place c.loop-place.processes.list.items c.loop-place.objects c.loop-place.blocked.items (vec_capacity c.loop-place.blocked)
    c.loop-place.woken.pids.items c.loop-place.woken.whole
    c.loop-place.invariant
    c.index-pid.result.now c.index-pid.result.now (omega (arith, c.loop-place-test.true, c.len.ensures, c.loop-place.blocked.ok.0)) (sym c.index-pid.ensures)
    c.wake_one.new.processes.list.items c.wake_one.new.objects (rw c.if-wake_one.true at c.wake_one.ensures.wakes) c.wake_one.ensures.asleep
    c.note.new.self.pids.items c.note.new.self.whole c.note.ensures)

pub returns-clause-wakes : goal.returns-clause-wakes
returns-clause-wakes c = rw c.told.ensures.unchanged (
    all_had_turns c.args.processes.now.list.items c.args.objects.now c.args.blocked.now.items c.args.started (vec_capacity c.args.blocked.now)
    c.loop-place.place c.loop-place.processes.list.items c.loop-place.objects c.loop-place.blocked.items (vec_capacity c.loop-place.blocked)
    c.loop-place.woken.pids.items c.loop-place.woken.whole
    c.loop-place.invariant (omega (arith, c.loop-place-test.false, c.len.ensures, c.loop-place.blocked.ok.0)))
