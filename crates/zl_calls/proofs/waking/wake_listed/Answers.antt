use Rattle.zl_calls.proofs.Common.{ap, arith, length, refl, ◌∙◌}
use Rattle.zl_calls.proofs.waking.Listed.{listed_begins, listed_ends, sleeper_stays, sleeper_wakes, stands_once, taken_consistent}
use Rattle.zl_calls.proofs.waking.wake_listed.Goals as goal

pub loop-sleeper-init : goal.loop-sleeper-init
loop-sleeper-init c = rw c.lend_list.ensures.unchanged (
  listed_begins c.args.processes.now.list.items c.args.objects.now c.args.blocked.now.items c.args.started c.requires.consistent c.requires.list
      c.requires.sought c.requires.ordered c.requires.all c.with-woken.result.pids.items c.with-woken.result.whole c.with-woken.ensures,
  refl,
)

pub wake_sleeper-requires-clause-consistent : goal.wake_sleeper-requires-clause-consistent
wake_sleeper-requires-clause-consistent c =
    taken_consistent c.args.processes.now.list.items c.args.objects.now c.args.blocked.now.items c.args.started
    c.loop-sleeper.processes.list.items c.loop-sleeper.objects c.loop-sleeper.blocked.items c.loop-sleeper.woken.pids.items c.loop-sleeper.woken.whole
    c.loop-sleeper.invariant.0 c.in-Some.sleeper
    c.take_due.new.self (c.in-Some.ensures {u = tt}).some

pub wake_sleeper-requires-clause-counters : goal.wake_sleeper-requires-clause-counters
wake_sleeper-requires-clause-counters c = c.loop-sleeper.invariant.0.list.counters

pub wake_sleeper-requires-clause-due : goal.wake_sleeper-requires-clause-due
wake_sleeper-requires-clause-due c = (c.in-Some.ensures {u = tt}).some.due

pub remove_pid-requires : goal.remove_pid-requires
remove_pid-requires c =
    let woke = rw c.if-wake_sleeper.true at c.wake_sleeper.ensures in
    let once = stands_once c.args.processes.now.list.items c.args.objects.now c.args.blocked.now.items c.args.started
    c.loop-sleeper.processes.list.items c.loop-sleeper.objects c.loop-sleeper.blocked.items c.loop-sleeper.woken.pids.items c.loop-sleeper.woken.whole
    c.loop-sleeper.invariant.0 c.in-Some.sleeper
    c.take_due.new.self (c.in-Some.ensures {u = tt}).some
    woke.0 c.wake_sleeper.new.processes.list.items c.wake_sleeper.new.objects woke.1 woke.2 in
    omega (arith, once)

pub loop-sleeper-preserved-then-wake_sleeper : goal.loop-sleeper-preserved-then-wake_sleeper
loop-sleeper-preserved-then-wake_sleeper c =
    let woke = rw c.if-wake_sleeper.true at c.wake_sleeper.ensures in
    rw c.remove_pid.ensures.items (
      sleeper_wakes c.args.processes.now.list.items c.args.objects.now c.args.blocked.now.items c.args.started
          c.loop-sleeper.processes.list.items c.loop-sleeper.objects c.loop-sleeper.blocked.items c.loop-sleeper.woken.pids.items
          c.loop-sleeper.woken.whole c.loop-sleeper.invariant.0
          c.in-Some.sleeper c.take_due.new.self (c.in-Some.ensures {u = tt}).some
          woke.0 c.wake_sleeper.new.processes.list.items c.wake_sleeper.new.objects woke.1 woke.2 c.note.new.self.pids.items c.note.new.self.whole
          c.note.ensures,
      c.remove_pid.ensures.capacity ∙ c.loop-sleeper.invariant.1,
    )

pub loop-sleeper-preserved : goal.loop-sleeper-preserved
loop-sleeper-preserved c =
    let stays = rw c.if-wake_sleeper.false at c.wake_sleeper.ensures in
    rw (stays.1, stays.2) (
      sleeper_stays c.args.processes.now.list.items c.args.objects.now c.args.blocked.now.items c.args.started
          c.loop-sleeper.processes.list.items c.loop-sleeper.objects c.loop-sleeper.blocked.items c.loop-sleeper.woken.pids.items
          c.loop-sleeper.woken.whole c.loop-sleeper.invariant.0
          c.in-Some.sleeper c.take_due.new.self (c.in-Some.ensures {u = tt}).some stays.0,
      c.loop-sleeper.invariant.1,
    )

pub loop-sleeper-smaller-then-wake_sleeper : goal.loop-sleeper-smaller-then-wake_sleeper
loop-sleeper-smaller-then-wake_sleeper c =
    let woke = rw c.if-wake_sleeper.true at c.wake_sleeper.ensures in
    let fewer = (c.in-Some.ensures {u = tt}).some.fewer in
    omega (arith, fewer, ap length woke.2.0)

pub loop-sleeper-smaller : goal.loop-sleeper-smaller
loop-sleeper-smaller c =
    let stays = rw c.if-wake_sleeper.false at c.wake_sleeper.ensures in
    rw stays.2 (c.in-Some.ensures {u = tt}).some.fewer

pub returns-clause-turns : goal.returns-clause-turns
returns-clause-turns c =
    rw (c.told.ensures.unchanged, (c.in_default.ensures {u = tt}).same)
    (listed_ends c.args.processes.now.list.items c.args.objects.now c.args.blocked.now.items c.args.started
    c.loop-sleeper.processes.list.items c.loop-sleeper.objects c.loop-sleeper.blocked.items c.loop-sleeper.woken.pids.items c.loop-sleeper.woken.whole
    c.loop-sleeper.invariant.0
    (c.in_default.ensures {u = tt}).none c.told.result c.told.ensures.told c.told.ensures.all)
