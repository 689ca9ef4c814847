use Rattle.zl_sched.proofs.Common.{System, ap, arith, done, false, is_in, length, queued_after, requeued, rules, sym, vec_capacity, ◌≡◌, ◌≤◌}
use Rattle.zl_sched.proofs.TurnTold.{limit_told, step_told}
use Rattle.zl_sched.proofs.TurnQueued.{by_requeue, each_once, once, places, queue_room, still_whole, told_so}
use Rattle.zl_sched.proofs.Held.{held}
use Rattle.zl_sched.proofs.system.System.step.Goals as goal

pub returns-then-len-self : goal.returns-then-len-self
returns-then-len-self c =
    rw c.refused.ensures
    (limit_told c.args.self.now c.args.pid (rw (← c.self.view_is) (omega (arith, c.if-len-self.true, c.len.ensures, c.self.inside.items.ok.0))))

-- ---- where the process steps

pub move_on-requires : goal.move_on-requires
move_on-requires c =
    let before : System = held c.self.inside in
    let unmarked : is_in c.args.pid before.out ≡ false = rw c.deref.ensures.value at (sym (c.if-is_out.ensures {u = tt})) in
    let did = (c.in-Some.ensures {u = tt}).ran in
    let room : length before.machine.world.processes ≤ vec_capacity c.make_room.new.ready = done _ _
    (c.if-is_err-2.ensures {u = tt}).value c.make_room.ensures.room in
    let fits = places before c.self.invariant.0 c.args.pid unmarked c.step.new.self c.in-Some.item did.takes in
    record {
      told = rw (c.deref-2.ensures.value, c.make_room.ensures.items)
          (told_so before c.self.invariant.0 c.args.pid unmarked c.step.new.self c.in-Some.item did.takes c.in-Some.told did.tells
          (c.in-Some.ensures {u = tt}).killed (c.in-Some.ensures {u = tt}).told);
      each_once = rw c.make_room.ensures.items
          (each_once before c.self.invariant.0 c.args.pid unmarked c.step.new.self c.in-Some.item did.takes);
      once = rw c.make_room.ensures.items (once before c.self.invariant.0 c.args.pid unmarked c.step.new.self c.in-Some.item did.takes);
      room = rw (c.deref-2.ensures.value, c.make_room.ensures.items) (omega (arith, room, fits));
    }

pub invariant_of-self-2 : goal.invariant_of-self-2
invariant_of-self-2 c =
    let before : System = held c.self.inside in
    let unmarked : is_in c.args.pid before.out ≡ false = rw c.deref.ensures.value at (sym (c.if-is_out.ensures {u = tt})) in
    let did = (c.in-Some.ensures {u = tt}).ran in
    let is : c.move_on.new.ready.items ≡ requeued c.step.new.self.world c.args.pid before.out before.ready
    = rw (c.deref-2.ensures.value, c.make_room.ensures.items) at c.move_on.ensures.items in
    let queue : c.move_on.new.ready.items ≡ queued_after before.machine.world c.args.pid c.step.new.self.world before.ready
    = by_requeue before c.self.invariant.0 c.args.pid unmarked c.step.new.self c.in-Some.item did.takes c.move_on.new.ready.items is in
    let room : length before.machine.world.processes ≤ vec_capacity c.make_room.new.ready = done _ _
    (c.if-is_err-2.ensures {u = tt}).value c.make_room.ensures.room in
    let fits = queue_room before c.self.invariant.0 c.args.pid unmarked c.step.new.self c.in-Some.item did.takes in
    rw c.move_on.ensures.world (
      still_whole before c.self.invariant.0 c.args.pid unmarked c.step.new.self c.in-Some.item did.takes
          (c.in-Some.ensures {u = tt}).own c.push_reserved.new.self.items c.move_on.new.ready.items
          (search rules) (omega (arith, c.if-len-self.false, c.len.ensures, c.self.inside.items.ok.0)) queue,
      omega (arith, room, fits, ap length queue, c.move_on.ensures.capacity),
    )

pub returns : goal.returns
returns c =
    let before : System = held c.self.inside in
    let unmarked : is_in c.args.pid before.out ≡ false = rw c.deref.ensures.value at (sym (c.if-is_out.ensures {u = tt})) in
    let did = (c.in-Some.ensures {u = tt}).ran in
    let is : c.move_on.new.ready.items ≡ requeued c.step.new.self.world c.args.pid before.out before.ready
    = rw (c.deref-2.ensures.value, c.make_room.ensures.items) at c.move_on.ensures.items in
    let queue : c.move_on.new.ready.items ≡ queued_after before.machine.world c.args.pid c.step.new.self.world before.ready
    = by_requeue before c.self.invariant.0 c.args.pid unmarked c.step.new.self c.in-Some.item did.takes c.move_on.new.ready.items is in
    rw (← c.self.view_is, c.move_on.ensures.world)
    (step_told before c.args.pid unmarked c.step.new.self c.push_reserved.new.self.items c.move_on.new.ready.items c.in-Some.item did.takes
    (c.in-Some.ensures {u = tt}).own
    (search rules) (omega (arith, c.if-len-self.false, c.len.ensures, c.self.inside.items.ok.0)) queue)
