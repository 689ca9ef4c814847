use Rattle.zl_sched.proofs.Common.{GoesFrom, HasRoom, IsAwaited, System, ap, arith, done, length, others_of, requeued, vec_capacity, ◌∙◌, ◌≡◌, ◌≤◌}
use Rattle.zl_sched.proofs.HandedIn.{absent, accepted_room, accepted_so, accepted_whole, each_once, goes_told, requeued_room, requeued_so}
use Rattle.zl_sched.proofs.Held.{held}
use Rattle.zl_sched.proofs.system.System.accept.Goals as goal

pub queue-requires : goal.queue-requires
queue-requires c =
    let before : System = held c.self.inside in
    let awaited : IsAwaited before c.args.done = rw (← c.self.view_is) at c.requires.awaited in
    let went : GoesFrom before.machine before.items c.args.done c.go-told.result.0 c.go-told.new.world
    c.go-told.new.items.items = rw c.reserve.ensures.items at c.go-told.ensures in
    let left : c.deref.result.now ≡ others_of c.args.done.pid before.out = c.deref.ensures.value ∙ rw c.pid-pid.ensures at c.unmark.ensures.items in
    let places : length before.machine.world.processes ≤ vec_capacity c.make_room.new.ready = done _ _
    (c.if-is_err-2.ensures {u = tt}).value c.make_room.ensures.room in
    let room = requeued_room before c.self.invariant.0 c.args.done awaited c.go-told.result.0 c.go-told.new.world c.go-told.new.items.items went in
    record {
      told = rw (c.pid-pid.ensures, left, c.make_room.ensures.items)
          (goes_told before c.self.invariant.0 c.args.done awaited c.go-told.result.0 c.go-told.new.world c.go-told.new.items.items went);
      each_once = rw c.make_room.ensures.items
          (each_once before c.self.invariant.0 c.args.done awaited c.go-told.result.0 c.go-told.new.world c.go-told.new.items.items went);
      apart = rw (c.pid-pid.ensures, c.make_room.ensures.items)
          (absent before c.self.invariant.0 c.args.done awaited c.go-told.result.0 c.go-told.new.world c.go-told.new.items.items went);
      room = rw (c.pid-pid.ensures, left, c.make_room.ensures.items) (omega (arith, room, places));
    }

pub invariant_of-self-2 : goal.invariant_of-self-2
invariant_of-self-2 c =
    let before : System = held c.self.inside in
    let awaited : IsAwaited before c.args.done = rw (← c.self.view_is) at c.requires.awaited in
    let room : HasRoom before c.args.done = rw (← c.self.view_is) at c.requires.room in
    let went : GoesFrom before.machine before.items c.args.done c.go-told.result.0 c.go-told.new.world
    c.go-told.new.items.items = rw c.reserve.ensures.items at c.go-told.ensures in
    let out : c.unmark.new.out.items ≡ others_of c.args.done.pid before.out = rw c.pid-pid.ensures at c.unmark.ensures.items in
    let left : c.deref.result.now ≡ others_of c.args.done.pid before.out = c.deref.ensures.value ∙ out in
    let queue : c.queue.new.ready.items ≡ requeued c.go-told.new.world.world c.args.done.pid (others_of c.args.done.pid before.out) before.ready
    = rw (c.pid-pid.ensures, left, c.make_room.ensures.items) at c.queue.ensures.items in
    let places : length before.machine.world.processes ≤ vec_capacity c.make_room.new.ready = done _ _
    (c.if-is_err-2.ensures {u = tt}).value c.make_room.ensures.room in
    let fits = accepted_room before c.self.invariant.0 c.args.done awaited c.go-told.result.0 c.go-told.new.world c.go-told.new.items.items went in
    let is = queue ∙ requeued_so before c.self.invariant.0 c.args.done awaited c.go-told.result.0 c.go-told.new.world c.go-told.new.items.items went in (
      rw (out, c.queue.ensures.world) (accepted_whole before c.self.invariant.0 c.args.done awaited c.go-told.result.0 c.go-told.new.world
          c.go-told.new.items.items went room
          c.queue.new.ready.items queue),
      omega (arith, fits, places, ap length out, ap length is, c.queue.ensures.capacity),
    )

pub returns : goal.returns
returns c =
    let before : System = held c.self.inside in
    let awaited : IsAwaited before c.args.done = rw (← c.self.view_is) at c.requires.awaited in
    let room : HasRoom before c.args.done = rw (← c.self.view_is) at c.requires.room in
    let went : GoesFrom before.machine before.items c.args.done c.go-told.result.0 c.go-told.new.world
    c.go-told.new.items.items = rw c.reserve.ensures.items at c.go-told.ensures in
    let out : c.unmark.new.out.items ≡ others_of c.args.done.pid before.out = rw c.pid-pid.ensures at c.unmark.ensures.items in
    let left : c.deref.result.now ≡ others_of c.args.done.pid before.out = c.deref.ensures.value ∙ out in
    let queue : c.queue.new.ready.items ≡ requeued c.go-told.new.world.world c.args.done.pid (others_of c.args.done.pid before.out) before.ready
    = rw (c.pid-pid.ensures, left, c.make_room.ensures.items) at c.queue.ensures.items in
    rw (← c.self.view_is, c.queue.ensures.world)
    (rw out (accepted_so before c.self.invariant.0 c.args.done awaited c.go-told.result.0 c.go-told.new.world c.go-told.new.items.items went room
    c.queue.new.ready.items queue))
