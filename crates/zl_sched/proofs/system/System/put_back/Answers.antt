use Rattle.zl_sched.proofs.Common.{System, ap, arith, is_in, is_process, is_ready, length, true, ◌≡◌}
use Rattle.zl_sched.proofs.HandedIn.{puts_back_whole}
use Rattle.zl_sched.proofs.MarksMoved.{out_shorter, put_back_room}
use Rattle.zl_sched.proofs.Held.{held}
use Rattle.zl_sched.proofs.system.System.put_back.Goals as goal

pub push_reserved-requires : goal.push_reserved-requires
push_reserved-requires c =
    let before : System = held c.self.inside in
    let marked : is_in c.args.pid before.out ≡ true = rw (← c.self.view_is) at c.requires.out in
    let is : is_process before.machine.world is_ready c.args.pid ≡ true = rw (← c.self.view_is) at c.requires.ready in
    let shorter = out_shorter before.machine.world before.ready before.out c.self.invariant.0.listed c.args.pid marked is in
    omega (arith, c.self.invariant.1, shorter, c.self.inside.ready.ok.0)

pub invariant_of-self : goal.invariant_of-self
invariant_of-self c =
    let before : System = held c.self.inside in
    let marked : is_in c.args.pid before.out ≡ true = rw (← c.self.view_is) at c.requires.out in
    let is : is_process before.machine.world is_ready c.args.pid ≡ true = rw (← c.self.view_is) at c.requires.ready in
    let room = put_back_room before.machine.world before.ready before.out c.self.invariant.0.listed c.args.pid marked is in
    let longer = ap length c.push_reserved.ensures.items in (
      rw (c.push_reserved.ensures.items, c.unmark.ensures.items) (puts_back_whole before c.self.invariant.0 c.args.pid marked is),
      omega (arith, c.self.invariant.1, room, ap length c.unmark.ensures.items, longer, c.push_reserved.ensures.capacity),
    )
