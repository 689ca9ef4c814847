use Rattle.zl_sched.proofs.Common.{System, [], ap, arith, length, rules, ◌++◌, ◌<◌, ◌∷◌, ◌≡◌}
use Rattle.zl_sched.proofs.HandedIn.{takes_whole}
use Rattle.zl_sched.proofs.MarksMoved.{parted, taken_room}
use Rattle.zl_sched.proofs.Held.{held}
use Rattle.zl_sched.proofs.system.System.take.Goals as goal

pub invariant_of-self-2 : goal.invariant_of-self-2
invariant_of-self-2 c =
    let before : System = held c.self.inside in
    let some : 0 < length before.ready = search rules in
    let first : before.ready ≡ c.index-pid.result.now ∷ c.remove.new.self.items =
    parted before.ready c.remove.new.self.items c.index-pid.result.now _ some c.index-pid.ensures c.remove.ensures.items in
    let out : c.push_reserved.new.self.items ≡ before.out ++ (c.index-pid.result.now ∷ []) = search rules in
    let room = taken_room before.machine.world before.ready before.out c.self.invariant.0.listed c.index-pid.result.now c.remove.new.self.items first in (
      rw out (takes_whole before c.self.invariant.0 c.index-pid.result.now c.remove.new.self.items first),
      omega (arith, c.self.invariant.1, room, ap length out, c.remove.ensures.capacity),
    )
