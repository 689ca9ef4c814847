use Rattle.zl_sched.proofs.Common.{System, false, is_in, is_process, is_ready, sym, true, ◌≡◌}
use Rattle.zl_sched.proofs.MarksKept.{over_or_ready}
use Rattle.zl_sched.proofs.Held.{held}
use Rattle.zl_sched.proofs.system.System.judge.Goals as goal

pub returns-then-not-is_ready : goal.returns-then-not-is_ready
returns-then-not-is_ready c =
    let before : System = held c.self.inside in
    let out : is_in c.args.done.now.pid before.out ≡ true = rw (c.pid-pid.ensures, c.deref.ensures.value) at (sym (c.if-not-is_out.ensures {u = tt})) in
    let busy : is_process before.machine.world is_ready c.args.done.now.pid ≡ false = rw c.pid-pid.ensures at (sym (c.if-not-is_ready.ensures {u = tt})) in
    rw (← c.self.view_is) (out, over_or_ready before.machine.world c.args.done.now.pid (c.self.invariant.0.listed.marked c.args.done.now.pid out) busy)
