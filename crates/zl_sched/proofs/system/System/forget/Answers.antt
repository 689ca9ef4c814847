use Rattle.zl_sched.proofs.Common.{System, ap, arith, false, is_process, length, lives, ◌≡◌}
use Rattle.zl_sched.proofs.HandedIn.{forgets_whole}
use Rattle.zl_sched.proofs.Marked.{shorter}
use Rattle.zl_sched.proofs.Held.{held}
use Rattle.zl_sched.proofs.system.System.forget.Goals as goal

pub invariant_of-self : goal.invariant_of-self
invariant_of-self c =
    let before : System = held c.self.inside in
    let over : is_process before.machine.world lives c.args.pid ≡ false = rw (← c.self.view_is) at c.requires in (
      rw c.unmark.ensures.items (forgets_whole before c.self.invariant.0 c.args.pid over),
      omega (arith, c.self.invariant.1, ap length c.unmark.ensures.items, shorter c.args.pid before.out),
    )
