use Rattle.zl_calls.proofs.step.Places.{pid_at}
use Rattle.zl_calls.proofs.world.World.process_at.Goals as goal

pub returns-clause-koid : goal.returns-clause-koid
returns-clause-koid c =
    let read = c.in_ok-get.ensures.lookup in
    let p = c.in_ok-get.field-0.now in
    rw (← c.self.view_is) (pid_at c.self.inside.parts.processes.list.items c.args.n p (rw c.deref.ensures.value at read.3.0) (rw c.deref.ensures.value at
    (read.3.1
    p)))
