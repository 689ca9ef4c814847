use Rattle.zl_port.proofs.Cancelled.{still_room}
use Rattle.zl_port.proofs.port.Port.cancel.Goals as goal

pub invariant_of-self : goal.invariant_of-self
invariant_of-self c =
    rw c.cancel.ensures.room (still_room c.args.source c.args.key _ _ c.cancel.ensures.rest _ _ _ c.self.invariant)
