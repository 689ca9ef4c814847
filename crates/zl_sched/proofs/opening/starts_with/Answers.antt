use Rattle.zl_sched.proofs.Beginnings.{begins}
use Rattle.zl_sched.proofs.opening.starts_with.Goals as goal

pub returns : goal.returns
returns c = begins c.args.first.now c.args.items.now c.are_same_items.result c.are_same_items.ensures
