use Rattle.zl_sched.proofs.Joining.{others_once}
use Rattle.zl_sched.proofs.ready.leave.Goals as goal

pub leave_each-requires : goal.leave_each-requires
leave_each-requires c k = rw c.leave_one.ensures.items (others_once c.args.pid c.args.ready.now.items c.requires.each_once k)
