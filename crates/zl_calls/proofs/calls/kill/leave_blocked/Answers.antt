use Rattle.zl_calls.proofs.waking.BlockedLists.{all_blocked}
use Rattle.zl_calls.proofs.calls.kill.leave_blocked.Goals as goal

pub returns-else-not-all_stay-clause-items : goal.returns-else-not-all_stay-clause-items
returns-else-not-all_stay-clause-items c = all_blocked c.args.processes.now.list.items c.args.blocked.now.items (c.requires c.if-not-all_stay.false)
