use Rattle.zl_calls.proofs.tables.Taking.{not_live_refused}
use Rattle.zl_calls.proofs.calls.handle.replace.Goals as goal

pub returns-in_default : goal.returns-in_default
returns-in_default g c = not_live_refused c.args.pid c.args.table.now c.args.objects.now c.args.value c.args.asked (rw c.in_default.is at c.live_at.ensures)
