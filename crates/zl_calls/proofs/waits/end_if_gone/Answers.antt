use Rattle.zl_calls.proofs.Common.{sym, ◌∙◌}
use Rattle.zl_calls.proofs.waits.TakenEnds.{gone_ends, there_ends}
use Rattle.zl_calls.proofs.waits.end_if_gone.Goals as goal

pub returns-then-not-has_handle : goal.returns-then-not-has_handle
returns-then-not-has_handle c =
    gone_ends c.args.processes.now.list.items c.args.pid c.args.handle.now c.args.objects.now c.end_made_at.new.objects
    (sym c.has_handle.ensures ∙ c.if-not-has_handle.true) c.end_made_at.ensures

pub returns-else-not-has_handle : goal.returns-else-not-has_handle
returns-else-not-has_handle c =
    there_ends c.args.processes.now.list.items c.args.pid c.args.handle.now c.args.objects.now (sym c.has_handle.ensures ∙ c.if-not-has_handle.false)
