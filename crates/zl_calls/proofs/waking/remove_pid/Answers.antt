use Rattle.zl_calls.proofs.Common.{sym, ◌∙◌}
use Rattle.zl_calls.proofs.waking.WakeLoop.{removed_first, removed_none}
use Rattle.zl_calls.proofs.waking.remove_pid.Goals as goal

pub returns-in-Some-clause-items : goal.returns-in-Some-clause-items
returns-in-Some-clause-items c =
    c.remove.ensures.items
    ∙ removed_first c.args.pid c.args.blocked.now.items c.in-Some.place (rw c.deref.ensures.value at (sym c.place_of.ensures ∙ c.in-Some.is)) c.requires

pub returns-in_default-clause-items : goal.returns-in_default-clause-items
returns-in_default-clause-items c = removed_none c.args.pid c.args.blocked.now.items (rw c.deref.ensures.value at (sym c.place_of.ensures ∙ c.in_default.is))
