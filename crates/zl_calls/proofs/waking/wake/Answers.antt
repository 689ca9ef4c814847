use Rattle.zl_calls.proofs.Common.{sym, ◌∙◌}
use Rattle.zl_calls.proofs.waking.Listed.{crowded_wakes, in_order}
use Rattle.zl_calls.proofs.waking.wake.Goals as goal

pub wake_listed-requires-clause-ordered : goal.wake_listed-requires-clause-ordered
wake_listed-requires-clause-ordered c =
    in_order c.args.processes.now.list.items c.args.objects.now c.args.blocked.now.items c.requires.ordered (sym c.is_crowded.ensures ∙ c.if-is_crowded.false)

pub returns-then-is_crowded-clause-turns : goal.returns-then-is_crowded-clause-turns
returns-then-is_crowded-clause-turns c =
    crowded_wakes c.args.processes.now.list.items c.args.objects.now c.args.blocked.now.items c.args.started c.wake_each-woke.result
    c.wake_each-woke.new.processes.list.items
    c.wake_each-woke.new.objects c.wake_each-woke.new.blocked.items c.wake_each-woke.ensures.wakes c.wake_each-woke.ensures.consistent
    c.wake_each-woke.ensures.list c.wake_each-woke.ensures.held c.wake_each-woke.ensures.asleep c.wake_each-woke.ensures.told
    (sym c.is_crowded.ensures ∙ c.if-is_crowded.true) c.forget_sleepers.new.self c.forget_sleepers.ensures
