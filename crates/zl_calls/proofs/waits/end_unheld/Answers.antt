use Rattle.zl_calls.proofs.Common.{is_keyed_here, sym, wait_value, ◌∙◌}
use Rattle.zl_calls.proofs.waits.Ending.{held_stays, unheld_ended, unheld_ends, unheld_fewer}
use Rattle.zl_calls.proofs.waits.end_unheld.Goals as goal

pub loop-wait-preserved-then-is_left : goal.loop-wait-preserved-then-is_left
loop-wait-preserved-then-is_left c =
    held_stays c.args.processes.now.list.items c.args.objects.now c.requires c.loop-wait.place c.loop-wait.objects c.loop-wait.invariant (wait_value
    c.in-Some.wait) (sym (c.in-Some.ensures {u = tt}).wait) (sym c.is_left.ensures ∙ c.if-is_left.true)

pub loop-wait-smaller : goal.loop-wait-smaller
loop-wait-smaller c =
    unheld_fewer c.args.processes.now.list.items c.args.objects.now c.requires c.loop-wait.place c.loop-wait.objects c.loop-wait.invariant (wait_value
    c.in-Some.wait) (sym (c.in-Some.ensures {u = tt}).wait) (sym c.is_left.ensures ∙ c.if-is_left.false)
    (is_keyed_here c.in-Some.wait.pid c.in-Some.wait.value c.in-Some.wait.port c.in-Some.wait.key) c.unwatch_key.new.self c.unwatch_key.ensures.rest

pub loop-wait-preserved : goal.loop-wait-preserved
loop-wait-preserved c =
    unheld_ends c.args.processes.now.list.items c.args.objects.now c.requires c.loop-wait.place c.loop-wait.objects c.loop-wait.invariant (wait_value
    c.in-Some.wait) (sym (c.in-Some.ensures {u = tt}).wait) (sym c.is_left.ensures ∙ c.if-is_left.false)
    (is_keyed_here c.in-Some.wait.pid c.in-Some.wait.value c.in-Some.wait.port c.in-Some.wait.key) c.unwatch_key.new.self c.unwatch_key.ensures.rest

pub returns : goal.returns
returns c =
    unheld_ended c.args.processes.now.list.items c.args.objects.now c.requires c.loop-wait.place c.loop-wait.objects c.loop-wait.invariant
    (sym (c.in_default.ensures {u = tt}).wait)
