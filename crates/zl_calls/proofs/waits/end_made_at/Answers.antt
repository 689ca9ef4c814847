use Rattle.zl_calls.proofs.Common.{is_made_at, sym, wait_at, ◌∙◌}
use Rattle.zl_signals.specs.Waits.{is_by_handle_here}
use Rattle.zl_calls.proofs.waits.OwnWaits.{none_end}
use Rattle.zl_calls.proofs.waits.TakenEnds.{all_taken, fewer_taken, one_taken, unless_empty}
use Rattle.zl_calls.proofs.waits.end_made_at.Goals as goal

pub loop-smaller : goal.loop-smaller
loop-smaller c =
    fewer_taken (is_made_at c.args.koid c.args.pid c.args.value) c.args.objects.now c.loop.objects c.loop.invariant c.args.koid
    (is_by_handle_here c.args.pid c.args.value) c.unwatch_handle.new.self c.unwatch_handle.ensures.rest (wait_at c.args.koid c.in-Some.field-0)
    (sym (c.in-Some.ensures {u = tt}).listed)

pub loop-preserved : goal.loop-preserved
loop-preserved c =
    one_taken (is_made_at c.args.koid c.args.pid c.args.value) c.args.objects.now c.loop.objects c.loop.invariant c.args.koid
    (is_by_handle_here c.args.pid c.args.value) c.unwatch_handle.new.self c.unwatch_handle.ensures.rest

pub returns : goal.returns
returns c =
    all_taken (is_made_at c.args.koid c.args.pid c.args.value) c.args.objects.now c.loop.objects c.loop.invariant c.args.koid
    (is_by_handle_here c.args.pid c.args.value) c.unwatch_handle.new.self c.unwatch_handle.ensures.rest (sym (c.in_default.ensures {u = tt}).listed)

pub returns-then-not-has_waits : goal.returns-then-not-has_waits
returns-then-not-has_waits c =
    none_end (is_made_at c.args.koid c.args.pid c.args.value) c.args.objects.now
    (unless_empty c.args.objects.now.waits (sym c.has_waits.ensures.any ∙ c.if-not-has_waits.true))
