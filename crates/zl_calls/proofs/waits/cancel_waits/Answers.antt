use Rattle.zl_calls.proofs.Common.{and_parts, is_keyed, is_keyed_at, is_keyed_here, refl, sym, wait_at}
use Rattle.zl_calls.proofs.waits.TakenEnds.{all_at, all_taken, any_ended, fewer_taken, one_cancelled}
use Rattle.zl_calls.proofs.waits.cancel_waits.Goals as goal

pub loop-any-smaller : goal.loop-any-smaller
loop-any-smaller c =
    fewer_taken (is_keyed_at c.args.koid c.args.pid c.args.value c.args.port c.args.key) c.args.objects.now c.loop-any.objects
    c.loop-any.invariant.taking c.args.koid (is_keyed_here c.args.pid c.args.value c.args.port c.args.key)
    c.unwatch_key.new.self c.unwatch_key.ensures.rest (wait_at c.args.koid c.in-Some.field-0)
    (sym (c.in-Some.ensures {u = tt}).listed)

pub loop-any-preserved : goal.loop-any-preserved
loop-any-preserved c =
    one_cancelled (is_keyed_at c.args.koid c.args.pid c.args.value c.args.port c.args.key) c.args.objects.now c.loop-any.any
    c.loop-any.objects c.loop-any.invariant c.args.koid
    (is_keyed_here c.args.pid c.args.value c.args.port c.args.key) c.unwatch_key.new.self c.unwatch_key.ensures.rest
    (wait_at c.args.koid c.in-Some.field-0) (sym (c.in-Some.ensures {u = tt}).listed)

pub returns-clause-ended : goal.returns-clause-ended
returns-clause-ended c =
    all_at c.args.koid (is_keyed c.args.pid c.args.value c.args.port c.args.key) c.args.objects.now (λ i d inside t. c.requires i d inside (and_parts _ _ t).0)
    c.unwatch_key.new.self (all_taken (is_keyed_at c.args.koid c.args.pid c.args.value c.args.port c.args.key) c.args.objects.now c.loop-any.objects
    c.loop-any.invariant.taking c.args.koid (is_keyed_here c.args.pid c.args.value c.args.port c.args.key)
    c.unwatch_key.new.self c.unwatch_key.ensures.rest (sym (c.in_default.ensures {u = tt}).listed))

pub returns-clause-any : goal.returns-clause-any
returns-clause-any c =
    any_ended (is_keyed_at c.args.koid c.args.pid c.args.value c.args.port c.args.key) c.args.objects.now c.loop-any.any
    c.loop-any.objects c.loop-any.invariant c.args.koid
    (is_keyed c.args.pid c.args.value c.args.port c.args.key) refl (λ i d inside t. c.requires i d inside (and_parts _ _ t).0)
    (sym (c.in_default.ensures {u = tt}).listed)
