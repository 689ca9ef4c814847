use Rattle.zl_calls.proofs.Common.{get, sym, ◌∙◌, ◌≡◌}
use Rattle.zl_calls.proofs.calls.Cancelled.{found_entry, found_some, found_value, none_cancelled, some_cancelled}
use Rattle.zl_calls.proofs.calls.port.port_cancel.Goals as goal

pub returns-then-cancelled-eq0 : goal.returns-then-cancelled-eq0
returns-then-cancelled-eq0 g c =
    let same : c.in-Some.value ≡ c.args.source =
    found_value c.args.source c.in-Some.value c.in-Some.named (get c.args.table.now.entries c.args.source) (c.in-Some.ensures {u = tt}) in
    none_cancelled c.args.table.now c.args.objects.now c.args.pid c.args.port c.args.source c.args.key c.in_ok-receiver.receiver c.in-Some.named
    (sym c.look_up.ensures ∙ c.in_ok-receiver.was {u = tt})
    (found_entry c.args.source c.in-Some.value c.in-Some.named (get c.args.table.now.entries c.args.source) (c.in-Some.ensures {u = tt}))
    c.cancel_waits-any.new.objects (rw (same, rw same at c.cancel-cancelled.ensures.rest) at (sym c.cancel_waits-any.ensures.any ∙ c.if-not-any.true))
    (rw same at (sym c.cancel-cancelled.ensures.count ∙ c.if-cancelled-eq0.true))
    (c.cancel_waits-any.ensures.unchanged c.if-not-any.true ∙ rw same at c.cancel-cancelled.ensures.rest)

pub returns : goal.returns
returns g c =
    let same : c.in-Some.value ≡ c.args.source =
    found_value c.args.source c.in-Some.value c.in-Some.named (get c.args.table.now.entries c.args.source) (c.in-Some.ensures {u = tt}) in
    some_cancelled c.args.table.now c.args.objects.now c.args.pid c.args.port c.args.source c.args.key c.in_ok-receiver.receiver c.in-Some.named
    (sym c.look_up.ensures ∙ c.in_ok-receiver.was {u = tt})
    (found_entry c.args.source c.in-Some.value c.in-Some.named (get c.args.table.now.entries c.args.source) (c.in-Some.ensures {u = tt}))
    c.cancel_waits-any.new.objects
    (found_some c.args.table.now c.args.objects.now c.args.pid c.args.port c.args.source c.args.key c.in_ok-receiver.receiver c.in-Some.named
    (sym c.look_up.ensures ∙ c.in_ok-receiver.was {u = tt})
    (found_entry c.args.source c.in-Some.value c.in-Some.named (get c.args.table.now.entries c.args.source) (c.in-Some.ensures {u = tt}))
    c.cancel_waits-any.result c.cancel-cancelled.result
    (rw (same, rw same at c.cancel-cancelled.ensures.rest) at c.cancel_waits-any.ensures.any) (rw same at c.cancel-cancelled.ensures.count)
    c.else-not-any.either)
    (rw (same, rw same at c.cancel-cancelled.ensures.rest) at c.cancel_waits-any.ensures.ended)
