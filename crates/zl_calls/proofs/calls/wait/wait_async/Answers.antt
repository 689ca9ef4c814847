use Rattle.zl_calls.proofs.Common.{get, nat_lt, rules, sym, true, ◌^◌, ◌∙◌, ◌≡◌}
use Rattle.zl_calls.proofs.calls.Cancelled.{found_value, wait_registered}
use Rattle.zl_calls.proofs.calls.wait.wait_async.Goals as goal

pub returns-in-Ok-watch : goal.returns-in-Ok-watch
returns-in-Ok-watch g c =
    let same : c.from_bits_retain.result.0 ≡ c.args.mask = search rules in
    let masked : nat_lt c.args.mask (2 ^ 32) ≡ true = search rules in
    wait_registered c.args.table.now c.args.objects.now c.watch.new.self c.args.pid c.args.handle c.args.port c.args.key c.args.mask c.in_ok-watched.watched
    c.in_ok-receiver.receiver
    (sym c.look_up.ensures ∙ c.in_ok-watched.was {u = tt}) (sym c.look_up-2.ensures ∙ c.in_ok-receiver.was {u = tt})
    c.in-Some.value (found_value c.args.handle c.in-Some.value c.in-Some.field-0-1 (get c.args.table.now.entries c.args.handle) (c.in-Some.ensures {u = tt}))
    c.from_bits_retain.result same masked (sym c.may_register.ensures ∙ c.if-not-may_register.false) (c.in-Ok-watch.ensures {u = tt}).ok
