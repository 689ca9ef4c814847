use Rattle.zl_objects.proofs.Common.{Map, Object, ap, at_port, sym, update, with_place, without_place, ◌∙◌, ◌≡◌}
use Rattle.zl_objects.proofs.Places.{place_back}
use Rattle.zl_objects.proofs.Whole.{if_err}
use Rattle.zl_objects.proofs.waits.stand.Goals as goal

pub returns-then-is_err-clause-unchanged : goal.returns-then-is_err-clause-unchanged
returns-then-is_err-clause-unchanged c =
    let reserved : c.reserve_wait.new.by_koid.entries ≡ update c.args.by_koid.now.entries c.args.wait.port (at_port with_place) =
    c.in_ok-reserve_wait.ensures.ok in
    let still : c.register.new.by_koid.entries ≡ c.reserve_wait.new.by_koid.entries =
    if_err c.register.result _ c.register.ensures.unchanged (sym (c.if-is_err.ensures {u = tt}).value) in
    c.give_back.ensures
    ∙ (ap (λ (m : Map Object). update m c.args.wait.port (at_port without_place)) (still ∙ reserved) ∙ place_back c.args.by_koid.now.entries c.args.wait.port)
