use Rattle.zl_objects.proofs.Common.{Option, ap, at_drop_all, at_drop_more, drop, earlier, earliest_from, get_or, order_at, refl, sym, ℕ, ◌+◌, ◌∙◌}
use Rattle.zl_objects.proofs.due.earliest_among.Goals as goal

pub loop-koid-init : goal.loop-koid-init
loop-koid-init c = refl

pub loop-koid-preserved : goal.loop-koid-preserved
loop-koid-preserved c =
    let next = order_at c.args.by_koid.now.entries in
    let koids = c.args.koids.now in
    let place = c.loop-koid.koid-index in
    let found = c.earlier-earliest.ensures ∙ ap (λ (o : Option ℕ). earlier c.loop-koid.earliest o (get_or koids place 0)) c.order_at.ensures in
    ap (λ (first : Option (ℕ × ℕ)). earliest_from next first (drop (place + 1) koids)) found
    ∙ (sym (at_drop_more (earliest_from next c.loop-koid.earliest) koids place 0 c.loop-koid-test.true) ∙ c.loop-koid.invariant)

pub returns : goal.returns
returns c =
    sym (at_drop_all (earliest_from (order_at c.args.by_koid.now.entries) c.loop-koid.earliest) c.args.koids.now c.loop-koid.koid-index c.loop-koid-test.false)
    ∙ c.loop-koid.invariant
