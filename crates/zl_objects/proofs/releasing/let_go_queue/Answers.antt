use Rattle.zl_objects.proofs.Common.{Message, ap, arith, sym, ◌∙◌, ◌≡◌}
use Rattle.zl_objects.proofs.Budget.{message_went}
use Rattle.zl_objects.proofs.CalmChanges.{still_then}
use Rattle.zl_objects.proofs.releasing.let_go_queue.Goals as goal

pub loop-message-preserved : goal.loop-message-preserved
loop-message-preserved c =
    let handles : c.as_slice.result.now ≡ c.in-Some.message.handles = c.as_slice.ensures ∙ ap (λ (x : Message). x.handles) c.message.view_is in
    record {
      cheap = omega (arith, c.let_go_all.ensures.goes.cheap, c.loop-message.invariant.cheap);
      goes =
          λ m d later. c.loop-message.invariant.goes m d (message_went c.loop-message.queue c.take.new.self c.in-Some.message c.as_slice.result.now
          (sym c.take.ensures.first ∙ c.in-Some.is) c.take.ensures.rest handles
          c.loop-message.by_koid.entries c.let_go_all.new.by_koid.entries m c.loop-message.dying.items c.let_go_all.new.dying.items d
          c.let_go_all.ensures.goes later);
      still = still_then _ _ _ c.loop-message.invariant.still c.let_go_all.ensures.still;
      capacity = c.let_go_all.ensures.capacity ∙ c.loop-message.invariant.capacity;
    }

pub loop-message-preserved-in-Some : goal.loop-message-preserved-in-Some
loop-message-preserved-in-Some c =
    let handles : c.as_slice.result.now ≡ c.in-Some.message.handles = c.as_slice.ensures ∙ ap (λ (x : Message). x.handles) c.message.view_is in
    record {
      cheap = omega (arith, c.let_go_all.ensures.goes.cheap, c.loop-message.invariant.cheap);
      goes =
          λ m d later. c.loop-message.invariant.goes m d (message_went c.loop-message.queue c.take.new.self c.in-Some.message c.as_slice.result.now
          (sym c.take.ensures.first ∙ c.in-Some.is) c.take.ensures.rest handles
          c.loop-message.by_koid.entries c.let_go_all.new.by_koid.entries m c.loop-message.dying.items c.let_go_all.new.dying.items d
          c.let_go_all.ensures.goes later);
      still = still_then _ _ _ c.loop-message.invariant.still c.let_go_all.ensures.still;
      capacity = c.let_go_all.ensures.capacity ∙ c.loop-message.invariant.capacity;
    }
