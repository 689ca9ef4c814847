use Rattle.zl_code.proofs.Common.{ap, sym, ◌∙◌, ◌≡◌}
use Rattle.zl_calls.specs.World.{own_here}
use Rattle.zl_explore.specs.GoingAhead.{ahead_all, going}
use Rattle.zl_explore.specs.Running.{ready_of, rested_machine, turned}
use Rattle.zl_explore.proofs.GoingAhead.{takes_both}
use Rattle.zl_explore.proofs.Turns.{ready_same}
use Rattle.zl_explore.proofs.ahead.take_turn.Goals as goal

pub returns-clause-next : goal.returns-clause-next
returns-clause-next c =
    let s = rested_machine c.args.world.now in
    let mid : rested_machine c.step.new.world ≡ turned s c.args.pid = c.in_ok-told.ensures.next in
    let before : c.deref.result.now ≡ ready_of s = c.deref.ensures.value ∙ (c.in_ok-before.ensures ∙ sym (ready_same (own_here c.args.world.now))) in
    let behind : c.deref-2.result.now ≡ ready_of (turned s c.args.pid) =
    c.deref-2.ensures.value ∙ (c.in_ok-behind.ensures ∙ (sym (ready_same (own_here c.step.new.world)) ∙ ap ready_of mid)) in
    c.in_ok-all_go_ahead.ensures.next
    ∙ (λ i. ahead_all (mid i) ((c.deref-3.ensures.value ∙ (c.in_ok-going.ensures ∙ λ j. going (before j) c.args.pid (behind j))) i))

pub returns-clause-taken : goal.returns-clause-taken
returns-clause-taken c = takes_both _ _ _ _ _ _ c.in_ok-told.ensures.taken c.in_ok-all_go_ahead.ensures.taken
