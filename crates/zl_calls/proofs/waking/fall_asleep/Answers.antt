use Rattle.zl_calls.proofs.Common.{false≢true, is_asleep, sym, ◌∙◌}
use Rattle.zl_calls.proofs.waking.StillBlocked.{known_asleep, not_asleep}
use Rattle.zl_calls.proofs.waking.fall_asleep.Goals as goal

pub returns-then-not-is_asleep : goal.returns-then-not-is_asleep
returns-then-not-is_asleep c =
    not_asleep c.args.processes.now.list.items c.args.pid (is_asleep c.args.effect) c.args.objects.now
    (λ told a is. false≢true (sym c.if-not-is_asleep.true ∙ (c.is_asleep.ensures ∙ told)))

pub returns-in-Some : goal.returns-in-Some
returns-in-Some c =
    known_asleep c.args.processes.now.list.items c.args.pid (is_asleep c.args.effect) c.args.objects.now c.sleep.new.self c.in-Some.awaited
    (sym c.awaited_by.ensures ∙ c.in-Some.is) c.sleep.ensures.there c.sleep.ensures.others c.sleep.ensures.order
    c.sleep.ensures.same (sym c.is_asleep.ensures ∙ c.if-not-is_asleep.false)
