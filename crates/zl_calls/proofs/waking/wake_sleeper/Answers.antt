use Rattle.zl_calls.proofs.Common.{Some, ap, false≢true, is_same, none-some, refl, same_Some, subst, sym, true, ◌∙◌, ◌≡◌}
use Rattle.zl_objects.specs.declared.awaited.Awaited.{Awaited}
use Rattle.zl_calls.proofs.waking.Listed.{awaited_same, counter_of, same_awaited, sleeper_misses, sleeper_turn}
use Rattle.zl_calls.proofs.waking.wake_sleeper.Goals as goal

pub wake_one-requires-clause-counter : goal.wake_one-requires-clause-counter
wake_one-requires-clause-counter c =
    counter_of c.args.processes.now.list.items c.requires.counters c.args.sleeper.now.pid c.in-Some.awaited (sym c.awaited_by.ensures ∙ c.in-Some.is)

pub returns-then-is_same : goal.returns-then-is_same
returns-then-is_same c =
    let waits = sym c.awaited_by.ensures ∙ (c.in-Some.is
    ∙ ap (λ (a : Awaited). Some a) (same_awaited c.in-Some.awaited c.args.sleeper.now.awaited (sym c.is_same.ensures ∙ c.if-is_same.true))) in
    sleeper_turn c.args.sleeper.now c.wake_one.result c.args.processes.now.list.items c.args.objects.now c.wake_one.new.processes.list.items
    c.wake_one.new.objects waits (c.wake_one.ensures.due c.args.sleeper.now.awaited waits ∙ c.requires.due) c.wake_one.ensures.wakes c.wake_one.ensures.asleep

pub returns-else-is_same : goal.returns-else-is_same
returns-else-is_same c =
    sleeper_misses c.args.sleeper.now c.is_same.result c.args.processes.now.list.items c.args.objects.now
    (λ is. absurd (false≢true (sym c.if-is_same.false ∙ (c.is_same.ensures ∙ subst (λ (a : Awaited). is_same a c.args.sleeper.now.awaited ≡ true)
    (same_Some c.args.sleeper.now.awaited c.in-Some.awaited (sym is ∙ (sym c.awaited_by.ensures ∙ c.in-Some.is)))
    (awaited_same c.args.sleeper.now.awaited))))) c.if-is_same.false

pub returns-in-None : goal.returns-in-None
returns-in-None c = (λ is. absurd (none-some c.args.sleeper.now.awaited (sym (sym c.awaited_by.ensures ∙ c.in-None.is) ∙ is)), refl, refl)
