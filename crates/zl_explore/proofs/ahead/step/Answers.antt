use Rattle.zl_code.proofs.Common.{Some, ap, subst, sym, ◌∙◌, ◌≡◌}
use Rattle.zl_code.specs.OwnSteps.{own_step}
use Rattle.zl_calls.specs.World.{own_here}
use Rattle.zl_explore.specs.Paths.{IsIn}
use Rattle.zl_explore.specs.Private.{IsStill}
use Rattle.zl_explore.specs.Running.{rested_machine, turned}
use Rattle.zl_explore.proofs.GoingAhead.{takes_none, takes_one}
use Rattle.zl_explore.proofs.Steps.{no_turn, one_turn, told_none, told_one}
use Rattle.zl_explore.proofs.Still.{still_behind}
use Rattle.zl_explore.proofs.Turns.{ready_same, steps_ready}
use Rattle.zl_explore.proofs.ahead.step.Goals as goal

pub returns-in_default-clause-next : goal.returns-in_default-clause-next
returns-in_default-clause-next c =
    ap rested_machine c.in_default.ensures.unchanged ∙ sym (no_turn c.args.world.now c.args.pid c.in_default.ensures.not_ready)

pub returns-in_default-clause-told : goal.returns-in_default-clause-told
returns-in_default-clause-told c = sym (told_none c.args.world.now c.args.pid c.in_default.ensures.not_ready)

pub returns-in_default-clause-taken : goal.returns-in_default-clause-taken
returns-in_default-clause-taken c = takes_none _ _ _ (ap rested_machine c.in_default.ensures.unchanged)

-- it is the own step, as no memory was wanted
is_own : (c : goal.In_ok-push) → own_step c.args.world.now.programs (own_here c.args.world.now) c.args.pid
    ≡ Some (own_here c.step.new.self, c.in-Some.item)
is_own c = c.in-Some.ensures.own (sym c.wants_memory.ensures ∙ c.if-wants_memory.false)

leads : (c : goal.In_ok-push) → rested_machine c.put_back.new.self ≡ turned (rested_machine c.args.world.now) c.args.pid
leads c =
    ap rested_machine c.put_back.ensures
    ∙ sym (one_turn c.args.world.now c.step.new.self c.args.pid c.in-Some.item c.requires.order c.in-Some.ensures.ran.takes.steps.programs (is_own c))

pub returns-clause-still : goal.returns-clause-still
returns-clause-still c = subst (λ m. IsStill (own_here m)) (sym c.put_back.ensures)
    (still_behind c.args.world.now.programs (own_here c.args.world.now) (own_here c.step.new.self) c.args.pid c.in-Some.item c.requires.order (is_own c))

pub returns-clause-next : goal.returns-clause-next
returns-clause-next c = leads c

pub returns-clause-taken : goal.returns-clause-taken
returns-clause-taken c = takes_one _ _ _ _ c.args.pid c.in_ok-push.ensures.items
    (subst (λ ks. IsIn ks c.args.pid) (sym (ready_same (own_here c.args.world.now)))
    (steps_ready c.args.world.now.programs (own_here c.args.world.now) (own_here c.step.new.self) c.args.pid c.in-Some.item (is_own c)))
    (leads c)

pub returns-clause-told : goal.returns-clause-told
returns-clause-told c = sym (told_one c.args.world.now (own_here c.step.new.self) c.args.pid c.in-Some.item c.requires.order (is_own c))
