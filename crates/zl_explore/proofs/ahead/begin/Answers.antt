use Rattle.zl_code.proofs.Common.{ap, sym, ◌∙◌}
use Rattle.zl_calls.specs.World.{own_here}
use Rattle.zl_explore.specs.GoingAhead.{ahead_all}
use Rattle.zl_explore.specs.Running.{rested_machine}
use Rattle.zl_explore.proofs.Turns.{ready_same}
use Rattle.zl_explore.proofs.ahead.begin.Goals as goal

pub returns-clause-next : goal.returns-clause-next
returns-clause-next c =
    c.in_ok-all_go_ahead.ensures.next
    ∙ ap (ahead_all (rested_machine c.args.world.now)) (c.deref.ensures.value ∙ (c.in_ok-ready.ensures ∙ sym (ready_same (own_here c.args.world.now))))
