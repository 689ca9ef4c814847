use Rattle.zl_code.proofs.Common.{ap, get_or, refl, sym, ◌∙◌}
use Rattle.std.proofs.lemmas.List.{take_more}
use Rattle.zl_explore.specs.GoesAhead.{all_ahead}
use Rattle.zl_explore.specs.GoingAhead.{ahead, ahead_all, most_ahead}
use Rattle.zl_explore.specs.Private.{is_local}
use Rattle.zl_explore.specs.Running.{ready_of, rested_machine, turned}
use Rattle.zl_explore.proofs.GoingAhead.{ahead_more, takes_both, takes_none}
use Rattle.zl_explore.proofs.ahead.all_go_ahead.Goals as goal

pub loop-pid-init : goal.loop-pid-init
unfolding all_ahead
loop-pid-init c = (c.requires, refl, takes_none _ _ _ refl)

pub loop-pid-preserved : goal.loop-pid-preserved
loop-pid-preserved c =
    let start = rested_machine c.args.world.now in
    let pids = c.args.pids.now in
    let i = c.loop-pid.pid-index in (
      c.in_ok-go_ahead.ensures.still,
      c.in_ok-go_ahead.ensures.next
          ∙ (ap (λ s. ahead s (get_or pids i 0)) c.loop-pid.invariant.1
          ∙ sym (ap (ahead_all start) (take_more pids i 0 c.loop-pid-test.true)
          ∙ ahead_more ready_of turned is_local most_ahead (_) start (get_or pids i 0))),
      takes_both _ _ _ _ _ _ c.loop-pid.invariant.2 c.in_ok-go_ahead.ensures.taken,
    )
