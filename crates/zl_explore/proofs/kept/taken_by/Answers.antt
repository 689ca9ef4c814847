use Rattle.zl_code.proofs.Common.{ap, get_or, sym, take, ◌∙◌}
use Rattle.std.proofs.lemmas.List.{take_more}
use Rattle.zl_explore.specs.GoingAhead.{reduced, start_of}
use Rattle.zl_explore.specs.Paths.{after}
use Rattle.zl_explore.specs.Running.{ready_of}
use Rattle.zl_explore.proofs.GoingAhead.{takes_both}
use Rattle.zl_explore.proofs.Leading.{after_more}
use Rattle.zl_explore.proofs.kept.taken_by.Goals as goal

pub loop-pid-init : goal.loop-pid-init
unfolding after
loop-pid-init c = (
  c.in_ok-at.ensures.next ∙ ap start_of c.in_ok-copy.ensures,
  rw (c.in_ok-copy.ensures, c.new-taken.ensures.items) at c.in_ok-at.ensures.taken,
)

pub loop-pid-preserved : goal.loop-pid-preserved
loop-pid-preserved c =
    let start = start_of c.args.root.now in
    let turns = c.args.turns.now in
    let i = c.loop-pid.pid-index in
    let pid = get_or turns i 0 in (
      c.in_ok-at-2.ensures.next
          ∙ (ap (λ s. reduced s pid) c.loop-pid.invariant.0
          ∙ sym (ap (after ready_of reduced start) (take_more turns i 0 c.loop-pid-test.true) ∙ after_more ready_of reduced (take i turns) start pid)),
      takes_both _ _ _ _ _ _ c.loop-pid.invariant.1 c.in_ok-at-2.ensures.taken,
    )
