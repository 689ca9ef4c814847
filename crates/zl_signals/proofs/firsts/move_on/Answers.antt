use Rattle.zl_rights.proofs.Common.{◌^◌}
use Rattle.zl_signals.specs.Firsts.{IsMoved}
use Rattle.zl_signals.proofs.BySignal.{all_done, one_done}
use Rattle.zl_signals.proofs.firsts.move_on.Goals as goal

pub loop-left-preserved : goal.loop-left-preserved
loop-left-preserved c =
    let inv = c.loop-left.invariant in
    let low = c.lowest-place.ensures in
    one_done (λ i first first2. IsMoved c.args.waits.now c.args.number (2 ^ i) first first2) c.args.mask.0 c.args.firsts.now c.loop-left.left
    c.without-left.result c.lowest-place.result c.moved.result c.loop-left.firsts low.inside c.without-left.ensures
    (rw (c.signal_at.ensures, inv.rest c.lowest-place.result low.inside low.there) at c.moved.ensures) inv

pub returns : goal.returns
returns c =
    all_done (λ i first first2. IsMoved c.args.waits.now c.args.number (2 ^ i) first first2) c.args.mask.0 c.args.firsts.now c.loop-left.firsts
    (rw c.loop-left-test.false at c.loop-left.invariant)
