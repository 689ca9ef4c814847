use Rattle.zl_verify.proofs.Common.{arith, sym, ◌∙◌}
use Rattle.zl_verify.proofs.Blocked.{count_marks}
use Rattle.zl_verify.proofs.Peaking.{no_home, homes_more, homes_end}
use Rattle.zl_verify.proofs.peaks.homes_of.Goals as goal

pub loop-place-init : goal.loop-place-init
loop-place-init c = no_home _ _ c.requires _ _ (c.len.ensures.value ∙ sym (count_marks c.args.image.now.code)) (c.in_ok-homes.ensures {u = tt})

pub loop-place-preserved : goal.loop-place-preserved
loop-place-preserved c =
    rw (c.home_behind.ensures, c.mark_at.ensures, c.deref.ensures.value)
    (homes_more _ _ c.requires _ _ c.loop-place.invariant (omega (arith, c.loop-place.auto.place))
    (omega (arith, c.loop-place-test.true, c.len-place-end.ensures.value, count_marks c.args.image.now.code)))

pub returns : goal.returns
returns c = homes_end _ _ c.requires _ _ _ c.loop-place.invariant (omega (arith, c.loop-place-test.false, c.len-place-end.ensures.value))
