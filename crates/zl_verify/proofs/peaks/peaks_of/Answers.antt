use Rattle.zl_verify.proofs.Common.{arith}
use Rattle.zl_verify.proofs.Blocked.{count_marks}
use Rattle.zl_verify.proofs.Peaking.{peaks_begin, peaks_more}
use Rattle.zl_verify.proofs.peaks.peaks_of.Goals as goal

pub loop-place-init : goal.loop-place-init
loop-place-init c =
    peaks_begin _ _ _ _ c.requires.nested c.requires.longest _ _
    (let l = (c.in_ok-peaks.ensures {u = tt}).len in omega (arith, c.len.ensures.value, count_marks c.args.image.now.code))
    (omega (arith, c.len-place.ensures.value, count_marks c.args.image.now.code))

pub loop-place-preserved : goal.loop-place-preserved
loop-place-preserved c =
    rw (c.peak_at.ensures, c.deref.ensures.value, c.deref-in-loop-place.ensures.value)
    (peaks_more _ _ _ _ c.requires.nested c.requires.longest c.in_ok-homes.homes.items _ _ _ c.loop-place.invariant (omega arith)
    (omega (arith, c.loop-place.auto.place, c.len-place.ensures.value, count_marks c.args.image.now.code))
    (omega (arith, c.loop-place.auto.place, c.len-place.ensures.value)) (c.in_ok-homes.ensures {u = tt}))
