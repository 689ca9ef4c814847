use Rattle.zl_verify.proofs.Common.{arith}
use Rattle.zl_verify.proofs.Marking.{numbers_pushed}
use Rattle.zl_verify.proofs.stretches.numbered.Goals as goal

pub loop-place-preserved : goal.loop-place-preserved
loop-place-preserved c =
    numbers_pushed _ _ _ _ _ _ c.loop-place.invariant (omega arith) (omega (arith, c.len.ensures, c.loop-place.starts.ok.0))
    (rw (c.if-is_err.ensures {u = tt}).negation at c.push.ensures.items)
