use Rattle.zl_verify.proofs.Marking.{marks_more}
use Rattle.zl_verify.proofs.stretches.begins_of.Goals as goal

pub loop-place-preserved : goal.loop-place-preserved
loop-place-preserved c = rw (c.mark.ensures, c.jump_target.ensures) (marks_more _ _ _ c.loop-place.invariant)
