use Rattle.zl_verify.proofs.Common.{arith, marks_of}
use Rattle.zl_verify.proofs.Numbering.{passed_one}
use Rattle.zl_verify.proofs.steps.pass.Goals as goal

pub loop-place-preserved : goal.loop-place-preserved
loop-place-preserved c =
    let told = c.if-give.ensures {u = tt} in
    rw (told.same) (passed_one (marks_of c.args.image.now.code) c.args.targets.now c.args.most c.requires.nested _ _ _ _
    c.loop-place.invariant (omega arith) (rw (told.same) at told.stuck))
