use Rattle.zl_verify.proofs.sparse.Lifted.hand_back.Goals as goal

pub loop-stretch-preserved : goal.loop-stretch-preserved
loop-stretch-preserved c = c.hand_one_back.ensures c.if-not-hand_one_back.false
