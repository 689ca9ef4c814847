use Rattle.zl_verify.proofs.Common.{arith}
use Rattle.zl_verify.proofs.Lifting.{put_low}
use Rattle.zl_verify.proofs.sparse.Lifted.put.Goals as goal

pub returns-then-place-len : goal.returns-then-place-len
returns-then-place-len c = put_low _ _ _ _ (omega arith) c.requires.low c.requires.known
