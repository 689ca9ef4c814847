use Rattle.zl_verify.proofs.Common.{arith}
use Rattle.zl_verify.proofs.Lifting.{known_rises}
use Rattle.zl_verify.proofs.sparse.Lifted.raise.Goals as goal

pub returns-then-raise_known : goal.returns-then-raise_known
returns-then-raise_known c = known_rises _ _ _ _ _ _ _ (omega arith) c.requires.low c.requires.known c.index_mut.ensures.value c.raise_known.ensures

pub returns-else-raise_known : goal.returns-else-raise_known
returns-else-raise_known c = known_rises _ _ _ _ _ _ _ (omega arith) c.requires.low c.requires.known c.index_mut.ensures.value c.raise_known.ensures
