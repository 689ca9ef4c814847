use Rattle.zl_verify.proofs.Common.{arith}
use Rattle.zl_verify.proofs.Behind.{set_here}
use Rattle.zl_verify.proofs.changing.value_set.Goals as goal

pub returns-then-is_it : goal.returns-then-is_it
returns-then-is_it c = set_here _ _ _ _ (rw c.if-is_it.true at c.is_it.ensures.value) (omega (arith, c.requires, c.is_it.ensures.inside))
