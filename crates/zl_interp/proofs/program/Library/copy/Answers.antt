use Rattle.zl_interp.proofs.Common.{IsVerified, subst, sym}
use Rattle.zl_interp.proofs.program.Library.copy.Goals as goal

pub invariant_of-result : goal.invariant_of-result
invariant_of-result c = subst IsVerified (sym (rw c.deref.ensures.value at c.in_ok-shared_all.ensures)) c.self.invariant
