use Rattle.zl_trace.proofs.Common.{arith, decimal_digit, refl}
use Rattle.zl_trace.proofs.recent.first.Goals as goal

pub invariant_of-result-clause-is_its : goal.invariant_of-result-clause-is_its
invariant_of-result-clause-is_its c = rw (c.copy_from_slice.ensures.after, decimal_digit 0 (omega arith)) refl
