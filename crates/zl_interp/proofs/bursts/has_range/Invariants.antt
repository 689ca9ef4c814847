use Rattle.zl_interp.proofs.Common.{marked}
use Rattle.zl_interp.specs.Bursts.{IsSpelledFrom}
use Rattle.zl_interp.proofs.bursts.has_range.Given as goal

abbrev pub invariant-loop-n : goal.invariant-loop-n
invariant-loop-n l = IsSpelledFrom l.code (marked l.own l.marks) l.start l.n
