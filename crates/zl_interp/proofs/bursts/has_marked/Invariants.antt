use Rattle.zl_interp.proofs.Common.{marked}
use Rattle.std.specs.Prelude.{◌*◌}
use Rattle.zl_interp.specs.Bursts.{IsSpelledFrom}
use Rattle.zl_interp.proofs.bursts.has_marked.Given as goal

abbrev pub invariant-loop-block : goal.invariant-loop-block
invariant-loop-block l = IsSpelledFrom l.code (marked l.own l.marks) 0 (l.block * 64)
