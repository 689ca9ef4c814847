use Rattle.zl_asm.proofs.Common.{drop, ◌++◌, ◌≡◌}
use Rattle.zl_code.specs.Blocks.{marks_of}
use Rattle.zl_asm.specs.Paired.{joined_code}
unfoldable use Rattle.zl_asm.specs.Paired.{joined_from}
use Rattle.zl_asm.proofs.pairing.joined_code.Given as goal

abbrev pub invariant-loop-n : goal.invariant-loop-n
invariant-loop-n l = l.joined.items ++ joined_from (marks_of l.code) l.n (drop l.n l.code) ≡ joined_code l.code
