use Rattle.zl_code.specs.Blocks.{marks_of}
use Rattle.zl_asm.specs.Paired.{Walked}
use Rattle.zl_asm.proofs.pairing.blocks_of.Given as goal

abbrev pub invariant-loop-n : goal.invariant-loop-n
invariant-loop-n l = Walked (marks_of l.code) l.homes.items l.ends.items l.home l.n
