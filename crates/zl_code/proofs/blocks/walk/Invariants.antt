use Rattle.zl_code.specs.Blocks.{Walked, marks_of}
use Rattle.zl_code.proofs.blocks.walk.Given as goal

abbrev pub invariant-loop-place : goal.invariant-loop-place
invariant-loop-place l = Walked (marks_of l.code) l.homes.items l.depth l.place
