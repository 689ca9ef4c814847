use Rattle.zl_code.proofs.Common.{map, true, ◌≡◌}
use Rattle.zl_code.specs.Blocks.{all_stay, marks_of}
use Rattle.zl_code.specs.Jumps.{jump_of}
use Rattle.zl_code.proofs.blocks.all_stay.Given as goal

abbrev pub invariant-loop-place : goal.invariant-loop-place
invariant-loop-place l = all_stay (marks_of l.code) (map jump_of l.code) l.place ≡ true
