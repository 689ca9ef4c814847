use Rattle.zl_asm.proofs.Common.{held_by, map}
use Rattle.zl_asm.proofs.ListingText.{SoFar}
use Rattle.zl_asm.proofs.assembling.read_lines.Given as goal

abbrev pub invariant-loop-index : goal.invariant-loop-index
invariant-loop-index l = SoFar (map (λ x. x.1.now) l.yielded) (held_by l.draft)
