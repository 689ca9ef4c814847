use Rattle.zl_asm.proofs.Common.{length, map, operands_after, operands_of, option_map, ◌++◌, ◌≡◌}
use Rattle.zl_asm.proofs.operands.split_operands.Given as goal

abbrev pub invariant-loop-rest : goal.invariant-loop-rest
invariant-loop-rest l =
    operands_of (map (λ w. w.now) l.words) ≡ option_map (λ more. map (λ w. w.now) l.operands.items ++ more) (operands_after (map (λ w. w.now) l.rest))

abbrev pub decreases-loop-rest : goal.decreases-loop-rest
decreases-loop-rest l = length l.rest
