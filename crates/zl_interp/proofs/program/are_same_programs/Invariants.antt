use Rattle.zl_interp.proofs.Common.{arc_value, map, program_value, take, ◌≡◌}
use Rattle.zl_interp.proofs.program.are_same_programs.Given as goal

abbrev pub invariant-loop-n : goal.invariant-loop-n
invariant-loop-n l = map (λ program. program_value (arc_value program)) (take l.n l.one) ≡ map (λ program. program_value (arc_value program)) (take l.n l.other)
