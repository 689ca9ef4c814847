use Rattle.zl_interp.proofs.Common.{arc_value, map, program_value, take, ◌≡◌}
use Rattle.zl_interp.proofs.program.shared_all.Given as goal

abbrev pub invariant-loop-program : goal.invariant-loop-program
invariant-loop-program l =
    map (λ program. program_value (arc_value program)) l.shared.items ≡ map (λ program. program_value (arc_value program)) (take l.program-index l.programs)
