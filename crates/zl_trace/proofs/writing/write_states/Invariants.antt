use Rattle.zl_trace.proofs.Common.{Gathers, flat_map, state_line, states_of, string_bytes, take}
use Rattle.zl_trace.proofs.writing.write_states.Given as goal

abbrev pub invariant-loop-n : goal.invariant-loop-n
invariant-loop-n g l =
    Gathers (g.W.Write.contents l.initial.writer) (string_bytes l.initial.block) (g.W.Write.contents l.writer) (string_bytes l.block)
    (flat_map (λ p. state_line p.0 p.1) (take l.n (states_of l.world.world)))
