use Rattle.std.proofs.Common.{string_bytes, take, ◌++◌, ◌≡◌}
use Rattle.std.specs.List.{flat_map}
use Rattle.zl_trace.specs.Text.{state_line}
use Rattle.zlab.proofs.ends.push_states.Given as goal

abbrev pub invariant-loop-pid : goal.invariant-loop-pid
invariant-loop-pid l = string_bytes l.text ≡ string_bytes l.initial.text ++ flat_map (λ p. state_line p.0 p.1) (take l.pid-index l.states)
