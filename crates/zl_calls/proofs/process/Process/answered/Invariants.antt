use Rattle.zl_calls.proofs.Common.{drop, status_magnitude, written, ◌∷◌, ◌≡◌}
use Rattle.zl_calls.proofs.process.Process.answered.Given as goal

abbrev pub invariant-loop-n : goal.invariant-loop-n
invariant-loop-n l =
    record l.initial.self {
      cpu = record l.initial.self.cpu { registers = written l.initial.self.cpu.registers l.destinations (status_magnitude l.status ∷ l.values) };
    }
    ≡ record l.self {
      cpu = record l.self.cpu { registers = written l.self.cpu.registers (drop l.n l.destinations) (drop l.n (status_magnitude l.status ∷ l.values)) };
    }
