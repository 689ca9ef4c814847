use Rattle.zl_interp.proofs.Common.{[], drop, used, ◌≡◌}
use Rattle.zl_rights.specs.World.{written}
use Rattle.zl_interp.proofs.cpu.Cpu.clear.Given as goal

abbrev pub invariant-loop-place : goal.invariant-loop-place
invariant-loop-place l =
    record l.initial.self { registers = written l.initial.self.registers (used l.handles.places) [] }
    ≡ record l.self { registers = written l.self.registers (used (drop l.place l.handles.places)) [] }
