-- What a process does by itself, away from the world, and how the world takes it back.
use Rattle.std.specs.Prelude.{ℕ, ◌≡◌, List, Some, replicate}
use Rattle.std.specs.Option.{option_map}
use Rattle.zl_code.specs.Common.{get, Cpu, Program, on_process}
use Rattle.zl_code.specs.Starting.{program_of}
use Rattle.zl_code.specs.declared.history.TraceItem.{TraceItem}
use Rattle.zl_code.specs.declared.history.TraceItem.TheVariants as item
use Rattle.zl_interp.specs.Bursts.{Turn, Done, Matches}
use Rattle.zl_calls.specs.World.{Machine}

-- this program and this Cpu stand here for the process
pub record Stands (m : Machine) (pid : ℕ) (program : Program) (cpu : Cpu) : Type 0 where
  pub program_is : program_of m.programs m.world pid ≡ Some program
  pub cpu_is : option_map (λ p. p.cpu) (get m.world.processes pid) ≡ Some cpu

-- the turn is one of the process, with its program and its Cpu as they stand
pub record IsTurn (m : Machine) (pid : ℕ) (t : Turn) : Type 0 where
  pub pid_is : t.pid ≡ pid
  pub stands : Stands m pid t.program t.cpu

-- what was done began with the Cpu that stands here for its process, by instructions of the program that stands here, which has its version
pub record Fits (m : Machine) (d : Done) : Type 0 where
  pub program : Program
  pub stands : Stands m d.pid program d.from
  pub matches : Matches program.image d

-- the world in which its process has the Cpu with which it ended
abbrev pub advanced : Machine → Done → Machine
advanced m d = record m { world = on_process m.world d.pid (λ p. record p { cpu = d.to }) }

-- an item for each local instruction that was done
abbrev pub steps_done : Done → List TraceItem
steps_done d = replicate d.ran (item.Run d.pid 1)
