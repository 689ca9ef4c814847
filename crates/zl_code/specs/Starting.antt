-- What a process begins with, whether boot makes it or a call.
use Rattle.std.specs.Prelude.{ℕ, ◌+◌, Bool, true, false, List, [], ◌∷◌, replicate, map, Option, Some, None, slice_get, slice_set}
use Rattle.zl_rights.specs.Common.{get, World, Cpu, Process, State, Created, Ready}
use Rattle.zl_code.specs.Image.{Library, Program}

-- ---- a process that isn't started yet

-- the Cpu of a process before its first instruction: all is 0
abbrev pub blank_cpu : Option Program → Cpu
blank_cpu None = record { counter = 0; registers = replicate 32 0; memory = []; slots = []; counters = [] }
blank_cpu (Some g) = record {
  counter = 0;
  registers = replicate 32 0;
  memory = replicate g.image.memory 0;
  slots = map (λ s. replicate s.length 0) g.image.slots;
  counters = [];
}

-- a process that is to run the program, without handles
abbrev pub created_process : Library → ℕ → Process
created_process lib program = record {
  program = program;
  cpu = blank_cpu (slice_get lib program);
  state = Created;
  handles = [];
  last = None;
}

-- ---- its start

-- made, and not started yet
abbrev pub is_created : State → Bool
is_created Created = true
is_created _ = false

-- the program of the process that was found
abbrev pub program_in : Library → Option Process → Option Program
program_in lib None = None
program_in lib (Some q) = slice_get lib q.program

-- the program that the process k of the world runs, or is to run
abbrev pub program_of : Library → World → ℕ → Option Program
program_of lib w k = program_in lib (get w.processes k)

-- the registers with these values, from number n on
abbrev pub set_from : ℕ → List ℕ → List ℕ → List ℕ
set_from n [] registers = registers
set_from n (v ∷ vs) registers = set_from (n + 1) vs (slice_set registers n v)

-- the registers with the first handle in register 0 and the others from register 2 on
abbrev pub with_handles : List ℕ → List ℕ → List ℕ
with_handles [] registers = registers
with_handles (v ∷ vs) registers = set_from 2 vs (slice_set registers 0 v)

-- the Cpu with the values of its handles, and the word in register 1
abbrev pub cpu_given : List ℕ → ℕ → Cpu → Cpu
cpu_given vs word c = record c { registers = slice_set (with_handles vs c.registers) 1 word }

-- the process is ready, and has the values of its handles and the word
abbrev pub started_with : List ℕ → ℕ → Process → Process
started_with vs word q = record q { state = Ready; cpu = cpu_given vs word q.cpu }
