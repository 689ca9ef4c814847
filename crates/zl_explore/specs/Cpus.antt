-- Worlds that differ in what some processes compute with.
use Rattle.std.specs.Prelude.{ℕ, ◌≡◌, Bool, true, false, Option, None, unwrap_or}
use Rattle.zl_rights.specs.Common.{each, is_process, World, Process, Cpu, State, Created, Blocked}
use Rattle.zl_code.specs.Own.{OwnWorld}

-- the Cpus that some processes get, by koid
abbrev pub Cpus : Type 0
Cpus = ℕ → Option Cpu

-- the process with the Cpu, if it gets one
abbrev pub with_cpu : Option Cpu → Process → Process
with_cpu c q = record q { cpu = unwrap_or c q.cpu }

-- the world where these have such Cpus
abbrev pub with_cpus : Cpus → World → World
with_cpus f w = record w { processes = each (λ k q. with_cpu (f k) q) w.processes }

-- made and not started, or within a wait: others may start or wake it
abbrev pub may_be_woken : State → Bool
may_be_woken Created = true
may_be_woken (Blocked awaited destinations) = true
may_be_woken _ = false

-- no process gets a Cpu that others may change
abbrev pub Spares : Cpus → World → Type 0
Spares f w = (k : ℕ) → is_process w may_be_woken k ≡ true → f k ≡ None

-- the same, with the values of each process
abbrev pub own_with : Cpus → OwnWorld → OwnWorld
own_with f o = record o { world = with_cpus f o.world }
