-- Steps, runs and legal histories.
use Rattle.std.specs.Prelude.{ℕ, ◌≡◌, Bool, true, nat_lt, List, [], ◌∷◌, replicate, Option, Some, None, slice_get, IsTrue}
use Rattle.std.specs.List.{flat_map, list_all}
use Rattle.zl_rights.specs.Common.{STUCK, get, World, Cpu, Process, Ready, Settles, wakes}
use Rattle.zl_code.specs.declared.instr.Instr.{Instr}
use Rattle.zl_code.specs.declared.instr.Instr.TheVariants as instr
use Rattle.zl_code.specs.declared.history.CallName.{CallName}
use Rattle.zl_code.specs.declared.history.Outcome.{Outcome}
use Rattle.zl_code.specs.declared.history.TraceItem.{TraceItem}
use Rattle.zl_code.specs.declared.history.TraceItem.TheVariants as item
use Rattle.zl_code.specs.Image.{Library, Program, Image, instr_at}
use Rattle.zl_code.specs.Local.{local_effect}
use Rattle.zl_code.specs.Request.{Site, site_of}
use Rattle.zl_code.specs.Effects.{on_process, ended}
use Rattle.zl_code.specs.Calls.{Calls}

-- ---- what stands next

-- what a process does next: go on by itself, make a system call, or nothing, as it is stuck
pub data Next : Type 0 where
  -- a local instruction, which leads to this Cpu
  Moves : (to : Cpu) → Next
  AtCall : (call : CallName) (site : Site) → Next
  IsStuck : Next

-- a local instruction without an effect leaves its process stuck
abbrev pub moves : Option Cpu → Next
moves None = IsStuck
moves (Some c) = Moves c

-- so does a call whose memory isn't there
abbrev pub calls_at : CallName → Option Site → Next
calls_at call None = IsStuck
calls_at call (Some s) = AtCall call s

-- Stuck: the counter is outside the code, or the opcode is unknown, or the instruction has no effect here.
abbrev pub next_of : Option Instr → Cpu → Next
next_of None c = IsStuck
next_of (Some (instr.Local i)) c = moves (local_effect i c)
next_of (Some (instr.Call i)) c = calls_at i.name (site_of i c)
next_of (Some (instr.Unknown bytes)) c = IsStuck

-- what the Cpu does next
unfoldable pub next_at : Image → Cpu → Next
next_at i c = next_of (instr_at i c.counter) c

-- what the Cpu does next in a program of the library, or in none
abbrev pub next_in : Option Program → Cpu → Next
next_in None c = IsStuck
next_in (Some g) c = next_at g.image c

-- what a process of the library does next
abbrev pub next_for : Library → Process → Next
next_for lib process = next_in (slice_get lib process.program) process.cpu

-- ---- one step

-- what p does with what stands next
abbrev pub Acts : Library → World → ℕ → Next → TraceItem → World → Type 0
Acts lib w p (Moves c) x w2 = (x ≡ item.Run p 1) × (w2 ≡ on_process w p (λ q. record q { cpu = c }))
Acts lib w p (AtCall call s) x w2 = (outcome : Outcome) × (x ≡ item.Call p call outcome) × Calls lib w p s outcome w2
Acts lib w p IsStuck x w2 = (x ≡ item.Stuck p) × (w2 ≡ ended w p STUCK)

-- p is ready in w and acts; then what isn't held goes, waits give their packets, and processes wake
pub record Step (lib : Library) (w : World) (p : ℕ) (x : TraceItem) (w2 : World) : Type 0 where
  pub process : Process
  pub is_there : get w.processes p ≡ Some process
  pub is_ready : process.state ≡ Ready
  pub acted : World
  pub acts : Acts lib w p (next_for lib process) x acted
  pub settled : World
  pub settles : Settles acted settled
  pub ends_awake : w2 ≡ wakes settled

-- ---- runs and histories

-- the process that the item tells of
abbrev pub pid_of : TraceItem → ℕ
pid_of (item.Run pid count) = pid
pid_of (item.Call pid call outcome) = pid
pid_of (item.Stuck pid) = pid

-- the items, each of one step, lead from w to w2
abbrev pub Runs : Library → World → List TraceItem → World → Type 0
Runs lib w [] w2 = w2 ≡ w
Runs lib w (x ∷ items) w2 = (mid : World) × Step lib w (pid_of x) x mid × Runs lib mid items w2

-- the steps for which an item stands
abbrev pub single : TraceItem → List TraceItem
single (item.Run pid count) = replicate count (item.Run pid 1)
single x = x ∷ []

-- no item stands for zero local instructions
abbrev pub has_count : TraceItem → Bool
has_count (item.Run pid count) = nat_lt 0 count
has_count _ = true

-- the history stands for a run from the boot world to w
pub record IsLegalHistory (lib : Library) (boot : World) (history : List TraceItem) (w : World) : Type 0 where
  pub counts : IsTrue (list_all has_count history)
  pub run : Runs lib boot (flat_map single history) w
