-- What the definitions see of the world of this crate.
use Rattle.std.specs.Prelude.{ℕ, ◌≡◌, ◌<◌, Bool, false, length, slice_get, slice_index, List, [], ◌∷◌, map, Option, Some, None, if◌then◌else◌}
use Rattle.std.specs.Option.{option_map}
use Rattle.zl_code.specs.Common.{Map, get, World, Process as ProcessValue, State as StateValue, Created, Ready, Blocked, Ended, Gone, is_ready, is_process, Library, site_of, Next, calls_at, next_for}
use Rattle.zl_code.specs.declared.history.CallName.{CallName}
use Rattle.zl_code.specs.declared.history.ProcState.{ProcState}
use Rattle.zl_code.specs.declared.history.ProcState.TheVariants as seen
use Rattle.zl_code.specs.declared.instr.CallInstr.{CallInstr}
use Rattle.zl_rights.specs.World.{Awaited as AwaitedValue, SignalOf, PacketAt}
use Rattle.zl_interp.specs.Common.{call_here}
use Rattle.zl_objects.specs.declared.awaited.Awaited.{Awaited}
use Rattle.zl_objects.specs.declared.awaited.Awaited.TheVariants as awaits
use Rattle.zl_calls.specs.declared.process.State.{State}
use Rattle.zl_calls.specs.declared.process.State.TheVariants as state
use Rattle.zl_calls.specs.declared.process.Process.{Process}
use Rattle.zl_code.specs.Own.{OwnWorld}
use Rattle.zl_rights.specs.Signals.{lives}
use Rattle.zl_rights.specs.Values.{Free, new_free}
use Rattle.zl_objects.specs.Objects.{Objects}
use Rattle.zl_objects.specs.Seen.{object_entry}
use Rattle.zl_table.specs.Table.{has_named}

-- the programs, the world in which they run, and by process the values that new handles get
pub record Machine : Type 0 where
  pub programs : Library
  pub world : World
  pub free : Map Free

-- the world of the machine with these values
abbrev pub own_here : Machine → OwnWorld
own_here m = record { world = m.world; free = m.free }

-- ---- views

-- the registers of a call that get the active signals, the status first
abbrev pub signal_registers : List ℕ → List ℕ
signal_registers registers = slice_index registers 0 ∷ slice_index registers 3 ∷ []

-- the registers of a call that get a packet, the status first
abbrev pub packet_registers : List ℕ → List ℕ
packet_registers registers =
    slice_index registers 0 ∷ slice_index registers 2 ∷ slice_index registers 3 ∷ slice_index registers 4 ∷ slice_index registers 5 ∷ []

-- what a blocked process waits for
abbrev pub awaited_value : Awaited → AwaitedValue
awaited_value (awaits.SignalOf koid mask) = SignalOf koid mask
awaited_value (awaits.PacketAt port) = PacketAt port

-- the same, as the objects know it
abbrev pub awaited_of : AwaitedValue → Awaited
awaited_of (SignalOf koid mask) = awaits.SignalOf koid mask
awaited_of (PacketAt port) = awaits.PacketAt port

-- the registers of its answer, of those of its wait
abbrev pub destinations_in : Awaited → List ℕ → List ℕ
destinations_in (awaits.SignalOf koid mask) registers = signal_registers registers
destinations_in (awaits.PacketAt port) registers = packet_registers registers

-- the state of a process
abbrev pub state_value : State → StateValue
state_value state.Created = Created
state_value state.Gone = Gone
state_value state.Ready = Ready
state_value (state.Blocked awaited registers) = Blocked (awaited_value awaited) (destinations_in awaited registers)
state_value (state.Ended code) = Ended code

-- a process; of its table just the live handles and the value removed last are seen
abbrev pub process_value : Process → ProcessValue
process_value p = record {
  program = p.program;
  cpu = p.cpu;
  state = state_value p.state;
  handles = p.table.entries;
  last = p.table.last;
}

-- the values of a process; one that is over counts as having a new table
abbrev pub free_of : Process → Free
free_of p = if lives (state_value p.state) then p.table.free else new_free

-- the same under its koid
abbrev pub free_entry : Process → ℕ × Free
free_entry p = (p.pid, free_of p)

-- what stays of a process that wakes: whether it lives, and its values
abbrev pub held : Process → ℕ × (Bool × Free)
held p = (p.pid, (lives (state_value p.state), p.table.free))

-- a process of the world under its koid
abbrev pub process_entry : Process → ℕ × ProcessValue
process_entry p = (p.pid, process_value p)

-- the world of these processes and objects, where nothing blocks or waits
abbrev pub world_value : List Process → Objects → World
world_value processes objects = record {
  processes = map process_entry processes;
  objects = map object_entry objects.objects;
  waits = [];
  blocked = [];
  next_koid = objects.next_koid;
  waits_made = 0;
}

-- the same with the registered waits, where the processes with these koids block, the longest blocked first
abbrev pub world_blocked : List Process → Objects → List ℕ → World
world_blocked processes objects blocked =
    record (world_value processes objects) { waits = objects.waits; waits_made = objects.waits_made; blocked = blocked }

-- ---- what is seen of a process

-- what a trace tells of a process in this state
abbrev pub seen_in : StateValue → ProcState
seen_in Created = seen.Created
seen_in Ready = seen.Ready
seen_in (Blocked awaited destinations) = seen.Blocked
seen_in (Ended code) = seen.Ended code
seen_in Gone = seen.Gone

-- the same of the process that was looked up; one that was never made is gone
abbrev pub seen_of : Option ProcessValue → ProcState
seen_of None = seen.Gone
seen_of (Some p) = seen_in p.state

-- what the world has at the pid is the process at this place
pub record IsPlaceOf (processes : List Process) (pid place : ℕ) : Type 0 where
  pub within : place < length processes
  pub holds : get (map process_entry processes) pid ≡ option_map process_value (slice_get processes place)

-- what a trace tells of the process; a number that was never a process is gone
abbrev pub state_in : Machine → ℕ → ProcState
state_in m pid = seen_of (get m.world.processes pid)

-- a handle of the process that was looked up names the object, and has these rights at least
abbrev pub has_of : Option ProcessValue → (koid rights : ℕ) → Bool
has_of None koid rights = false
has_of (Some p) koid rights = has_named p.handles koid rights

-- a handle of the process names the object, and has these rights at least; a number that was never a process has none
abbrev pub has_in : World → (pid koid rights : ℕ) → Bool
has_in w pid koid rights = has_of (get w.processes pid) koid rights

-- what stands next for the process
abbrev pub stands_next : Library → Process → Next
stands_next lib p = next_for lib (process_value p)

-- the call stands next for the process
abbrev pub CallsNext : Library → Process → CallInstr → Type 0
CallsNext lib p call = stands_next lib p ≡ calls_at call.name (site_of call p.cpu)

-- the call at which the process that was looked up is; just a ready one is at a call
abbrev pub call_of : Library → Option ProcessValue → Option CallName
call_of lib None = None
call_of lib (Some p) = if is_ready p.state then call_here (next_for lib p) else None

-- the call at which the process is, if it is ready and at one
abbrev pub call_for : Machine → ℕ → Option CallName
call_for m pid = call_of m.programs (get m.world.processes pid)

-- the process is there and ready
abbrev pub is_ready_in : Machine → ℕ → Bool
is_ready_in m pid = is_process m.world is_ready pid
