-- Small worlds for worked examples, and what is told of them.
use Rattle.zl_code.specs.Image.{blank_image}
use Rattle.zl_code.proofs.Common.{Action, CallName, Choice, Entry, EventBody, Instr, JobBody, Kind, Library, List, Map, None, Option, Outcome, Process}
use Rattle.zl_code.proofs.Common.{ProcessBody, Ready, Request, Site, Some, State, TraceItem, World, [], false, get, refusal, replicate, rights_of, suc, take}
use Rattle.zl_code.proofs.Common.{Object, map, true, zero, ℕ, ◌++◌, ◌∷◌, ◌≡◌}
use Rattle.zl_rights.specs.declared.kind.Kind.TheVariants as kind
use Rattle.zl_code.proofs.Running.{Acted, call_by, settle_by}

-- ---- what is told

abbrev pub state_in : Option Process → Option State
state_in None = None
state_in (Some q) = Some q.state

-- the state of the process p
abbrev pub state_of : World → ℕ → Option State
state_of w p = state_in (get w.processes p)

abbrev pub registers_in : Option Process → List ℕ
registers_in None = []
registers_in (Some q) = take 6 q.cpu.registers

-- the first six registers of the process p
abbrev pub registers_of : World → ℕ → List ℕ
registers_of w p = registers_in (get w.processes p)

-- the item of a turn of process 2, and its first six registers after it
abbrev pub told : Acted → Option (TraceItem × List ℕ)
told None = None
told (Some (x, w)) = Some (x, registers_of w 2)

abbrev pub last_in : Option Process → Option ℕ
last_in None = None
last_in (Some q) = q.last

-- the value that the process p removed last
abbrev pub last_of : World → ℕ → Option ℕ
last_of w p = last_in (get w.processes p)

-- the world after a turn
abbrev pub after : World → Acted → World
after w None = w
after w (Some (x, w2)) = w2

-- the item of a turn
abbrev pub item_of : Acted → Option TraceItem
item_of None = None
item_of (Some (x, w)) = Some x

-- the process p does the call at these registers, with this choice
abbrev pub turn_of : ℕ → CallName → Site → World → Choice → Acted
turn_of p call s w choice = settle_by 4 (call_by [] w p call s choice (refusal [] w p s.request))

-- process 2 of the world is refused so
abbrev pub Refuses : World → Request → Outcome → Type 0
Refuses w request answer = refusal [] w 2 request ≡ Some answer

-- process 2 of the world isn't refused
abbrev pub Passes : World → Request → Type 0
Passes w request = refusal [] w 2 request ≡ None

-- ---- small worlds

-- a library of one raw program
abbrev pub program_of : List Instr → Library
program_of code = record { checked = false; image = record blank_image { raw = true; code = code } } ∷ []

-- a ready process with these registers from the first on, these handles, and this value removed last
abbrev pub process_of : List ℕ → Map Entry → Option ℕ → Process
process_of registers handles last = record {
  program = 0;
  cpu = record { counter = 0; registers = take 32 (registers ++ replicate 32 0); memory = []; slots = []; counters = [] };
  state = Ready;
  handles = handles;
  last = last;
}

-- job 1 with this policy, process 2 in it, and event 3
abbrev pub world_of : Map Action → Process → World
world_of policy process = record {
  processes = (2, process) ∷ [];
  objects =
      (1, record { body = JobBody 0 1 policy false; raised = 0 })
      ∷ (2, record { body = ProcessBody 1; raised = 0 })
      ∷ (3, record { body = EventBody; raised = 0 })
      ∷ [];
  waits = [];
  blocked = [];
  next_koid = 4;
  waits_made = 0;
}

-- job 1, process 2, event 3 and these objects
abbrev pub beside_event : Map Object → Map Object
beside_event more =
    (1, record { body = JobBody 0 1 [] false; raised = 0 })
    ∷ (2, record { body = ProcessBody 1; raised = 0 })
    ∷ (3, record { body = EventBody; raised = 0 })
    ∷ more

-- the keys of the registered waits
abbrev pub waits_there : World → List ℕ
waits_there w = map (λ x. x.key) w.waits

-- a handle with these rights to the object k, which is of the kind
abbrev pub entry_of : Kind → ℕ → ℕ → Entry
entry_of kind k rights = record { koid = k; kind = kind; rights = rights_of rights }

-- a handle to event 3
abbrev pub event_with : ℕ → Entry
event_with rights = record { koid = 3; kind = kind.Event; rights = rights_of rights }

-- the rights of the first handle to an event: to duplicate, transfer, signal, wait and inspect
abbrev pub FIRST_RIGHTS : ℕ
FIRST_RIGHTS = 0xd003

-- a handle to job 1
abbrev pub job_with : ℕ → Entry
job_with rights = record { koid = 1; kind = kind.Job; rights = rights_of rights }

abbrev pub counted : Entry → ℕ → Map Entry → Map Entry
counted e zero m = m
counted e (suc n) m = counted e n ((suc n, e) ∷ m)

-- n times the handle, at the values from 1 to n
abbrev pub times : ℕ → Entry → Map Entry
times n e = counted e n []
