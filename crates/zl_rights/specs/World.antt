-- The world: processes with their tables, objects, and waits.
use Rattle.std.specs.Prelude.{ℕ, ◌+◌, ℤ, Bool, List, [], ◌∷◌, Option, slice_set}
use Rattle.zl_rights.specs.declared.kind.Kind.{Kind}
use Rattle.zl_rights.specs.declared.kind.Kind.TheVariants as kind
use Rattle.zl_rights.specs.declared.policy.Action.{Action}
use Rattle.zl_rights.specs.declared.entry.Entry.{Entry}
use Rattle.zl_rights.specs.Map.{Map}

-- ---- processes

-- what a process computes with: program counter, registers, data memory, slot arrays, counters of blocks
pub record Cpu : Type 0 where
  pub counter : ℕ
  pub registers : List ℕ
  pub memory : List ℕ
  pub slots : List (List ℕ)
  -- one for each counted block that it is in, the innermost first
  pub counters : List ℕ

-- each destination gets its value, and 0 where there is none
abbrev pub written : List ℕ → List ℕ → List ℕ → List ℕ
written registers [] values = registers
written registers (d ∷ ds) [] = written (slice_set registers d 0) ds []
written registers (d ∷ ds) (v ∷ vs) = written (slice_set registers d v) ds vs

-- the Cpu once its call is answered: the destinations are written, and the counter moves on
unfoldable pub answered : Cpu → List ℕ → List ℕ → Cpu
answered c destinations values =
    record c { counter = c.counter + 1; registers = written c.registers destinations values }

-- what a blocked process waits for
pub data Awaited : Type 0 where
  -- a signal of the mask at the object
  SignalOf : (koid mask : ℕ) → Awaited
  -- a packet at the port
  PacketAt : (koid : ℕ) → Awaited

-- how far a process has come in its life
pub data State : Type 0 where
  -- made, and not started yet
  Created : State
  -- may take its next step
  Ready : State
  -- waits within a call; the destinations are the registers of the answer, the status first
  Blocked : (awaited : Awaited) (destinations : List ℕ) → State
  -- over, with this code
  Ended : (code : ℤ) → State
  -- dropped before it was ever started
  Gone : State

-- a process that was ever made
pub record Process : Type 0 where
  -- the number of its program
  pub program : ℕ
  pub cpu : Cpu
  pub state : State
  -- its table of handles, by their values
  pub handles : Map Entry
  -- the value removed last, until the next insertion
  pub last : Option ℕ

-- ---- objects

-- a message in a queue, with the handles in it
pub record Message : Type 0 where
  pub bytes : List ℕ
  pub handles : List Entry

-- by what a wait was made: the process, its handle, and the object that the handle named
pub record Source : Type 0 where
  pub pid : ℕ
  pub value : ℕ
  pub object : ℕ

-- a packet at a port
pub record Packet : Type 0 where
  -- 0 from port_queue, 1 from a wait
  pub kind : ℕ
  pub key : ℕ
  -- the value that was queued, or the mask of the wait
  pub trigger : ℕ
  pub observed : ℕ
  pub source : Option Source

-- what an object is
pub data Body : Type 0 where
  -- the queue holds what is to be read at this end
  ChannelEnd : (peer : ℕ) (queue : List Message) → Body
  EventBody : Body
  -- one end of an event pair
  PairEnd : (peer : ℕ) → Body
  PortBody : (packets : List Packet) → Body
  -- the policy is by the numbers of conditions; unset allows
  JobBody : (parent depth : ℕ) (policy : Map Action) (killed : Bool) → Body
  ProcessBody : (job : ℕ) → Body

-- a kernel object; its koid is its key in the world
pub record Object : Type 0 where
  pub body : Body
  -- the signals that calls set and clear
  pub raised : ℕ

-- the kind of an object, which its body alone decides
abbrev pub kind_of : Body → Kind
kind_of (ChannelEnd peer queue) = kind.Channel
kind_of EventBody = kind.Event
kind_of (PairEnd peer) = kind.Eventpair
kind_of (PortBody packets) = kind.Port
kind_of (JobBody parent depth policy killed) = kind.Job
kind_of (ProcessBody job) = kind.Process

-- ---- registered waits

-- a wait of wait_async: the process and the value that made it, the object that it watches, and where its packet goes
pub record Wait : Type 0 where
  pub pid : ℕ
  pub value : ℕ
  pub object : ℕ
  pub port : ℕ
  pub key : ℕ
  pub mask : ℕ

-- ---- the world

-- The place of a handle is a process with a value, or a channel end with a message and a position,
-- so that no two handles share one.
pub record World : Type 0 where
  -- every process ever made, by koid
  pub processes : Map Process
  pub objects : Map Object
  -- the earliest registered first
  pub waits : List Wait
  -- the koids of blocked processes, the longest blocked first
  pub blocked : List ℕ
  -- the least koid that was not given yet
  pub next_koid : ℕ
  -- how many waits were ever registered
  pub waits_made : ℕ
