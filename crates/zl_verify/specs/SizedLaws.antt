-- What the law of the sizes of registers and queues says.
use Rattle.std.specs.Prelude.{ℕ, ◌≡◌, ◌≤◌, ◌<◌, List, Some, slice_index}
use Rattle.std.specs.List.{AllByRecursion, flat_map}
use Rattle.zl_rights.specs.Common.{get, Map, World, Cpu, Process, Object, Body, queue_of}
use Rattle.zl_rights.specs.World.{Wait}
use Rattle.zl_code.specs.Waiting.{packets_in}
use Rattle.zl_verify.specs.CallLaws.{IsSizedMessage, IsSizedPacket}
use Rattle.zl_code.specs.declared.boot.Statement.{Statement}
use Rattle.zl_code.specs.declared.history.TraceItem.{TraceItem}
use Rattle.zl_code.specs.Image.{Library}
use Rattle.zl_code.specs.Handles.{Throughout}
use Rattle.zl_code.specs.Steps.{Runs, single, IsLegalHistory}
use Rattle.zl_code.specs.Headline.{IsSizedBoot}
use Rattle.zl_abs.specs.Values.{ANY}
use Rattle.zl_verify.specs.Conforms.{place_at}

-- ---- what a process computes with

-- Registers and places of slot arrays have 64 bits, and the memory has bytes.
pub record AreSized (registers memory : List ℕ) (slots : List (List ℕ)) : Type 0 where
  pub small : (r : ℕ) → slice_index registers r ≤ ANY
  pub bytes : (k : ℕ) → slice_index memory k < 256
  pub narrow : (n k : ℕ) → place_at slots n k ≤ ANY

-- so it is in this Cpu
abbrev pub IsSizedCpu : Cpu → Type 0
IsSizedCpu c = AreSized c.registers c.memory c.slots

-- so it is in each process of w, whatever has become of it
abbrev pub CpusAreSized : World → Type 0
CpusAreSized w = (p : ℕ) (q : Process) → get w.processes p ≡ Some q → IsSizedCpu q.cpu

-- ---- a world

-- what is queued in such a body fits who receives it, and what is raised at its object is a signal
pub record IsSizedObject (body : Body) (raised : ℕ) : Type 0 where
  pub messages : AllByRecursion IsSizedMessage (queue_of body)
  pub packets : AllByRecursion IsSizedPacket (packets_in (Some body))
  pub signals : raised ≤ 0xffff_ffff

-- the packet of a wait fits who receives it
pub record IsSizedWait (x : Wait) : Type 0 where
  pub key : x.key ≤ ANY
  pub mask : x.mask ≤ ANY

-- processes, objects and waits are sized
pub record AllAreSized (ps : Map Process) (os : Map Object) (ws : List Wait) : Type 0 where
  pub cpus : (p : ℕ) (q : Process) → get ps p ≡ Some q → IsSizedCpu q.cpu
  pub kept : (k : ℕ) (o : Object) → get os k ≡ Some o → IsSizedObject o.body o.raised
  pub waits : AllByRecursion IsSizedWait ws

-- those of the world
abbrev pub IsSized : World → Type 0
IsSized w = AllAreSized w.processes w.objects w.waits

-- ---- where a run begins

-- P is true of the last world of each run from such a boot world
abbrev pub HoldsInRuns : (World → Type 0) → Type 0
HoldsInRuns P =
    (lib : Library) (statements : List Statement) (boot after : World) (items : List TraceItem)
    → IsSizedBoot lib statements boot → Runs lib boot items after → P after

-- P is true of every world of each legal history from such a boot world, the last one too
abbrev pub HoldsInHistories : (World → Type 0) → Type 0
HoldsInHistories P =
    (lib : Library) (statements : List Statement) (boot after : World) (history : List TraceItem)
    → IsSizedBoot lib statements boot → (legal : IsLegalHistory lib boot history after)
    → Throughout P lib boot (flat_map single history) after legal.run × P after
