-- Words for contracts over all processes, their objects and the list of the blocked, and what is true before a call. No public clause cites this module.
use Rattle.std.specs.Prelude.{ℕ, ◌≡◌, ◌<◌, ◌≤◌, true, List, [], length, map, Some, IsTrue, slice_get}
use Rattle.std.specs.Vec.{vec_capacity}
use Rattle.std.specs.List.{All}
use Rattle.zl_code.specs.Common.{Map, World, get, has_key}
use Rattle.zl_rights.specs.declared.entry.Entry.{Entry}
use Rattle.zl_rights.specs.Signals.{is_ready}
use Rattle.zl_objects.specs.Objects.{Objects}
use Rattle.zl_objects.specs.Release.{AreKeptBut}
use Rattle.zl_calls.specs.Blocked.{AreBlocked}
use Rattle.zl_calls.specs.Killing.{AreClosed}
use Rattle.zl_calls.specs.Registered.{world_left}
use Rattle.zl_calls.specs.World.{process_entry, state_value, world_blocked}
use Rattle.zl_calls.specs.calls.Task.{Reach, parts}
use Rattle.zl_calls.specs.declared.parts.Parts.{Parts}
use Rattle.zl_calls.specs.declared.process.Process.{Process}
use Rattle.zl_calls.specs.declared.processes.Processes.{Processes}

-- ---- words

-- this is true of the process at the place
abbrev pub AtPlace : Processes → ℕ → (Process → Type 0) → Type 0
AtPlace ps place P = (p : Process) → slice_get ps.list.items place ≡ Some p → P p

-- all that a call can reach
abbrev pub parts_in : Parts → Reach
parts_in all = parts all.processes.list.items all.objects all.blocked.items

-- the world of these
abbrev pub world_in : Parts → World
world_in all = world_blocked all.processes.list.items all.objects all.blocked.items

-- the world that a step leaves, where these block
abbrev pub left_in : Parts → List ℕ → World
left_in all blocked = world_left all.processes.list.items all.objects blocked

-- the list of the blocked has room for each process
abbrev pub HasRoom : Parts → Type 0
HasRoom all = length all.processes.list.items ≤ vec_capacity all.blocked

-- where it had room, it still has
abbrev pub KeepsRoom : Parts → Parts → Type 0
KeepsRoom all all2 = HasRoom all → HasRoom all2

-- ---- before a call

-- the process at the place is there and ready
pub record IsCalling (processes : List Process) (place : ℕ) : Type 0 where
  pub within : place < length processes
  pub ready : (caller : Process) → slice_get processes place ≡ Some caller → is_ready (state_value caller.state) ≡ true

-- each process has a koid that was given
abbrev pub AreGiven : Reach → Type 0
AreGiven all = (k : ℕ) → IsTrue (has_key (map process_entry all.processes) k) → k < all.objects.next_koid

-- the same, where no more processes block than there are, the list of the blocked is theirs, each process has a koid that was given and
-- no handle if it is over, and something keeps each object
pub record MayCall (all : Reach) (place : ℕ) : Type 0 where
  pub calling : IsCalling all.processes place
  pub few : length all.blocked ≤ length all.processes
  pub given : AreGiven all
  pub kept : AreKeptBut [] all.objects.objects
  pub list : AreBlocked all.processes all.blocked
  pub closed : AreClosed all.processes

-- each wait that the process made by a live handle is at the object that the handle names
abbrev pub OwnWaits : ℕ → Map Entry → Objects → Type 0
OwnWaits pid entries r = All (λ x. x.pid ≡ pid → (e : Entry) → get entries x.value ≡ Some e → x.object ≡ e.koid) r.waits
