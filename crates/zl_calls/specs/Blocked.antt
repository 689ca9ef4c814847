-- What is true of the list of blocked processes. No public clause cites this module.
use Rattle.std.specs.Prelude.{ℕ, ◌≡◌, ◌⊎◌, ◌<◌, ◌≤◌, ◌^◌, ◌==◌, Bool, false, List, map, length, Some, IsTrue, if◌then◌else◌}
use Rattle.std.specs.List.{filter}
use Rattle.zl_code.specs.Common.{get, wakes, Process as ProcessValue, Library}
use Rattle.zl_code.specs.Programs.{HavePrograms}
use Rattle.zl_code.specs.Sound.{IsSound, is_blocked}
use Rattle.zl_rights.specs.Signals.{state_passes}
use Rattle.zl_verify.specs.Covered.{IsCovered, IsVerified}
use Rattle.zl_rights.specs.World.{Awaited, State, Blocked, PacketAt}
use Rattle.zl_objects.specs.Awaited.{Seeks}
use Rattle.zl_objects.specs.Sleepers.{listed_for}
use Rattle.zl_objects.specs.Objects.{Objects}
use Rattle.zl_calls.specs.declared.process.Process.{Process}
use Rattle.zl_calls.specs.World.{awaited_of, process_entry, world_blocked}
use Rattle.zl_calls.specs.Consistent.{IsConsistent}

-- the list is that of the blocked processes, each of which stands at an instruction
pub record AreBlocked (processes : List Process) (blocked : List ℕ) : Type 0 where
  -- each blocked process once, and nothing else
  pub once : (k : ℕ) → length (filter (λ q. q == k) blocked) ≡ (if state_passes is_blocked (get (map process_entry processes) k) then 1 else 0)
  pub counters : (k : ℕ) (p : ProcessValue) → get (map process_entry processes) k ≡ Some p → IsTrue (is_blocked p.state) → p.cpu.counter < 2 ^ 32

-- what each blocked process waits for is known to the objects
abbrev pub AreSought : List Process → Objects → Type 0
AreSought processes r = (k : ℕ) (p : ProcessValue) (awaited : Awaited) (destinations : List ℕ) → get (map process_entry processes) k ≡ Some p
    → p.state ≡ Blocked awaited destinations → Seeks r k (awaited_of awaited)

-- a process in this state is blocked on packets of the port
abbrev pub takes_from : ℕ → State → Bool
takes_from port (Blocked (PacketAt k) destinations) = k == port
takes_from port _ = false

-- so is the process
abbrev pub takes_at : List Process → ℕ → ℕ → Bool
takes_at processes port k = state_passes (takes_from port) (get (map process_entry processes) k)

-- for each port, of the processes listed there those that are blocked there stand in the order in which they blocked
abbrev pub StandInOrder : List Process → Objects → List ℕ → Type 0
StandInOrder processes r blocked = (port : ℕ) → filter (takes_at processes port) (listed_for r.sleepers port) ≡ filter (takes_at processes port) blocked

-- so they do, unless perhaps not all are listed
abbrev pub AreOrdered : List Process → Objects → List ℕ → Type 0
AreOrdered processes r blocked = IsTrue r.crowded ⊎ StandInOrder processes r blocked

-- of the list these are left, in their order
abbrev pub AreLeft : List ℕ → List ℕ → Type 0
AreLeft blocked blocked2 = (test : ℕ → Bool) → ((k : ℕ) → IsTrue (test k) → 1 ≤ length (filter (λ q. q == k) blocked2))
    → filter test blocked2 ≡ filter test blocked

-- the invariant of the programs, the processes and objects, and of the list of those that are blocked, which has room for all
pub record IsWhole (lib : Library) (processes : List Process) (r : Objects) (blocked : List ℕ) (capacity : ℕ) : Type 0 where
  pub consistent : IsConsistent processes r
  -- their world is sound
  pub sound : IsSound (world_blocked processes r blocked)
  pub are_blocked : AreBlocked processes blocked
  pub sought : AreSought processes r
  pub ordered : AreOrdered processes r blocked
  pub room : length processes ≤ capacity
  -- nothing is due: no wait holds, and no process that is blocked can wake
  pub awake : wakes (world_blocked processes r blocked) ≡ world_blocked processes r blocked
  pub programs : HavePrograms lib (world_blocked processes r blocked)
  -- each program that was checked has a typing with a step bound, and its processes that run are as a typing says
  pub verified : IsVerified lib
  pub covered : IsCovered lib (world_blocked processes r blocked)
