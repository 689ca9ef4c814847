-- A machine with its trace, what it was booted from, its ready list and its marks, and what turns do to them.
use Rattle.std.specs.Prelude.{ℕ, ◌≡◌, ◌<◌, ◌≤◌, ◌-◌, Bool, false, ◌&&◌, not, List, [], ◌∷◌, ◌++◌, length, IsTrue}
use Rattle.zl_code.specs.Common.{World, is_process, is_ready, Library, Step, IsLegalHistory}
use Rattle.zl_code.specs.Boot.{IsBooted}
use Rattle.zl_code.specs.Headline.{IsSizedBoot, CoveredGoWell}
use Rattle.zl_code.specs.declared.boot.Statement.{Statement}
use Rattle.zl_code.specs.declared.history.TraceItem.{TraceItem}
use Rattle.zl_code.specs.OwnBoot.{own_boot}
use Rattle.zl_code.specs.OwnHistory.{OwnHistory}
use Rattle.zl_calls.specs.Own.{StepsOwn}
use Rattle.zl_calls.specs.World.{Machine, is_ready_in, own_here}
use Rattle.zl_sched.specs.declared.system.Stepped.{Stepped}
use Rattle.zl_sched.specs.declared.system.Stepped.TheVariants as stepped
use Rattle.zl_sched.specs.declared.system.End.{End}
use Rattle.zl_sched.specs.Follows.{EndsBy}
use Rattle.zl_sched.specs.Ready.{Listed, is_in, queued_after, ready_by_koid}

-- a machine, the items of its steps so far, the statements that it was booted from, how many items there may be,
-- the list of its ready processes, and the marks of those that are out
pub record System : Type 0 where
  pub machine : Machine
  pub items : List TraceItem
  pub statements : List Statement
  pub limit : ℕ
  pub ready : List ℕ
  pub out : List ℕ

-- the process is ready and isn't out
abbrev pub may_step : System → ℕ → Bool
may_step s pid = is_ready_in s.machine pid && not (is_in pid s.out)

-- no process is ready, and none is out
pub record IsIdle (s : System) : Type 0 where
  pub none_ready : (k : ℕ) → is_process s.machine.world is_ready k ≡ false
  pub none_out : s.out ≡ []

-- ---- where it comes from

-- the items are a legal history from a boot world of the statements to the world, and not too many
pub record IsLegal (s : System) : Type 0 where
  pub boot : World
  pub boots : IsBooted s.machine.programs s.statements s.limit boot
  pub sized : IsSizedBoot s.machine.programs s.statements boot
  pub history : IsLegalHistory s.machine.programs boot s.items s.machine.world
  -- it is the history that the lab itself has of them
  pub begins : boot ≡ (own_boot s.machine.programs s.statements).world
  pub own : OwnHistory s.machine.programs (own_boot s.machine.programs s.statements) s.items (own_here s.machine)
  pub room : length s.items ≤ s.limit

-- the system stands before its first step, booted from these programs, these statements and this limit
pub record HasBooted (lib : Library) (statements : List Statement) (limit : ℕ) (s : System) : Type 0 where
  pub programs : s.machine.programs ≡ lib
  pub boots : IsBooted lib statements limit s.machine.world
  pub sized : IsSizedBoot lib statements s.machine.world
  pub own : own_here s.machine ≡ own_boot lib statements
  pub items : s.items ≡ []
  pub statements_are : s.statements ≡ statements
  pub limit_is : s.limit ≡ limit
  pub ready : s.ready ≡ ready_by_koid s.machine.world
  pub out : s.out ≡ []

-- what is true of every system: its trace is legal, and its list and its marks are those of the ready processes
pub record IsWhole (s : System) : Type 0 where
  pub legal : IsLegal s
  pub listed : Listed s.machine.world s.ready s.out

-- its items are a legal history, in which each covered process goes well
pub record AreSafe (s : System) : Type 0 where
  pub legal : IsLegal s
  pub covered : CoveredGoWell s.machine.programs legal.boot s.items

-- ---- what comes to it

-- the items came to the trace, and nobody is out who wasn't
pub record Adds (s : System) (more : List TraceItem) (s2 : System) : Type 0 where
  pub programs : s2.machine.programs ≡ s.machine.programs
  pub items : s2.items ≡ s.items ++ more
  pub statements : s2.statements ≡ s.statements
  pub limit : s2.limit ≡ s.limit
  pub out : s2.out ≡ s.out

-- ---- one turn

-- a turn of a process that may step, with room in the trace, is its one step
pub record RunsHere (s : System) (pid : ℕ) (s2 : System) : Type 0 where
  pub item : TraceItem
  pub adds : Adds s (item ∷ []) s2
  pub step : Step s.machine.programs s.machine.world pid item s2.machine.world
  pub own : StepsOwn s.machine.programs (own_here s.machine) pid item (own_here s2.machine)
  pub ready : IsTrue (may_step s pid)
  pub room : length s.items < s.limit
  pub queue : s2.ready ≡ queued_after s.machine.world pid s2.machine.world s.ready

-- what a turn does, by its answer: all but a step changes nothing
abbrev pub Turns : System → ℕ → Stepped → System → Type 0
Turns s pid stepped.Ran s2 = RunsHere s pid s2
Turns s pid stepped.NotReady s2 = (s2 ≡ s) × (may_step s pid ≡ false)
Turns s pid stepped.Limit s2 = (s2 ≡ s) × IsTrue (may_step s pid) × (s.limit ≤ length s.items)
Turns s pid stepped.NoMemory s2 = (s2 ≡ s) × IsTrue (may_step s pid) × (length s.items < s.limit)

-- ---- many turns

-- how many items there may still be
abbrev pub room_of : System → ℕ
room_of s = s.limit - length s.items

-- the turns were taken, with no more items than there was room for, and that is how it ended
pub record Walks (s : System) (turns : List ℕ) (e : End) (s2 : System) : Type 0 where
  pub more : List TraceItem
  pub adds : Adds s more s2
  pub own : OwnHistory s.machine.programs (own_here s.machine) more (own_here s2.machine)
  pub room : length more ≤ room_of s
  pub ends : EndsBy s.machine.programs s.machine.world turns (room_of s) more s2.machine.world e
