-- What is true of every world of a run for its checked programs, without a word of the run.
use Rattle.std.specs.Prelude.{ℕ, ◌≡◌, true, Option, Some, None, IsTrue, slice_get}
use Rattle.std.specs.List.{AllByRecursion}
use Rattle.zl_rights.specs.Common.{bits, within, get, runs, World, Cpu, Process}
use Rattle.zl_rights.specs.Numbers.{KNOWN_RIGHTS}
use Rattle.zl_rights.specs.declared.entry.Entry.{Entry}
use Rattle.zl_rights.specs.declared.policy.Condition.{Condition}
use Rattle.zl_code.specs.Image.{Image, Library, Program, is_among}
use Rattle.zl_code.specs.Spells.{is_in_range}
use Rattle.zl_code.specs.Starting.{is_created, created_process}
use Rattle.zl_code.specs.Operands.{creates}
use Rattle.zl_abs.specs.States.{State}
use Rattle.zl_abs.specs.Typing.{IsTyping}
use Rattle.zl_verify.specs.Conforms.{Table, Holds, IsMemory, Conforms}
use Rattle.zl_verify.specs.Steps.{AreCountersAt}
use Rattle.zl_verify.specs.SizedLaws.{IsSized}
use Rattle.zl_verify.specs.Checks.{HasStepBound}

-- ---- a library

-- The images are in their ranges, and each that was checked has a typing with a step bound.
pub record IsVerified (lib : Library) : Type 0 where
  pub images : AllByRecursion (λ g. IsTrue (is_in_range g.image)) lib
  pub bounds : (n : ℕ) (i : Image) → slice_get lib n ≡ Some (record { checked = true; image = i }) → HasStepBound i

-- ---- a process that isn't started

-- The process x with the koid k is as it was made, and its job allows what its program needs, if that is checked.
pub record IsUnstarted (lib : Library) (w : World) (k : ℕ) (x : Process) : Type 0 where
  pub blank : x ≡ created_process lib x.program
  pub allowed : (g : Program) → slice_get lib x.program ≡ Some g → g.checked ≡ true → (c : Condition) → IsTrue (is_among g.image.needs c) → creates w k c ≡ None

-- so is each that isn't started
abbrev pub AreUnstarted : Library → World → Type 0
AreUnstarted lib w = (k : ℕ) (x : Process) → get w.processes k ≡ Some x → IsTrue (is_created x.state) → IsUnstarted lib w k x

-- ---- a process that runs

-- The process p of w, which is q, is as some typing of the image says.
pub record IsAsTyped (i : Image) (w : World) (p : ℕ) (q : Process) : Type 0 where
  pub typing : ℕ → Option State
  pub types : IsTyping i typing
  pub conforms : Conforms i typing w p q

-- so is each that runs by a checked program: every start of one is a proper start
abbrev pub AreAsTyped : Library → World → Type 0
AreAsTyped lib w = (p : ℕ) (q : Process) (i : Image) → get w.processes p ≡ Some q → IsTrue (runs q.state)
    → slice_get lib q.program ≡ Some (record { checked = true; image = i }) → IsAsTyped i w p q

-- ---- a Cpu by itself

-- With this table the Cpu stands at an instruction as the typing t says.
pub record StandsBy (i : Image) (t : ℕ → Option State) (f : Table) (c : Cpu) : Type 0 where
  pub state : State
  pub stands : t c.counter ≡ Some state
  pub holds : Holds f state c.registers i.slots c.slots
  pub memory : IsMemory i c.memory
  pub counters : AreCountersAt i c.counter c.counters

-- The Cpu is as some typing of the image says, with some table, whose handles have no unknown right.
pub record IsAble (i : Image) (c : Cpu) : Type 0 where
  pub typing : ℕ → Option State
  pub types : IsTyping i typing
  pub table : Table
  pub known : (v : ℕ) (e : Entry) → table v ≡ Some e → IsTrue (within (bits e.rights) KNOWN_RIGHTS)
  pub by : StandsBy i typing table c

-- so it is if the program was checked
abbrev pub IsAbleIn : Program → Cpu → Type 0
IsAbleIn g c = g.checked ≡ true → IsAble g.image c

-- ---- a world

-- Each process of a checked program is as its typing says, or not started yet; and whatever is computed with or queued is sized, on which this rests.
pub record IsCovered (lib : Library) (w : World) : Type 0 where
  pub sized : IsSized w
  pub unstarted : AreUnstarted lib w
  pub typed : AreAsTyped lib w
