-- What the headline speaks of: starts, fault answers, own ends and budgets, over the definitions of boots and steps alone.
use Rattle.std.specs.Prelude.{ℕ, ℤ, ◌≡◌, ◌≤◌, ◌⊎◌, ◌-◌, ◌==◌, nat_le, Bool, true, false, List, [], ◌∷◌, ◌++◌, length, Option, Some, None, IsTrue, IsSomeAnd, slice_get, if◌then◌else◌}
use Rattle.std.specs.List.{AllByRecursion, flat_map}
use Rattle.zl_rights.specs.Common.{get, World, Process}
use Rattle.zl_rights.specs.Numbers.{KILLED}
use Rattle.zl_rights.specs.declared.entry.Entry.{Entry}
use Rattle.zl_rights.specs.declared.policy.Condition.{Condition}
use Rattle.zl_rights.specs.declared.status.Status.{Status}
use Rattle.zl_rights.specs.declared.status.Status.TheVariants as status
use Rattle.zl_code.specs.declared.boot.Statement.{Statement}
use Rattle.zl_code.specs.declared.boot.Statement.TheVariants as statement
use Rattle.zl_code.specs.declared.history.CallName.{CallName}
use Rattle.zl_code.specs.declared.history.CallName.TheVariants as name
use Rattle.zl_code.specs.declared.history.Outcome.TheVariants as outcome
use Rattle.zl_code.specs.declared.history.TraceItem.{TraceItem}
use Rattle.zl_code.specs.declared.history.TraceItem.TheVariants as item
use Rattle.zl_code.specs.Image.{Image, Library, is_among}
use Rattle.zl_code.specs.Limits.{most_word}
use Rattle.zl_code.specs.Spells.{is_in_range}
use Rattle.zl_code.specs.Tests.{object_at}
use Rattle.zl_code.specs.Operands.{creates}
use Rattle.zl_code.specs.Effects.{may_get_all}
use Rattle.zl_code.specs.Starting.{created_process, program_of}
use Rattle.zl_code.specs.CallTable.{process_start}
use Rattle.zl_code.specs.Request.{Site}
use Rattle.zl_code.specs.Steps.{AtCall, Step, Runs, next_for, pid_of, single}
use Rattle.zl_code.specs.Boot.{IsBoot, are_declared, started_process}

-- ---- where a run begins

-- the word that a process of the statement starts with; 0 where it makes none
abbrev pub word_of : Statement → ℕ
word_of (statement.Process job program word handles) = word
word_of _ = 0

-- The images are in their ranges, the words have 64 bits, and w is a boot world of the statements.
pub record IsSizedBoot (lib : Library) (statements : List Statement) (w : World) : Type 0 where
  pub images : AllByRecursion (λ g. IsTrue (is_in_range g.image)) lib
  pub words : AllByRecursion (λ s. word_of s ≤ most_word) statements
  pub boots : IsBoot lib statements w

-- ---- a start

-- The process p of w, which is q, has just been started by this image with the handles that it declares, and its job allows what it needs.
pub record IsProperStart (lib : Library) (i : Image) (w : World) (p : ℕ) (q : Process) : Type 0 where
  pub checked : Bool
  pub running : slice_get lib q.program ≡ Some (record { checked = checked; image = i })
  -- its handles, their values, and its word
  pub handles : List Entry
  pub values : List ℕ
  pub word : ℕ
  pub made : q ≡ started_process lib q.program handles values word
  pub free : IsTrue (may_get_all (created_process lib q.program) handles values)
  pub declared : IsTrue (are_declared i.starts handles)
  pub small : word ≤ most_word
  pub allowed : (c : Condition) → IsTrue (is_among i.needs c) → creates w p c ≡ None

-- The process p of w has just been properly started by a program of the library with this image.
pub record IsStarted (lib : Library) (i : Image) (w : World) (p : ℕ) : Type 0 where
  pub process : Process
  pub there : get w.processes p ≡ Some process
  pub proper : IsProperStart lib i w p process

-- The process p of w, which is q, stands at process_start, which is to give the process k a handle and a word.
pub record StartsChild (lib : Library) (w : World) (p : ℕ) (q : Process) (k : ℕ) : Type 0 where
  pub site : Site
  pub next : next_for lib q ≡ AtCall name.ProcessStart site
  -- the handles by their values
  pub process : ℕ
  pub handle : ℕ
  pub word : ℕ
  pub asks : site.request ≡ process_start process handle word
  pub child : object_at w p process ≡ k

-- ---- what an item tells

-- the answers that tell of a handle that isn't live, is of another kind, or lacks a right, or of a policy that denies
abbrev pub is_fault : Status → Bool
is_fault status.BadHandle = true
is_fault status.WrongType = true
is_fault status.AccessDenied = true
is_fault _ = false

-- no call of p is answered BAD_HANDLE, WRONG_TYPE or ACCESS_DENIED here
abbrev pub HasNoFault : ℕ → TraceItem → Type 0
HasNoFault p (item.Call pid called (outcome.Answered answer)) = pid ≡ p → is_fault answer ≡ false
HasNoFault p _ = Unit {0}

-- a call of this name may end its caller with this code: process_exit with any, and task_kill with that of the killed
abbrev pub MayEnd : CallName → ℤ → Type 0
MayEnd called code = (called ≡ name.ProcessExit) ⊎ ((called ≡ name.TaskKill) × (code ≡ KILLED))

-- no call of p ends it here but process_exit, whatever its code, and its own task_kill, with the code of the killed
abbrev pub EndsItself : ℕ → TraceItem → Type 0
EndsItself p (item.Call pid called (outcome.Ended code)) = pid ≡ p → MayEnd called code
EndsItself p _ = Unit {0}

-- p isn't stuck here
abbrev pub IsNotStuck : ℕ → TraceItem → Type 0
IsNotStuck p (item.Stuck pid) = pid ≡ p → ⊥
IsNotStuck p _ = Unit {0}

-- ---- the budget

-- the calls at which the count begins anew
abbrev pub is_pause_name : CallName → Bool
is_pause_name name.WaitOne = true
is_pause_name name.PortWait = true
is_pause_name name.ProcessExit = true
is_pause_name _ = false

-- how many instructions the item tells of; none that counts where one is a wait or process_exit, or its process is stuck
abbrev pub executed : TraceItem → Option ℕ
executed (item.Run pid count) = Some count
executed (item.Call pid called o) = if is_pause_name called then None else Some 1
executed (item.Stuck pid) = None

-- what is left behind so many instructions: all of the budget behind a wait, and nothing is said where they are too many
abbrev pub left_behind : (budget left : ℕ) → Option ℕ → Option ℕ
left_behind budget left None = Some budget
left_behind budget left (Some n) = if nat_le n left then Some (left - n) else None

-- These items tell of at most so many instructions of p up to a wait or its exit, and of as many as the budget behind each wait.
abbrev pub KeepsBudget : (budget p left : ℕ) → List TraceItem → Type 0
KeepsBudget budget p left [] = Unit {0}
KeepsBudget budget p left (x ∷ xs) =
    IsSomeAnd (if pid_of x == p then left_behind budget left (executed x) else Some left) (λ more. KeepsBudget budget p more xs)

-- ---- what is promised of a process

-- What these items tell of the process p, which runs this image and was just started.
pub record GoesWell (i : Image) (p : ℕ) (items : List TraceItem) : Type 0 where
  pub no_fault : AllByRecursion (HasNoFault p) items
  pub ends_itself : AllByRecursion (EndsItself p) items
  pub not_stuck : AllByRecursion (IsNotStuck p) items
  pub budget : KeepsBudget i.budget p i.budget items

-- In every run from a boot world, whatever it and others do: P is true of a process that was properly started from this image, of any items from its start on, and of the world that they lead to.
abbrev pub HoldsFromItsStart : Image → (ℕ → List TraceItem → World → Type 0) → Type 0
HoldsFromItsStart i P =
    (lib : Library) (statements : List Statement) (boot w after : World) (items more : List TraceItem) (p : ℕ)
    → IsSizedBoot lib statements boot → Runs lib boot items w → IsStarted lib i w p
    → Runs lib w more after → P p more after

-- All items from its start on go well.
abbrev pub IsNeverRefused : Image → Type 0
IsNeverRefused i = HoldsFromItsStart i (λ p items w. GoesWell i p items)

-- ---- the covered processes of a history

-- The library lists the program of p as checked, with this image, and p has just been started in w: by the boot, or by the last of these items.
pub data WasStarted (lib : Library) (boot : World) (items : List TraceItem) (i : Image) (w : World) (p : ℕ) : Type 0 where
  by_boot : items ≡ [] → w ≡ boot → program_of lib boot p ≡ Some (record { checked = true; image = i }) → WasStarted lib boot items i w p
  by_call : (before : List TraceItem) (v : World) (caller : ℕ)
      → items ≡ before ++ (item.Call caller name.ProcessStart (outcome.Answered status.Ok) ∷ []) → Runs lib boot (flat_map single before) v
      → (step : Step lib v caller (item.Call caller name.ProcessStart (outcome.Answered status.Ok)) w) → StartsChild lib v caller step.process p
      → program_of lib v p ≡ Some (record { checked = true; image = i }) → WasStarted lib boot items i w p

-- In this history from the boot world, the process p is covered from its n-th item on, the first of more: a program that is listed as
-- checked, with this image, was just started in it.
pub record IsCoveredFrom (lib : Library) (boot : World) (history : List TraceItem) (i : Image) (p n : ℕ) (more : List TraceItem) : Type 0 where
  pub items : List TraceItem
  pub parts : history ≡ items ++ more
  pub place : length items ≡ n
  pub world : World
  pub comes : Runs lib boot (flat_map single items) world
  pub started : WasStarted lib boot items i world p
  pub after : World
  pub goes : Runs lib world (flat_map single more) after

-- Each covered process goes well from its start to the end of the history.
abbrev pub CoveredGoWell : Library → World → List TraceItem → Type 0
CoveredGoWell lib boot history = (i : Image) (p n : ℕ) (more : List TraceItem) → IsCoveredFrom lib boot history i p n more → GoesWell i p more
