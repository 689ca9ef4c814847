-- What the law of a checked process in a run says.
use Rattle.std.specs.Prelude.{ℕ, ◌≡◌, Bool, false, Option, Some, IsTrue, slice_get}
use Rattle.zl_rights.specs.Common.{get, runs, World, Process}
use Rattle.zl_rights.specs.Signals.{has_ended}
use Rattle.zl_code.specs.declared.history.Outcome.TheVariants as outcome
use Rattle.zl_code.specs.declared.history.TraceItem.{TraceItem}
use Rattle.zl_code.specs.declared.history.TraceItem.TheVariants as item
use Rattle.zl_code.specs.Image.{Image, Library}
use Rattle.zl_code.specs.Headline.{MayEnd, is_fault}
use Rattle.zl_abs.specs.States.{State}
use Rattle.zl_verify.specs.Conforms.{Conforms}

-- No call of p is answered BAD_HANDLE, WRONG_TYPE or ACCESS_DENIED here, none ends p but process_exit and its own task_kill, and p isn't stuck.
abbrev pub IsFineItem : ℕ → TraceItem → Type 0
IsFineItem p (item.Call pid called (outcome.Answered answer)) = pid ≡ p → is_fault answer ≡ false
IsFineItem p (item.Call pid called (outcome.Ended code)) = pid ≡ p → MayEnd called code
IsFineItem p (item.Call pid called outcome.Blocked) = Unit {0}
IsFineItem p (item.Run pid count) = Unit {0}
IsFineItem p (item.Stuck pid) = pid ≡ p → ⊥

-- The process p of w runs, by a program of the library with this image, and is as the typing says.
pub record IsUnderWay (lib : Library) (i : Image) (t : ℕ → Option State) (w : World) (p : ℕ) : Type 0 where
  pub process : Process
  pub there : get w.processes p ≡ Some process
  pub running : IsTrue (runs process.state)
  pub checked : Bool
  pub program : slice_get lib process.program ≡ Some (record { checked = checked; image = i })
  pub conforms : Conforms i t w p process

-- The process p of w has ended.
pub record HasEnded (w : World) (p : ℕ) : Type 0 where
  pub process : Process
  pub there : get w.processes p ≡ Some process
  pub over : IsTrue (has_ended process.state)
