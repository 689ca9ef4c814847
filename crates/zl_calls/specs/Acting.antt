-- One step, up to where processes wake. No public clause cites this module.
use Rattle.std.specs.Prelude.{ℕ, ◌≡◌, Bool, true, false, Some}
use Rattle.zl_code.specs.Common.{get, wakes, World, Process, Ready, Library, Settles, next_for}
use Rattle.zl_code.specs.declared.history.TraceItem.{TraceItem}
use Rattle.zl_code.specs.declared.history.TraceItem.TheVariants as item
use Rattle.zl_code.specs.Steps.{Acts, pid_of}

-- p is ready in w and acts; then what isn't held goes, and nothing wakes yet
pub record IsActed (lib : Library) (w : World) (p : ℕ) (x : TraceItem) (w2 : World) : Type 0 where
  pub process : Process
  pub is_there : get w.processes p ≡ Some process
  pub is_ready : process.state ≡ Ready
  pub acted : World
  pub acts : Acts lib w p (next_for lib process) x acted
  pub settles : Settles acted w2

-- the item tells what p did so
pub record DoesNext (lib : Library) (w : World) (p : ℕ) (x : TraceItem) (w2 : World) : Type 0 where
  pub pid_is : pid_of x ≡ p
  pub acted : IsActed lib w p x w2

-- the item tells of a local instruction
abbrev pub is_local : TraceItem → Bool
is_local (item.Run pid count) = true
is_local _ = false

-- where nothing was due before, each wait is left, and nothing is due
abbrev pub StaysAwake : World → (left after : World) → Type 0
StaysAwake w left after = wakes w ≡ w → wakes left ≡ after
