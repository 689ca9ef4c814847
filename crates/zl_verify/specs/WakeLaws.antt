-- What the laws of starting and waking say.
use Rattle.std.specs.Prelude.{ℕ, ◌≡◌, ◌≤◌, List, [], Option, Some, None, IsTrue}
use Rattle.zl_rights.specs.Common.{get, World, Process, Blocked, Ended}
use Rattle.zl_rights.specs.Numbers.{KILLED}
use Rattle.zl_rights.specs.World.{Awaited}
use Rattle.zl_rights.specs.declared.entry.Entry.{Entry}
use Rattle.zl_code.specs.declared.boot.Statement.{Statement}
use Rattle.zl_code.specs.declared.history.TraceItem.{TraceItem}
use Rattle.zl_code.specs.Image.{Image, Library}
use Rattle.zl_code.specs.Effects.{may_get_all}
use Rattle.zl_code.specs.Boot.{started_process}
use Rattle.zl_code.specs.Starting.{created_process}
use Rattle.zl_code.specs.Steps.{Step, Runs}
use Rattle.zl_abs.specs.Values.{ANY}
use Rattle.zl_abs.specs.States.{State}
use Rattle.zl_verify.specs.Conforms.{Conforms}
use Rattle.zl_verify.specs.CallLaws.{IsAnswered}
use Rattle.std.specs.List.{AllByRecursion}
use Rattle.zl_code.specs.Spells.{is_in_range}
use Rattle.zl_code.specs.Sound.{IsSound}
use Rattle.zl_code.specs.Headline.{IsSizedBoot}
use Rattle.zl_verify.specs.SizedLaws.{IsSized}

-- ---- the end of a step

-- A step from w to w2 in a run that begins at a boot world with images in range and words of 64 bits.
pub record IsRunStep (lib : Library) (w : World) (p : ℕ) (x : TraceItem) (w2 : World) : Type 0 where
  pub statements : List Statement
  pub boot : World
  pub items : List TraceItem
  pub begins : IsSizedBoot lib statements boot
  pub run : Runs lib boot items w
  pub step : Step lib w p x w2

-- A step from w to w2 with what the laws of steps need of w, however it came about.
pub record IsFitStep (lib : Library) (w : World) (p : ℕ) (x : TraceItem) (w2 : World) : Type 0 where
  pub images : AllByRecursion (λ g. IsTrue (is_in_range g.image)) lib
  pub sound : IsSound w
  pub sized : IsSized w
  pub step : Step lib w p x w2

-- What becomes of the process p, which was q, till the step ends with w2.
pub data EndsStep (i : Image) (t : ℕ → Option State) (p : ℕ) (q : Process) (w2 : World) : Type 0 where
  -- it is as it was, and conforms
  stays : get w2.processes p ≡ Some q → Conforms i t w2 p q → EndsStep i t p q w2
  -- it waited, and stands ready at the end of a followed edge, where it conforms
  wakes : (awaited : Awaited) (destinations : List ℕ) → q.state ≡ Blocked awaited destinations → IsAnswered i t p q w2 → EndsStep i t p q w2

-- What the step of another makes of the process p, which was q, till it ends with w2.
pub data OthersLeave (i : Image) (t : ℕ → Option State) (p : ℕ) (q : Process) (w2 : World) : Type 0 where
  -- it is as it was, or it is awake, and conforms
  left_so : EndsStep i t p q w2 → OthersLeave i t p q w2
  -- it was killed, and its handles closed
  was_killed : get w2.processes p ≡ Some (record q { state = Ended KILLED; handles = []; last = None }) → OthersLeave i t p q w2

-- ---- a start

-- The process is as a statement of a boot started it: by a program of the library, with handles at values that they may get, and a word.
pub record IsBooted (lib : Library) (q : Process) : Type 0 where
  pub program : ℕ
  pub handles : List Entry
  pub values : List ℕ
  pub word : ℕ
  pub made : q ≡ started_process lib program handles values word
  pub free : IsTrue (may_get_all (created_process lib program) handles values)
  pub small : word ≤ ANY
