-- What it says that an image is accepted, or refused.
use Rattle.std.specs.Prelude.{ℕ, ◌≡◌, ◌<◌, Bool, true, false, List, Option, Some}
use Rattle.zl_code.specs.Image.{Image}
use Rattle.zl_abs.specs.States.{State}
use Rattle.zl_abs.specs.Typing.{IsAbove, IsTyping}
use Rattle.zl_verify.specs.declared.steps.Longest.{Longest}
use Rattle.zl_verify.specs.Lists.{at}
use Rattle.zl_verify.specs.Peaks.{numbers_by}
use Rattle.zl_verify.specs.declared.refusal.RefusalCause.{RefusalCause}
use Rattle.zl_verify.specs.declared.refusal.RefusalCause.TheVariants as cause
use Rattle.zl_verify.specs.Steps.{IsStepBound, IsOver}

-- an accepted image, with a state and the longest ways at some of its instructions
pub record Accepted : Type 0 where
  pub image : Image
  pub states : List (Option State)
  pub steps : List (Option Longest)

-- the states are a typing of the image, and the ways stand for a step bound of it
pub record IsAccepted (i : Image) (states : List (Option State)) (steps : List (Option Longest)) : Type 0 where
  pub typing : IsTyping i (at states)
  pub bound : IsStepBound i (at states) (numbers_by i steps)

-- the image has a typing and a step bound of it
pub record HasStepBound (i : Image) : Type 0 where
  pub states : ℕ → Option State
  pub typing : IsTyping i states
  pub steps : ℕ → List ℕ → ℕ
  pub bound : IsStepBound i states steps

-- a typing whose states lie below those of every typing
pub record IsLeastTyping (i : Image) (t : ℕ → Option State) : Type 0 where
  pub typing : IsTyping i t
  pub least : (y : ℕ → Option State) → IsTyping i y → (n : ℕ) (s : State) → t n ≡ Some s → IsAbove (y n) s

-- no map is a typing
pub record HasNoTyping (i : Image) : Type 0 where
  pub none : (t : ℕ → Option State) → IsTyping i t → ⊥

-- there is a typing, none has a step bound, and of the instructions that are over in the least typing this is
-- the first
pub record IsOverBudget (i : Image) (n : ℕ) : Type 0 where
  pub found : ℕ → Option State
  pub typing : IsLeastTyping i found
  pub none : (t : ℕ → Option State) (steps : ℕ → List ℕ → ℕ) → IsTyping i t → IsStepBound i t steps → ⊥
  pub over : IsOver i found n
  pub first : (m : ℕ) → m < n → IsOver i found m → ⊥

-- what a refusal at the n-th instruction says: for another cause than memory and the budget there is no typing
abbrev pub IsRefused : Image → ℕ → RefusalCause → Type 0
IsRefused i n (cause.Rule c) = HasNoTyping i
IsRefused i n cause.JoinConflict = HasNoTyping i
IsRefused i n cause.Budget = IsOverBudget i n
IsRefused i n cause.NoMemory = Unit {0}

-- a cause that says that there is no typing
abbrev pub is_of_rules : RefusalCause → Bool
is_of_rules (cause.Rule c) = true
is_of_rules cause.JoinConflict = true
is_of_rules _ = false
