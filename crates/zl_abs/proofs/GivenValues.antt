-- What the destinations of a call get that gives its status alone.
use Rattle.zl_abs.proofs.Common.{AbsVal, List, call_row, is_written, refl, replicate, those, values_by, zip, ℕ, ◌∷◌, ◌≡◌}
use Rattle.zl_code.specs.Given.{given}
use Rattle.zl_code.specs.declared.history.CallName.{CallName}
use Rattle.zl_code.specs.declared.history.CallName.TheVariants as call
use Rattle.zl_code.specs.declared.layout.Gives.{Gives}
use Rattle.zl_code.specs.declared.layout.Gives.TheVariants as column
use Rattle.zl_abs.specs.CallRules.{gives}
use Rattle.zl_abs.specs.declared.value.AbsVal.TheVariants.{Word}

-- these values, or the largest status in each place
abbrev pub unless_alone : List AbsVal → Gives → List AbsVal
unless_alone values column.Status = Word 30 ∷ replicate 6 (Word 30)
unless_alone values _ = values

-- behind the status such a call has no destination
pub status_alone : (n : CallName) (rs bounds : List ℕ) (register : ℕ) (have : AbsVal) (number : ℕ)
    → zip (those is_written (call_row n).fields 0 rs) (unless_alone (Word 30 ∷ values_by bounds (gives n) register have number) (given n))
    ≡ zip (those is_written (call_row n).fields 0 rs) (Word 30 ∷ values_by bounds (gives n) register have number)
status_alone call.Close rs bounds register have number = refl
status_alone _ rs bounds register have number = refl
