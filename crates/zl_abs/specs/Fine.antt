-- States whose values have the widths of registers.
use Rattle.std.specs.Prelude.{ℕ, ◌<◌, ◌≤◌, List, [], ◌∷◌}
use Rattle.zl_rights.specs.Numbers.{bits}
use Rattle.zl_code.specs.Limits.{register_count}
use Rattle.zl_abs.specs.declared.value.AbsVal.{AbsVal}
use Rattle.zl_abs.specs.declared.value.AbsVal.TheVariants.{Word, Has, KindOf, RightsOf}
use Rattle.zl_abs.specs.Values.{ANY}
use Rattle.zl_abs.specs.States.{State, IsState, value_at}
use Rattle.zl_abs.specs.Rule.{Edge}

-- a word has 64 bits, rights have 32, and a tag names one of the registers
abbrev pub Fits : AbsVal → Type 0
Fits (Word m) = m ≤ ANY
Fits (Has maybe k r) = bits r ≤ 0xffff_ffff
Fits (KindOf r) = r < register_count
Fits (RightsOf r) = r < register_count

-- a state as it is in a typing, whose values have their widths
pub record IsFine (s : State) : Type 0 where
  pub state : IsState s
  pub fits : (r : ℕ) → Fits (value_at s r)

-- each edge leads to a fine state
abbrev pub AllFine : List Edge → Type 0
AllFine [] = Unit {0}
AllFine (e ∷ es) = IsFine e.1 × AllFine es
