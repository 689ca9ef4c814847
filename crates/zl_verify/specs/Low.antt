-- States that lie below those of every typing. No public clause cites this module.
use Rattle.std.specs.Prelude.{ℕ, ◌≡◌, ◌⊎◌, Bool, true, false, not, ◌&&◌, ◌==◌, nat_lt, List, [], ◌∷◌, Option, Some, None, IsTrue}
use Rattle.zl_code.specs.Image.{Image}
use Rattle.zl_code.specs.Spells.{is_in_range}
use Rattle.zl_abs.specs.declared.value.AbsVal.{AbsVal}
use Rattle.zl_abs.specs.declared.value.AbsVal.TheVariants.{Word}
use Rattle.zl_abs.specs.Fine.{Fits, IsFine}
use Rattle.zl_abs.specs.Rule.{Edge}
use Rattle.zl_abs.specs.States.{State, refined, risen, value_at}
use Rattle.zl_abs.specs.Typing.{IsAbove, IsTyping}
use Rattle.zl_abs.specs.Values.{below}
use Rattle.zl_verify.specs.Lists.{at}

-- a fine state, below that of every typing at the n-th instruction
pub record IsLow (i : Image) (n : ℕ) (s : State) : Type 0 where
  pub fine : IsFine s
  pub lower : (y : ℕ → Option State) → IsTyping i y → IsAbove (y n) s

-- each state of the table is such a one, and the fields of the image are in their ranges
pub record AreLow (i : Image) (states : List (Option State)) : Type 0 where
  pub range : IsTrue (is_in_range i)
  pub each : (n : ℕ) (s : State) → at states n ≡ Some s → IsLow i n s

-- so is each at the end of an edge
abbrev pub AllLow : Image → List Edge → Type 0
AllLow i [] = Unit {0}
AllLow i (e ∷ es) = IsLow i e.0 e.1 × AllLow i es

-- there is at least this in the register
abbrev pub Reaches : Option State → ℕ → AbsVal → Type 0
Reaches None r v = ⊥
Reaches (Some s) r v = IsTrue (below v (value_at s r))

-- it is a higher word than one that isn't 0
abbrev pub is_climb : AbsVal → AbsVal → Bool
is_climb (Word m) (Word n) = not (m == 0) && nat_lt m n
is_climb _ _ = false

-- the register of what is known, if something is, rises to this, if it can
abbrev pub Rises : Option State → ℕ → AbsVal → Option State → Type 0
Rises None r v o = o ≡ None
Rises (Some s) r v o = (o ≡ Some s) ⊎ ((risen s r v ≡ o) ⊎ ((is_climb (value_at s r) v ≡ true) × (o ≡ Some (refined s r v))))

-- every typing has at least this in the register at the n-th instruction
pub record IsLowOne (i : Image) (n r : ℕ) (v : AbsVal) : Type 0 where
  pub fits : Fits v
  pub lower : (y : ℕ → Option State) → IsTyping i y → Reaches (y n) r v
