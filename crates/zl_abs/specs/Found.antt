-- The bounds that a program's rules round up to, by where they are found.
use Rattle.std.specs.Prelude.{ℕ, List}
use Rattle.zl_abs.specs.declared.round_up.Rounding.{Rounding}
use Rattle.zl_abs.specs.declared.round_up.Rounding.TheVariants as rounding
use Rattle.zl_abs.specs.Bounds.{bounds_of}

-- those of the code, or those of the list
abbrev pub bounds_in : Rounding → List ℕ
bounds_in (rounding.Code code) = bounds_of code.now
bounds_in (rounding.List list) = list.now
