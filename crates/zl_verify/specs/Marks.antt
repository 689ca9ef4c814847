-- How the places are found at which stretches begin, and how they are numbered. No public clause cites this module.
use Rattle.std.specs.Prelude.{ℕ, ◌≡◌, ◌<◌, ◌≤◌, Bool, true, List, length, Option, Some, None, slice_get}
use Rattle.zl_code.specs.Image.{Image}
use Rattle.zl_abs.specs.Targets.{jump_of}
use Rattle.zl_verify.specs.Lists.{at}

-- the start is marked, and where the first p instructions may jump
pub record AreMarked (i : Image) (begins : List Bool) (p : ℕ) : Type 0 where
  pub long : length begins ≡ length i.code
  pub first : slice_get begins 0 ≡ Some true
  pub jumps : (n : ℕ) → n < p → jump_of i n < length i.code → slice_get begins (jump_of i n) ≡ Some true

-- what is marked of the first p instructions has a number, and stands under it
pub record AreNumbered (begins : List Bool) (numbers : List (Option ℕ)) (starts : List ℕ) (p : ℕ) : Type 0 where
  pub long : length numbers ≡ length begins
  pub few : length starts ≤ p
  pub begin : (n b : ℕ) → at numbers n ≡ Some b → slice_get starts b ≡ Some n
  pub all : (n : ℕ) → n < p → slice_get begins n ≡ Some true → at numbers n ≡ None → ⊥
  pub first : 0 < p → slice_get begins 0 ≡ Some true → at numbers 0 ≡ Some 0
