-- Going through the objects by koid. No public clause cites this module.
use Rattle.std.specs.Prelude.{ℕ, ◌≡◌, ◌≤◌, IsTrue, false, Option, Some, None}
use Rattle.zl_rights.specs.Map.{Map, has_key}
use Rattle.zl_objects.specs.declared.object.Object.{Object}

-- k is the least koid from this one on
pub record IsLeastFrom (m : Map Object) (from k : ℕ) : Type 0 where
  pub later : from ≤ k
  pub there : IsTrue (has_key m k)
  pub least : (j : ℕ) → from ≤ j → IsTrue (has_key m j) → k ≤ j

-- the first koid from this one on, if there is one
abbrev pub IsNext : Map Object → ℕ → Option ℕ → Type 0
IsNext m from None = (j : ℕ) → from ≤ j → has_key m j ≡ false
IsNext m from (Some k) = IsLeastFrom m from k
