-- Lists that have something at some of their places.
use Rattle.std.specs.Prelude.{ℕ, List, Option, Some, None, slice_get}

-- the value, where it is there twice
abbrev pub within : {A : Type 0} → Option (Option A) → Option A
within None = None
within (Some o) = o

-- what the list has at the place
abbrev pub at : {A : Type 0} → List (Option A) → ℕ → Option A
at xs n = within (slice_get xs n)
