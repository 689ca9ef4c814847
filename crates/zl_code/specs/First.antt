-- The first of several that may be there.
use Rattle.std.specs.Prelude.{List, [], ◌∷◌, Option, Some, None}

-- the first that is there
abbrev pub first_some : {T : Type 0} → List (Option T) → Option T
first_some [] = None
first_some (None ∷ rest) = first_some rest
first_some (Some x ∷ rest) = Some x
