-- A test of the entries in a slab, wherever their keys begin.
use Rattle.zl_rights.proofs.Common.{◌≡◌, ℕ, ◌+◌, Bool, List, [], ◌∷◌, refl, ap, Option, Some, None}
use Rattle.std.specs.Prelude.{◌||◌}
use Rattle.std.specs.List.{list_any}
use Rattle.slab.specs.Slab.{entries_from}

-- whether an entry passes doesn't go by the key of the first slot
pub any_from : {X : Type 0} (test : X → Bool) (m n : ℕ) (slots : List (Option X))
    → list_any (λ e. test e.1) (entries_from m slots) ≡ list_any (λ e. test e.1) (entries_from n slots)
any_from test m n [] = refl
any_from test m n (None ∷ rest) = any_from test (m + 1) (n + 1) rest
any_from test m n (Some x ∷ rest) = ap (λ later. test x || later) (any_from test (m + 1) (n + 1) rest)
