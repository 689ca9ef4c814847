-- The list of all waits in two parts, between which entries go without being moved. No public clause cites this module.
use Rattle.std.specs.Prelude.{ℕ, ◌≡◌, ◌+◌, ◌≤◌, List, length, slice_index_or, Option, IfSome}
use Rattle.std.specs.List.{remove}
use Rattle.zl_objects.specs.declared.wait.Listed.{Listed}

-- the entries, the earliest first, and how many there is room for
pub record Entries : Type 0 where
  pub items : List Listed
  pub room : ℕ

-- either part has room for so many entries, and there are no more in both
pub record HasRoom (before after : List Listed) (front behind room : ℕ) : Type 0 where
  pub front_fits : room ≤ front
  pub behind_fits : room ≤ behind
  pub enough : length before + length after ≤ room

-- the entry at the place was taken out
pub record IsTaken (list : List Listed) (place : ℕ) (taken : Option Listed) (rest : List Listed) : Type 0 where
  pub value : IfSome taken (λ x. x ≡ slice_index_or list place x)
  pub rest_is : rest ≡ remove list place
