-- A queue from which a handle was taken.
use Rattle.std.proofs.Common.{◌≡◌, ℕ, suc, ◌+◌, ◌<◌, List, [], ◌∷◌, ◌++◌, length, take, drop, sym, Option, Some, None, IfSome, slice_index_or, slice_set}
use Rattle.std.proofs.Common.{append-nil, arith}
use Rattle.std.proofs.Math.Seq.{split_at}
use Rattle.std.specs.Option.{option_to_list}
use Rattle.std.proofs.lemmas.List.{take-append-drop, take-set, drop-set}
use Rattle.zl_rights.specs.World.{Message}
use Rattle.zl_rights.specs.declared.entry.Entry.{Entry}
use Rattle.zl_channel.specs.Queue.{Drains}

module _ {X : Type 0} where
  -- a list around the element at a place
  around : (xs : List X) (i : ℕ) (x : X) → i < length xs → slice_index_or xs i x ≡ x → xs ≡ take i xs ++ x ∷ drop (i + 1) xs
  around xs i x within is =
      let step : i + 1 ≡ suc i = omega arith in
      rw step (rw is at (split_at xs i x within))

  -- a list around the element that was written
  around_set : (xs : List X) (i : ℕ) (x : X) → i < length xs → slice_set xs i x ≡ take i xs ++ x ∷ drop (i + 1) xs
  around_set xs i x within =
      rw (take-set xs i x, drop-set xs i x within) at (sym (take-append-drop i (slice_set xs i x)))

-- the last handle of the message at a place was taken
pub drained : (queue : List Message) (place : ℕ) (bytes : List ℕ) (handles rest : List Entry) (taken : Option Entry)
    → place < length queue → slice_index_or queue place (record { bytes = bytes; handles = handles }) ≡ record { bytes = bytes; handles = handles }
    → handles ≡ rest ++ option_to_list taken → IfSome taken (λ entry. Drains queue entry (slice_set queue place (record { bytes = bytes; handles = rest })))
drained queue place bytes handles rest None within at popped = tt
drained queue place bytes handles rest (Some entry) within at popped = record {
  earlier = take place queue;
  later = drop (place + 1) queue;
  bytes = bytes;
  before = rest;
  behind = [];
  was = rw (← popped) (around queue place _ within at);
  is = rw (append-nil rest) (around_set queue place _ within);
}
