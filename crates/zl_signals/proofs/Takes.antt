-- What is left of a list, where the first element that passes was taken out.
use Rattle.zl_rights.proofs.Common.{◌≡◌, ℕ, ◌+◌, ◌<◌, ◌≤◌, Bool, List, length, Option, Some, None, IfSome, IsSome, arith}
use Rattle.zl_rights.proofs.Common.{refl, false≢true, find, position, take_all, slice_get, slice_get-get_or, nat_tests, append-nil}
use Rattle.std.proofs.Common.{add-one}
use Rattle.std.specs.Prelude.{◌↔◌, OnSome, slice_index_or}
use Rattle.std.specs.List.{position_or_len, remove}
use Rattle.std.proofs.lemmas.List.{drop_all}
use Rattle.std.proofs.lemmas.List.Folds.{find_at}
use Rattle.std.proofs.lemmas.Option.{slice_get_past}
use Rattle.zl_signals.specs.Waits.{without_first}

module _ {X : Type 0} (p : X → Bool) (xs : List X) where
  -- nothing passes
  past : position p xs ≡ None → length xs ≤ position_or_len p xs
  past none = grind (arith, nat_tests)

  -- the first that passes stands here
  here : (i : ℕ) → position p xs ≡ Some i → (position_or_len p xs ≡ i) × (i < length xs)
  here i at = grind (arith, nat_tests)

  -- nothing passes: nothing is found
  pub none_found : position p xs ≡ None → find p xs ≡ None
  none_found none = rw (find_at p xs) (slice_get_past xs _ (past none))

  -- nothing passes: all elements stay
  pub all_stay : position p xs ≡ None → xs ≡ without_first p xs
  all_stay none = rw (take_all _ xs (past none), drop_all (position_or_len p xs + 1) xs (omega (arith, past none)), append-nil xs) refl

  -- the first that passes was removed
  module _ (i n : ℕ) (taken : Option X) (at : position p xs ≡ Some i) (count : n ≡ length xs) (there : IsSome taken ↔ (i < n)) where
    is_taken : IsSome taken
    is_taken = there.1 (omega (arith, count, (here i at).1))

    -- it is what is found
    pub first_found : IfSome taken (λ x. x ≡ slice_index_or xs i x) → taken ≡ find p xs
    first_found is = rw (find_at p xs, (here i at).0) (found taken is_taken is)
      where
        found : (o : Option X) → IsSome o → IfSome o (λ x. x ≡ slice_index_or xs i x) → o ≡ slice_get xs i
        found None none same = elim (false≢true none) [ ]
        found (Some x) some same = rw (slice_get-get_or xs i x (here i at).1, ← same) refl

    -- all others stay
    pub others_stay : (rest : List X) → OnSome taken (rest ≡ remove xs i) → rest ≡ without_first p xs
    others_stay rest = left taken is_taken
      where
        left : (o : Option X) → IsSome o → OnSome o (rest ≡ remove xs i) → rest ≡ without_first p xs
        left None none is = elim (false≢true none) [ ]
        left (Some x) some is = rw (is, (here i at).0, add-one) refl
