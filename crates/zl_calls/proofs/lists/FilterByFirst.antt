-- A walk along a list that takes the elements out that pass a test: what is left is what doesn't pass.
use Rattle.zl_calls.proofs.Common.{Bool, List, None, Some, [], ap, arith, cases_Bool, drop, false, false≢true, filter, filter-append, filter_all, find}
use Rattle.zl_calls.proofs.Common.{get_or_from_slice_get, inl, inr, length, length-append, length-take-le, list_any, list_any-append, none-some, not, or_parts}
use Rattle.zl_calls.proofs.Common.{position_or_len, refl, same_Some, slice_get, slice_get_cases, slice_get_within, subst, suc, sym, take, take_all, take_more}
use Rattle.zl_calls.proofs.Common.{true, without_first, zero, ℕ, ◌++◌, ◌+◌, ◌∙◌, ◌∷◌, ◌≡◌, ◌≤◌}
use Rattle.std.proofs.Math.Seq.{take-append_seam}

module _ {X : Type 0} where
  -- the list is what stands before the place, the element there and what stands behind it
  pub parts : (xs : List X) (place : ℕ) (x : X) → slice_get xs place ≡ Some x → xs ≡ take place xs ++ (x ∷ drop (suc place) xs)
  parts [] place x at = absurd (none-some x at)
  parts (y ∷ xs) zero x at = ap (λ (z : X). z ∷ xs) (same_Some y x at)
  parts (y ∷ xs) (suc place) x at = ap (λ (rest : List X). y ∷ rest) (parts xs place x at)

  -- nothing before the element passes, and it does
  pub first_out : (test : X → Bool) (xs : List X) (x : X) (ys : List X) → list_any test xs ≡ false → test x ≡ true
      → without_first test (xs ++ (x ∷ ys)) ≡ xs ++ ys
  first_out test [] x ys none pass = rw pass refl
  first_out test (y ∷ xs) x ys none pass =
      let both = or_parts (test y) _ none in
      let place : ℕ = position_or_len test (xs ++ (x ∷ ys)) in
      let one : 1 + place ≡ suc place = omega arith in
      let two : 1 + place + 1 ≡ suc (place + 1) = omega arith in
      rw both.0 ((λ i. take (one i) (y ∷ (xs ++ (x ∷ ys))) ++ drop (two i) (y ∷ (xs ++ (x ∷ ys))))
      ∙ ap (λ (rest : List X). y ∷ rest) (first_out test xs x ys both.1 pass))

  pub first_found : (test : X → Bool) (xs : List X) (x : X) (ys : List X) → list_any test xs ≡ false → test x ≡ true → find test (xs ++ (x ∷ ys)) ≡ Some x
  first_found test [] x ys none pass = rw pass refl
  first_found test (y ∷ xs) x ys none pass = let both = or_parts (test y) _ none in rw both.0 (first_found test xs x ys both.1 pass)

  -- where nothing passes, nothing passes that is asked for more
  pub none_too : (test narrow : X → Bool) → ((x : X) → narrow x ≡ true → test x ≡ true) → (xs : List X) → list_any test xs ≡ false → list_any narrow xs ≡ false
  none_too test narrow wider [] none = refl
  none_too test narrow wider (x ∷ xs) none =
      let both = or_parts (test x) _ none in
      elim (cases_Bool (narrow x)) as (λ _. list_any narrow (x ∷ xs) ≡ false) [
        | inl pass ↦ absurd (false≢true (sym both.0 ∙ wider x pass))
        | inr fail ↦ rw fail (none_too test narrow wider xs both.1)
      ]

  -- so far the list was walked: nothing before the place passes, and what doesn't pass is as it was
  pub record IsSifting (test : X → Bool) (before : List X) (place : ℕ) (xs : List X) : Type 0 where
    pub within : place ≤ length xs
    pub none : list_any test (take place xs) ≡ false
    pub left : filter (λ x. not (test x)) xs ≡ filter (λ x. not (test x)) before

  pub sifting_starts : (test : X → Bool) (xs : List X) → IsSifting test xs 0 xs
  sifting_starts test xs = record { within = omega arith; none = refl; left = refl }

  -- the element at the place stays
  pub sifting_stays : (test : X → Bool) (before : List X) (place : ℕ) (xs : List X) (x : X) → slice_get xs place ≡ Some x → test x ≡ false
      → IsSifting test before place xs → IsSifting test before (place + 1) xs
  sifting_stays test before place xs x at fail so_far = record {
    within = omega (arith, slice_get_within xs place x at);
    none = rw (
      take_more xs place x (slice_get_within xs place x at),
      get_or_from_slice_get xs place x x at,
      list_any-append test (take place xs) (x ∷ []),
      so_far.none,
      fail,
    ) refl;
    left = so_far.left;
  }

  -- the element at the place is taken out, as the first that a narrower test asks for
  module _ (test narrow : X → Bool) (wider : (x : X) → narrow x ≡ true → test x ≡ true) (before : List X) (place : ℕ) (xs : List X) (x : X)
      (at : slice_get xs place ≡ Some x) (asked : narrow x ≡ true) (so_far : IsSifting test before place xs) where
    abbrev kept : List X
    kept = take place xs

    abbrev behind : List X
    behind = drop (suc place) xs

    -- what is left
    pub rest_is : without_first narrow xs ≡ kept ++ behind
    rest_is = ap (without_first narrow) (parts xs place x at) ∙ first_out narrow kept x behind (none_too test narrow wider kept so_far.none) asked

    long : length kept ≡ place
    long = length-take-le place xs so_far.within

    pub one_less : length xs ≡ suc (length (without_first narrow xs))
    one_less =
        let whole : length xs ≡ length (kept ++ (x ∷ behind)) = ap (λ (ys : List X). length ys) (parts xs place x at) in
        let less : length (without_first narrow xs) ≡ length (kept ++ behind) = ap (λ (ys : List X). length ys) rest_is in
        omega (arith, whole, less, length-append kept (x ∷ behind), length-append kept behind)

    left_is : filter (λ y. not (test y)) (kept ++ behind) ≡ filter (λ y. not (test y)) xs
    left_is =
        let out : filter (λ y. not (test y)) (x ∷ behind) ≡ filter (λ y. not (test y)) behind = rw (wider x asked) refl in
        filter-append (λ y. not (test y)) kept behind
        ∙ (ap (λ (ys : List X). filter (λ y. not (test y)) kept ++ ys) (sym out)
        ∙ (sym (filter-append (λ y. not (test y)) kept (x ∷ behind)) ∙ ap (filter (λ y. not (test y))) (sym (parts xs place x at))))

    front : take place (kept ++ behind) ≡ kept
    front = (λ i. take (sym long i) (kept ++ behind)) ∙ take-append_seam kept behind

    pub sifting_takes : IsSifting test before place (without_first narrow xs)
    sifting_takes = record {
      within = omega (arith, one_less, slice_get_within xs place x at);
      none = ap (λ (ys : List X). list_any test (take place ys)) rest_is ∙ (ap (list_any test) front ∙ so_far.none);
      left = ap (filter (λ y. not (test y))) rest_is ∙ (left_is ∙ so_far.left);
    }

  -- at the end nothing is left that passes
  pub none_there : (test : X → Bool) (before : List X) (place : ℕ) (xs : List X) → slice_get xs place ≡ None → IsSifting test before place xs
      → list_any test xs ≡ false
  none_there test before place xs none so_far =
      let past : length xs ≤ place = elim (slice_get_cases xs place).1 as (λ _. length xs ≤ place) [
        | inl here ↦ absurd (none-some here.0 (sym none ∙ here.2))
        | inr past ↦ past.0
      ] in
      subst (λ ys. list_any test ys ≡ false) (take_all place xs past) so_far.none

  -- just what doesn't pass is left
  pub sifting_ends : (test : X → Bool) (before : List X) (place : ℕ) (xs : List X) → slice_get xs place ≡ None → IsSifting test before place xs
      → xs ≡ filter (λ x. not (test x)) before
  sifting_ends test before place xs none so_far = sym (filter_all test xs (none_there test before place xs none so_far)) ∙ so_far.left
