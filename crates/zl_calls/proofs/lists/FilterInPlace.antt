-- A loop that takes out of a list what doesn't pass, and lists at one place.
use Rattle.zl_calls.proofs.Common.{Bool, List, [], ap, append_assoc, arith, drop, false, filter, get_or, length, refl, suc, sym, take}
use Rattle.zl_calls.proofs.Common.{take_more, true, zero, ℕ, ◌++◌, ◌+◌, ◌<◌, ◌∙◌, ◌∷◌, ◌≡◌}

module _ {X : Type 0} where
  pub drop_out : (xs : List X) (i : ℕ) → i < length xs → drop i (take i xs ++ drop (suc i) xs) ≡ drop (suc i) xs
  drop_out [] i within = absurd (omega (arith, within))
  drop_out (x ∷ xs) zero within = refl
  drop_out (x ∷ xs) (suc i) within = drop_out xs i (omega (arith, within))

  pub take_out : (xs : List X) (i : ℕ) → i < length xs → take i (take i xs ++ drop (suc i) xs) ≡ take i xs
  take_out [] i within = absurd (omega (arith, within))
  take_out (x ∷ xs) zero within = refl
  take_out (x ∷ xs) (suc i) within = ap (λ (ys : List X). x ∷ ys) (take_out xs i (omega (arith, within)))

  pub drop_here : (xs : List X) (i : ℕ) (d : X) → i < length xs → drop i xs ≡ get_or xs i d ∷ drop (suc i) xs
  drop_here [] i d within = absurd (omega (arith, within))
  drop_here (x ∷ xs) zero d within = refl
  drop_here (x ∷ xs) (suc i) d within = drop_here xs i d (omega (arith, within))

-- ---- those that pass are left

module _ {X : Type 0} (test : X → Bool) (before : List X) where
  -- what stands before the place passes, and so do those behind it that are to be left
  pub record IsKeeping (place : ℕ) (xs : List X) : Type 0 where
    pub left : take place xs ++ filter test (drop place xs) ≡ filter test before

  module _ (place : ℕ) (xs : List X) (so_far : IsKeeping place xs) where
    module _ (d x : X) (within : place < length xs) (at : get_or xs place d ≡ x) where
      stands : drop place xs ≡ x ∷ drop (suc place) xs
      stands = drop_here xs place d within ∙ ap (λ (y : X). y ∷ drop (suc place) xs) at

      pub keeping_stays : test x ≡ true → IsKeeping (place + 1) xs
      keeping_stays passes = record {
        left =
            let one : place + 1 ≡ suc place = omega arith in
            let more : take (place + 1) xs ≡ take place xs ++ (x ∷ []) = take_more xs place d within ∙ ap (λ (y : X). take place xs ++ (y ∷ [])) at in
            let rest : x ∷ filter test (drop (suc place) xs) ≡ filter test (drop place xs) = sym (ap (filter test) stands ∙ rw passes refl) in
            (λ i. more i ++ filter test (drop (one i) xs))
            ∙ (append_assoc (take place xs) (x ∷ []) (filter test (drop (suc place) xs))
            ∙ (ap (λ (ys : List X). take place xs ++ ys) rest ∙ so_far.left));
      }

      pub keeping_takes : test x ≡ false → IsKeeping place (take place xs ++ drop (suc place) xs)
      keeping_takes fails = record {
        left =
            let rest : filter test (drop (suc place) xs) ≡ filter test (drop place xs) = sym (ap (filter test) stands ∙ rw fails refl) in
            (λ i. take_out xs place within i ++ filter test (drop_out xs place within i))
            ∙ (ap (λ (ys : List X). take place xs ++ ys) rest ∙ so_far.left);
      }
