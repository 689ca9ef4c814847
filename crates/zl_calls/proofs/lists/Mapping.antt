-- A list of which one item after another becomes what a function makes of it.
use Rattle.zl_calls.proofs.Common.{List, ap, arith, drop, length, map, refl, slice_index_or, slice_set, suc, sym, take, zero, ℕ, ◌++◌, ◌+◌, ◌<◌, ◌∙◌, ◌∷◌, ◌≡◌}
use Rattle.zl_calls.proofs.Common.{◌≤◌, []}

-- the items before the place are made, and making those behind it makes all
pub record IsMapped {A : Type 0} (f : A → A) (before now : List A) (place : ℕ) : Type 0 where
  pub so_far : take place now ++ map f (drop place now) ≡ map f before
  pub long : length now ≡ length before

one_item : {A : Type 0} (f : A → A) (xs : List A) (n : ℕ) (x y : A) → n < length xs → x ≡ slice_index_or xs n x → y ≡ f x
    → take (suc n) (slice_set xs n y) ++ map f (drop (suc n) (slice_set xs n y)) ≡ take n xs ++ map f (drop n xs)
one_item f [] n x y within is made = absurd (omega (arith, within))
one_item f (z ∷ xs) zero x y within is made = ap (λ w. w ∷ map f xs) (made ∙ ap f is)
one_item f (z ∷ xs) (suc n) x y within is made = ap (λ ws. z ∷ ws) (one_item f xs n x y (omega (arith, within)) is made)

same_length : {A : Type 0} (xs : List A) (n : ℕ) (y : A) → length (slice_set xs n y) ≡ length xs
same_length [] n y = refl
same_length (x ∷ xs) zero y = refl
same_length (x ∷ xs) (suc n) y = ap suc (same_length xs n y)

pub one_mapped : {A : Type 0} (f : A → A) (before now : List A) (n : ℕ) (x y : A) → IsMapped f before now n → n < length now → x ≡ slice_index_or now n x
    → y ≡ f x → IsMapped f before (slice_set now n y) (n + 1)
one_mapped f before now n x y so_far within is made =
    let next : n + 1 ≡ suc n = omega arith in
    record {
      so_far = (λ i. take (next i) (slice_set now n y) ++ map f (drop (next i) (slice_set now n y))) ∙ (one_item f now n x y within is made ∙ so_far.so_far);
      long = same_length now n y ∙ so_far.long;
    }

none_behind : {A : Type 0} (f : A → A) (xs : List A) (n : ℕ) → length xs ≤ n → take n xs ++ map f (drop n xs) ≡ xs
none_behind f [] zero past = refl
none_behind f [] (suc n) past = refl
none_behind f (x ∷ xs) zero past = absurd (omega (arith, past))
none_behind f (x ∷ xs) (suc n) past = ap (λ ys. x ∷ ys) (none_behind f xs n (omega (arith, past)))

pub all_mapped : {A : Type 0} (f : A → A) (before now : List A) (n : ℕ) → IsMapped f before now n → length now ≤ n → now ≡ map f before
all_mapped f before now n made all = sym (none_behind f now n all) ∙ made.so_far
