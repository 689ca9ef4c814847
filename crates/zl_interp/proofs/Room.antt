-- How many places in front hold 0.
use Rattle.zl_interp.proofs.Common.{Bool, List, [], ap, arith, false, if◌then◌else◌, length, refl, suc, take, true, ℕ, ◌+◌, ◌∙◌, ◌∷◌, ◌≡◌}
use Rattle.std.proofs.lemmas.List.{length-take}
use Rattle.std.proofs.lemmas.List.Folds.{length-prefix_len}
use Rattle.std.proofs.Math.Nat.{min_comm}
use Rattle.std.specs.List.{prefix_len}
use Rattle.std.specs.Prelude.{min, ◌==◌}
use Rattle.zl_code.specs.Asked.{zeros_in_front}

zeros_are_prefix : (xs : List ℕ) → prefix_len (λ v. v == 0) xs ≡ zeros_in_front xs
zeros_are_prefix [] = refl
zeros_are_prefix (x ∷ xs) = by (x == 0) (zeros_are_prefix xs)
  where
    by : (t : Bool) → prefix_len (λ v. v == 0) xs ≡ zeros_in_front xs
        → (if t then 1 + prefix_len (λ v. v == 0) xs else 0) ≡ (if t then suc (zeros_in_front xs) else 0)
    by true so_far = omega (arith, so_far)
    by false so_far = refl

-- the first 64 of them, counted
pub room_counted : (xs : List ℕ) → length (take 64 (take (prefix_len (λ v. v == 0) xs) xs)) ≡ min (zeros_in_front xs) 64
room_counted xs =
    length-take 64 _ ∙ ap (min 64) (length-prefix_len (λ v. v == 0) xs ∙ zeros_are_prefix xs) ∙ min_comm 64 (zeros_in_front xs)
