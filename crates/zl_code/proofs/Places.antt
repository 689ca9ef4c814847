-- Lists by their places: what a write leaves.
use Rattle.zl_code.proofs.Common.{List, Some, [], ap, arith, length, refl, slice_get, slice_set, suc, zero, ℕ, ◌<◌, ◌∷◌, ◌≡◌, ◌≢◌}

pub get_put : {X : Type 0} (xs : List X) (n : ℕ) (v : X) → n < length xs → slice_get (slice_set xs n v) n ≡ Some v
get_put [] n v h = absurd (omega arith)
get_put (x ∷ xs) zero v h = refl
get_put (x ∷ xs) (suc n) v h = get_put xs n v (omega arith)

pub get_put_other : {X : Type 0} (xs : List X) (n m : ℕ) (v : X) → n ≢ m → slice_get (slice_set xs n v) m ≡ slice_get xs m
get_put_other [] n m v h = refl
get_put_other (x ∷ xs) zero zero v h = absurd (h refl)
get_put_other (x ∷ xs) zero (suc m) v h = refl
get_put_other (x ∷ xs) (suc n) zero v h = refl
get_put_other (x ∷ xs) (suc n) (suc m) v h = get_put_other xs n m v (λ e. h (ap suc e))
