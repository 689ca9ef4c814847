-- Lists by their places: what a write leaves.
use Rattle.zl_verify.proofs.Common.{Bool, List, None, Option, Some, [], arith, at, false, inl, inr, length, refl, slice_get, slice_set, subst, suc}
use Rattle.zl_verify.proofs.Common.{true, zero, ℕ, ◌<◌, ◌∷◌, ◌≡◌, ◌≢◌}
use Rattle.zl_verify.specs.Lists.{within}
pub use Rattle.std.proofs.lemmas.Bool.{cases_eq as equal_or_not, cases_lt as below_or_not}
pub use Rattle.std.proofs.lemmas.Option.{slice_get_past as get_past, slice_get_within as there}
pub use Rattle.zl_code.proofs.Places.{get_put, get_put_other}
-- for the crates above
pub use Rattle.zl_abs.proofs.ListSteps.{used_here}

-- what holds of what is read at each place, where one was written
pub set_by : {X Y : Type 0} (xs : List X) (n : ℕ) (v : X) (read : Option X → Y) (P : ℕ → Y → Type 0) → n < length xs → P n (read (Some v))
    → ((m : ℕ) → n ≢ m → P m (read (slice_get xs m))) → (m : ℕ) → P m (read (slice_get (slice_set xs n v) m))
set_by xs n v read P h this others m = elim (equal_or_not n m) [
  | inl e ↦ subst (λ k. P k (read (slice_get (slice_set xs n v) k))) e (rw (get_put xs n v h) this)
  | inr d ↦ rw (get_put_other xs n m v d) (others m d)
]

pub mapped : {X : Type 0} (xs : List (Option X)) (n : ℕ) (x : X) → at xs n ≡ Some x → n < length xs
mapped {X} xs n x e = by (slice_get xs n) refl e
  where
    by : (o : Option (Option X)) → slice_get xs n ≡ o → within o ≡ Some x → n < length xs
    by None e g = absurd (let z : None ≡ Some x = g in cc)
    by (Some o) e g = there xs n o e

pub nowhere : {X : Type 0} (xs : List X) (n : ℕ) → slice_get xs n ≡ None → n < length xs → ⊥
nowhere [] n e h = omega arith
nowhere (x ∷ xs) zero e h = cc
nowhere (x ∷ xs) (suc n) e h = nowhere xs n e (omega arith)

pub off : (xs : List Bool) (n : ℕ) → slice_get (slice_set xs n false) n ≡ Some true → ⊥
off [] n e = cc
off (x ∷ xs) zero e = cc
off (x ∷ xs) (suc n) e = off xs n e
