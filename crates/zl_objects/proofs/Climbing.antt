-- Going up from job to job.
use Rattle.zl_objects.proofs.Common.{Map, Object, ap, arith, eq-eqb, false, is_below_by, ne_eqb, parent_at, refl, suc, sym, true, zero, ℕ, ◌+◌, ◌-◌, ◌<◌, ◌==◌}
use Rattle.zl_objects.proofs.Common.{◌||◌, ◌∙◌, ◌≡◌, ◌≢◌, ◌≤◌}

-- one level up, where i of the 16 are done
one_up : (m : Map Object) (job i k : ℕ) → i < 16 → is_below_by m job (16 - i) k ≡ ((parent_at m k == job) || is_below_by m job (16 - (i + 1)) (parent_at m k))
unfolding is_below_by
one_up m job i k within = let step : 16 - i ≡ suc (16 - (i + 1)) = omega (arith, within) in rw step refl

-- the job stands directly above
pub met : (m : Map Object) (job i k above : ℕ) → i < 16 → above ≡ parent_at m k → above ≡ job → is_below_by m job (16 - i) k ≡ true
met m job i k above within is same =
    one_up m job i k within ∙ ap (λ b. b || is_below_by m job (16 - (i + 1)) (parent_at m k)) (eq-eqb (parent_at m k) job (sym is ∙ same))

-- another stands directly above
pub passed : (m : Map Object) (job i k above : ℕ) → i < 16 → above ≡ parent_at m k → above ≢ job
    → is_below_by m job (16 - i) k ≡ is_below_by m job (16 - (i + 1)) above
passed m job i k above within is other = one_up m job i k within ∙ rw (← is, ne_eqb above job other) refl

-- the same parents have the same below them
pub same_below : (m n : Map Object) (job : ℕ) → ((k : ℕ) → parent_at m k ≡ parent_at n k) → (i k : ℕ) → is_below_by m job i k ≡ is_below_by n job i k
unfolding is_below_by
same_below m n job same zero k = refl
same_below m n job same (suc i) k = rw (same k, same_below m n job same i (parent_at n k)) refl

-- none of the 16 levels is left
pub at_top : (m : Map Object) (job i k : ℕ) → 16 ≤ i → is_below_by m job (16 - i) k ≡ false
unfolding is_below_by
at_top m job i k done = let none : 16 - i ≡ 0 = omega (arith, done) in rw none refl
