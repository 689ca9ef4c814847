-- A fact of each number below a bound, by one computation.
use Rattle.zl_code.proofs.Common.{Bool, and_parts, ap, arith, cases_Bool, eqb-true, inl, inr, suc, true, zero, ℕ, ◌&&◌, ◌<◌, ◌==◌, ◌∙◌, ◌≡◌}

-- the test holds for each number below n
unfoldable pub all_below : (ℕ → Bool) → ℕ → Bool
all_below test zero = true
all_below test (suc n) = test n && all_below test n

pub below : (test : ℕ → Bool) (n b : ℕ) → all_below test n ≡ true → b < n → test b ≡ true
unfolding all_below
below test zero b h lt = absurd (omega arith)
below test (suc n) b h lt =
    let both = and_parts (test n) (all_below test n) h in
    elim (cases_Bool (b == n)) as (λ _. test b ≡ true) [ inl here ↦ ap test (eqb-true b n here) ∙ both.0 | inr apart ↦ below test n b both.1 (grind arith) ]
