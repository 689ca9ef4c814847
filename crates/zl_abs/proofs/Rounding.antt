-- One bound more of the search for the next one.
use Rattle.zl_abs.proofs.Common.{Instr, List, [], add-one, bounds_by, drop, drop-cons, drop_all, get_or, if◌then◌else◌, imm_bounds, imm_of, least_from, leb}
use Rattle.zl_abs.proofs.Common.{length, ltb, refl, ℕ, ◌&&◌, ◌++◌, ◌+◌, ◌<◌, ◌∷◌, ◌≡◌, ◌≤◌}
use Rattle.zl_abs.proofs.StateSteps.{Stands, drop_here}

pub least_append : (n : ℕ) (xs ys : List ℕ) (best : ℕ) → least_from n best (xs ++ ys) ≡ least_from n (least_from n best xs) ys
unfolding least_from
least_append n [] ys best = refl
least_append n (x ∷ xs) ys best = least_append n xs ys (if leb n x && ltb x best then x else best)

pub least_step : (n best : ℕ) (bs : List ℕ) (i : ℕ) → i < length bs
    → least_from n best (drop i bs) ≡ least_from n (least_from n best (get_or bs i 0 ∷ [])) (drop (i + 1) bs)
unfolding least_from
least_step n best bs i h = rw (add-one, drop-cons bs i 0) refl

pub least_end : (n best : ℕ) (bs : List ℕ) (i : ℕ) → length bs ≤ i → best ≡ least_from n best (drop i bs)
unfolding least_from
least_end n best bs i h = rw (drop_all i bs h) refl

pub code_step : (n best : ℕ) (code : List Instr) (i : ℕ) (x : Instr) → i < length code → Stands code i x
    → least_from n best (imm_bounds (drop i code)) ≡ least_from n (least_from n best (bounds_by (imm_of x))) (imm_bounds (drop (i + 1) code))
code_step n best code i x h p = rw (drop_here code i x h p) (least_append n (bounds_by (imm_of x)) (imm_bounds (drop (i + 1) code)) best)

pub code_end : (n best : ℕ) (code : List Instr) (i : ℕ) → length code ≤ i → best ≡ least_from n best (imm_bounds (drop i code))
unfolding least_from
code_end n best code i h = rw (drop_all i code h) refl
