-- An answer goes into its destinations, one after another.
use Rattle.zl_calls.proofs.Common.{List, [], arith, drop, get_or, length, refl, slice_index, slice_set, suc, sym, written, zero, ℕ, ◌+◌, ◌<◌, ◌∙◌, ◌∷◌, ◌≡◌}

nothing_left : (n : ℕ) → (drop {A = ℕ} n [] ≡ []) × (slice_index [] n ≡ 0)
nothing_left zero = (refl, refl)
nothing_left (suc n) = (refl, refl)

turn : (n : ℕ) (ds vs rs : List ℕ) (d : ℕ) → n < length ds
    → written rs (drop n ds) (drop n vs) ≡ written (slice_set rs (get_or ds n d) (slice_index vs n)) (drop (suc n) ds) (drop (suc n) vs)
turn n [] vs rs d within = absurd (omega (arith, within))
turn zero (first ∷ ds) [] rs d within = refl
turn zero (first ∷ ds) (v ∷ vs) rs d within = refl
turn (suc n) (first ∷ ds) [] rs d within = rw ((nothing_left n).0, (nothing_left n).1) at (turn n ds [] rs d (omega (arith, within)))
turn (suc n) (first ∷ ds) (v ∷ vs) rs d within = turn n ds vs rs d (omega (arith, within))

-- what is left to write, with the destination d written
pub one_written : (n : ℕ) (ds vs rs : List ℕ) (d : ℕ) → n < length ds → d ≡ get_or ds n d
    → written rs (drop n ds) (drop n vs) ≡ written (slice_set rs d (slice_index vs n)) (drop (n + 1) ds) (drop (n + 1) vs)
one_written n ds vs rs d within is =
    let next : suc n ≡ n + 1 = omega arith in
    turn n ds vs rs d within ∙ λ i. written (slice_set rs (sym is i) (slice_index vs n)) (drop (next i) ds) (drop (next i) vs)
