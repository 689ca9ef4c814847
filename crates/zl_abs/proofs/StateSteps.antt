-- One register more of the order, the join and the writes of states.
use Rattle.zl_abs.proofs.Common.{AbsVal, List, None, Option, Some, Start, add-one, all_below, all_joined, ap, append-nil, arith, below, common_steps, cons_if}
use Rattle.zl_abs.proofs.Common.{drop, drop-cons, drop_all, get_or, joined, length, option_map, refl, slice_set, start_value, starts_from, suc, sym, take}
use Rattle.zl_abs.proofs.Common.{take_all, true, with_all, with_value, ℕ, ◌&&◌, ◌++◌, ◌+◌, ◌<◌, ◌∙◌, ◌∷◌, ◌≡◌, ◌≤◌}

-- x stands at this place
abbrev pub Stands : {A : Type 0} → List A → ℕ → A → Type 0
Stands xs i x = x ≡ get_or xs i x

pub drop_here : {A : Type 0} (xs : List A) (i : ℕ) (x : A) → i < length xs → Stands xs i x → drop i xs ≡ x ∷ drop (i + 1) xs
drop_here xs i x h p = rw (add-one) (drop-cons xs i x h ∙ ap (λ y. y ∷ drop (suc i) xs) (sym p))

-- ---- the order

pub below_step : (xs ys : List AbsVal) (i : ℕ) (x y : AbsVal) → i < length xs → i < length ys → Stands xs i x → Stands ys i y
    → all_below (drop i xs) (drop i ys) ≡ (below x y && all_below (drop (i + 1) xs) (drop (i + 1) ys))
unfolding all_below
below_step xs ys i x y h k p q = rw (drop_here xs i x h p, drop_here ys i y k q) refl

-- behind the last register
pub below_end : (xs ys : List AbsVal) (i : ℕ) → length xs ≤ i → length ys ≤ i → all_below (drop i xs) (drop i ys) ≡ true
unfolding all_below
below_end xs ys i h k = rw (drop_all i xs h, drop_all i ys k) refl

-- ---- the join

pub joined_step : (xs ys : List AbsVal) (i : ℕ) (x y : AbsVal) → i < length xs → i < length ys → Stands xs i x → Stands ys i y
    → all_joined (drop i xs) (drop i ys) ≡ cons_if (joined x y) (all_joined (drop (i + 1) xs) (drop (i + 1) ys))
unfolding all_joined
joined_step xs ys i x y h k p q = rw (drop_here xs i x h p, drop_here ys i y k q) refl

drop_put : (xs : List AbsVal) (i : ℕ) (v : AbsVal) → drop (i + 1) (slice_set xs i v) ≡ drop (i + 1) xs
drop_put xs i v = grind (arith, common_steps)

take_put : (out : List AbsVal) (i : ℕ) (v : AbsVal) (rest : List AbsVal) → i < length out → take i out ++ v ∷ rest ≡ take (i + 1) (slice_set out i v) ++ rest
take_put out i v rest h = grind (arith, common_steps)

-- the values so far are in place, and one more
pub joined_more : (xs ys : List AbsVal) (i : ℕ) (x y v : AbsVal) → i < length xs → i < length ys → Stands xs i x → Stands ys i y → Some v ≡ joined x y
    → option_map (λ (rest : List AbsVal). take i xs ++ rest) (all_joined (drop i xs) (drop i ys))
    ≡ option_map (λ (rest : List AbsVal). take (i + 1) (slice_set xs i v) ++ rest) (all_joined (drop (i + 1) (slice_set xs i v)) (drop (i + 1) ys))
joined_more xs ys i x y v h k p q e = rw (joined_step xs ys i x y h k p q, sym e, drop_put xs i v) (by (all_joined (drop (i + 1) xs) (drop (i + 1) ys)))
  where
    by : (o : Option (List AbsVal)) → option_map (λ (rest : List AbsVal). take i xs ++ rest) (cons_if (Some v) o)
        ≡ option_map (λ (rest : List AbsVal). take (i + 1) (slice_set xs i v) ++ rest) o
    by None = refl
    by (Some rest) = ap Some (take_put xs i v rest h)

pub joined_stop : (xs ys : List AbsVal) (i : ℕ) (x y : AbsVal) → i < length xs → i < length ys → Stands xs i x → Stands ys i y → None ≡ joined x y
    → all_joined (drop i xs) (drop i ys) ≡ None
joined_stop xs ys i x y h k p q e = rw (joined_step xs ys i x y h k p q, sym e) refl

pub joined_end : (xs ys : List AbsVal) (i : ℕ) → length xs ≤ i → length ys ≤ i
    → option_map (λ (rest : List AbsVal). take i xs ++ rest) (all_joined (drop i xs) (drop i ys)) ≡ Some xs
unfolding all_joined
joined_end xs ys i h k = rw (drop_all i xs h, drop_all i ys k, take_all i xs h) (ap Some (append-nil xs))

-- ---- the writes

pub with_all_more : (s : List AbsVal) (xs : List (ℕ × AbsVal)) (i : ℕ) (x : ℕ × AbsVal) → i < length xs → Stands xs i x
    → with_all s (drop i xs) ≡ with_all (with_value s (x.0) (x.1)) (drop (i + 1) xs)
unfolding with_all
with_all_more s xs i x h p = rw (drop_here xs i x h p) refl

pub with_all_end : (s : List AbsVal) (xs : List (ℕ × AbsVal)) (i : ℕ) → length xs ≤ i → with_all s (drop i xs) ≡ s
unfolding with_all
with_all_end s xs i h = rw (drop_all i xs h) refl

first_of : (xs : List Start) (i : ℕ) (d : Start) → i < length xs → drop i xs ≡ get_or xs i d ∷ drop (i + 1) xs
first_of xs i d h = rw add-one (drop-cons xs i d h)

pub starts_step : (s : List AbsVal) (xs : List Start) (i : ℕ) (d : Start) → i < length xs
    → with_all s (starts_from (2 + i) (drop i xs)) ≡ with_all (with_value s (2 + i) (start_value (get_or xs i d))) (starts_from (2 + (i + 1)) (drop (i + 1) xs))
unfolding with_all
starts_step s xs i d h =
    let e : 2 + i + 1 ≡ 2 + (i + 1) = omega arith in
    rw (first_of xs i d h) (ap (λ (r : ℕ). with_all (with_value s (2 + i) (start_value (get_or xs i d))) (starts_from r (drop (i + 1) xs))) e)

pub starts_end : (s : List AbsVal) (xs : List Start) (i : ℕ) → length xs ≤ i → with_all s (starts_from (2 + i) (drop i xs)) ≡ s
unfolding with_all
starts_end s xs i h = rw (drop_all i xs h) refl
