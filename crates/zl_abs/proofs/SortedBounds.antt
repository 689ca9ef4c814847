-- The next bound, found in any list with the same bounds, and in a sorted one by a binary search.
use Rattle.zl_abs.proofs.Common.{ANY, Bool, Contains, Equal, Greater, Instr, Less, List, RoundAlike, [], ap, append_assoc, arith, bounds_by, bounds_of, dedup}
use Rattle.zl_abs.proofs.Common.{drop, drop_all, eqb, false, get_or, get_or_default, if◌then◌else◌, imm_bounds, imm_of, inl, inr, least_from, leb, leb-true}
use Rattle.zl_abs.proofs.Common.{length, ltb, nat_tests, plain_bounds, refl, rounded, subst, suc, sym, true, zero, ℕ, ◌&&◌, ◌++◌, ◌+◌, ◌<◌, ◌∙◌, ◌∷◌, ◌≡◌, ◌≤◌}
use Rattle.std.specs.List.Sorted.{IsPermutation, IsSorted, IsStrictlySortedBy, IsNonDecreasingBy, IsPartitionPoint}
use Rattle.std.specs.Ordering.{nat_cmp, ordering_index, eq_by_cmp}
use Rattle.std.proofs.lemmas.Bool.{cases_lt}
use Rattle.std.proofs.lemmas.Cmp.{ranked, nat_cmp_total}
use Rattle.std.proofs.lemmas.List.Elements.{All-from_recursion}
use Rattle.std.proofs.lemmas.List.Sorted.{Contains-permutation, IsPermutation-sym}
use Rattle.std.proofs.lemmas.List.Kept.{Contains-dedup_nat, Contains-from_dedup, IsStrictlySortedBy-dedup}
use Rattle.std.specs.List.Retain.{IsFiltered, DiffersFromLast}
use Rattle.std.proofs.lemmas.List.{append-nil}
use Rattle.std.proofs.lemmas.List.Filters.{dedup_is}
use Rattle.zl_abs.proofs.StateSteps.{Stands, drop_here}
use Rattle.zl_abs.proofs.Rounding.{least_append}

-- ---- the least of a list

later : (b : ℕ) (bs : List ℕ) (x : ℕ) → Contains bs x → Contains (b ∷ bs) x
later b bs x c = (suc c.0, omega (arith, c.1), c.2)

-- what is true of best, and of each bound that isn't below n, is true of the least
least_all : (P : ℕ → Type 0) (n : ℕ) (bs : List ℕ) (best : ℕ) → P best → ((x : ℕ) → Contains bs x → n ≤ x → P x) → P (least_from n best bs)
unfolding least_from
least_all P n [] best h k = h
least_all P n (b ∷ bs) best h k = least_all P n bs (if leb n b && ltb b best then b else best) (by (leb n b) (ltb b best) refl) (λ x c. k x (later b bs x c))
  where
    by : (t u : Bool) → leb n b ≡ t → P (if t && u then b else best)
    by true true e = k b (0, omega arith, refl) (leb-true n b e)
    by true false e = h
    by false u e = h

nearer_below : (n b best : ℕ) → (if leb n b && ltb b best then b else best) ≤ best
nearer_below n b best = grind (arith, nat_tests)

nearer_each : (n b best : ℕ) → n ≤ b → (if leb n b && ltb b best then b else best) ≤ b
nearer_each n b best h = grind (arith, nat_tests)

least_below : (n : ℕ) (bs : List ℕ) (best : ℕ) → least_from n best bs ≤ best
unfolding least_from
least_below n [] best = omega arith
least_below n (b ∷ bs) best = omega (arith, least_below n bs (if leb n b && ltb b best then b else best), nearer_below n b best)

least_at : (n : ℕ) (bs : List ℕ) (best k x : ℕ) → k < length bs → get_or bs k x ≡ x → n ≤ x → least_from n best bs ≤ x
unfolding least_from
least_at n [] best k x lt e h = absurd (omega arith)
least_at n (b ∷ bs) best zero x lt e h =
    let under : n ≤ b = omega (arith, e) in
    omega (arith, least_below n bs (if leb n b && ltb b best then b else best), nearer_each n b best under, e)
least_at n (b ∷ bs) best (suc k) x lt e h = least_at n bs (if leb n b && ltb b best then b else best) k x (omega arith) e h

pub same_least : (n : ℕ) (xs ys : List ℕ) → ((x : ℕ) → Contains xs x → Contains ys x) → ((x : ℕ) → Contains ys x → Contains xs x)
    → least_from n ANY xs ≡ least_from n ANY ys
same_least n xs ys to from =
    omega (arith, under xs ys from, under ys xs to)
  where
    under : (us vs : List ℕ) → ((x : ℕ) → Contains vs x → Contains us x) → least_from n ANY us ≤ least_from n ANY vs
    under us vs into =
        least_all (λ y. least_from n ANY us ≤ y) n vs ANY (least_below n us ANY) (λ x c le. let at = into x c in least_at n us ANY at.0 x at.1 at.2 le)

-- ---- sorted, each once

pub sorted_alike : (xs ys : List ℕ) → IsPermutation xs ys → RoundAlike (dedup eqb ys) xs
sorted_alike xs ys moved n = same_least n (dedup eqb ys) xs
    (λ x c. Contains-permutation ys xs x (IsPermutation-sym xs ys moved) (Contains-from_dedup eqb ys x c))
    (λ x c. Contains-dedup_nat ys x (Contains-permutation xs ys x moved c))

pub sorted_once : (ys : List ℕ) → IsSorted nat_cmp ys → IsStrictlySortedBy nat_cmp (dedup eqb ys)
sorted_once ys h = IsStrictlySortedBy-dedup nat_cmp_total (λ x y. tied x y) ys h
  where
    tied : (x y : ℕ) → eqb x y ≡ eq_by_cmp nat_cmp x y
    tied x y = grind (arith, nat_tests)

-- what is sorted from a list, each once, rounds like it
pub made_alike : (cs xs ys zs : List ℕ) → xs ≡ cs → IsPermutation xs ys → IsFiltered (DiffersFromLast eqb) [] ys zs → RoundAlike zs cs
made_alike cs xs ys zs e moved kept = rw (dedup_is eqb ys zs kept, sym e) (sorted_alike xs ys moved)

pub made_sorted : (ys zs : List ℕ) → IsSorted nat_cmp ys → IsFiltered (DiffersFromLast eqb) [] ys zs → IsStrictlySortedBy nat_cmp zs
made_sorted ys zs h kept = rw (dedup_is eqb ys zs kept) (sorted_once ys h)

-- ---- the bounds of the code

-- the least of all bounds is the least of the plain ones and of those of the code
pub code_rounded : (n best r : ℕ) (code : List Instr) → best ≡ least_from n ANY plain_bounds → r ≡ least_from n best (imm_bounds code)
    → r ≡ rounded (bounds_of code) n
code_rounded n best r code e h = h ∙ (ap (λ (b : ℕ). least_from n b (imm_bounds code)) e ∙ sym (least_append n plain_bounds (imm_bounds code) ANY))

-- one instruction more was looked at
pub gathered_step : (items after all : List ℕ) (code : List Instr) (i : ℕ) (x : Instr) → i < length code → Stands code i x
    → after ≡ items ++ bounds_by (imm_of x) → items ++ imm_bounds (drop i code) ≡ all → after ++ imm_bounds (drop (i + 1) code) ≡ all
gathered_step items after all code i x h p e so_far =
    let k : items ++ (bounds_by (imm_of x) ++ imm_bounds (drop (i + 1) code)) ≡ all =
    subst (λ r. items ++ imm_bounds r ≡ all) (drop_here code i x h p) so_far in
    rw e (append_assoc items (bounds_by (imm_of x)) (imm_bounds (drop (i + 1) code)) ∙ k)

pub gathered_end : (items all : List ℕ) (code : List Instr) (i : ℕ) → length code ≤ i → items ++ imm_bounds (drop i code) ≡ all → items ≡ all
gathered_end items all code i h so_far = sym (append-nil items) ∙ subst (λ r. items ++ imm_bounds r ≡ all) (drop_all i code h) so_far

-- ---- a binary search

ascends : (bs : List ℕ) → IsStrictlySortedBy nat_cmp bs → (i j : ℕ) (d : ℕ) → i ≤ j → j < length bs → get_or bs i d ≤ get_or bs j d
unfolding IsStrictlySortedBy
ascends [] h i j d le lt = absurd (omega arith)
ascends (b ∷ bs) h zero zero d le lt = omega arith
ascends (b ∷ bs) h zero (suc j) d le lt =
    let p : b < get_or bs j d = ranked b (get_or bs j d) Less (sym (All-from_recursion (λ y. nat_cmp b y ≡ Less) bs h.0 j d (omega arith))) in
    omega (arith, p)
ascends (b ∷ bs) h (suc i) zero d le lt = absurd (omega arith)
ascends (b ∷ bs) h (suc i) (suc j) d le lt = ascends bs h.1 i j d (omega arith) (omega arith)

comparisons_rise : (bs : List ℕ) (n : ℕ) → IsStrictlySortedBy nat_cmp bs → IsNonDecreasingBy (λ y. ordering_index (nat_cmp y n)) bs
comparisons_rise bs n h i j d le lt =
    let p : get_or bs i d ≤ get_or bs j d = ascends bs h i j d le lt in
    grind (arith, nat_tests)

-- the number is itself a bound
pub found_bound : (bs : List ℕ) (n i : ℕ) → n ≤ ANY → i < length bs → ((d : ℕ) → nat_cmp (get_or bs i d) n ≡ Equal) → n ≡ rounded bs n
found_bound bs n i most lt equal =
    let here : get_or bs i n ≡ n = ranked (get_or bs i n) n Equal (sym (equal n)) in
    omega (arith, least_at n bs ANY i n lt here (omega arith), least_all (λ y. n ≤ y) n bs ANY most (λ x c le. le))

module _ (bs : List ℕ) (n i : ℕ) (sorted : IsStrictlySortedBy nat_cmp bs)
    (parted : IsNonDecreasingBy (λ y. ordering_index (nat_cmp y n)) bs → IsPartitionPoint (λ y. nat_cmp y n ≡ Less) (λ y. nat_cmp y n ≡ Greater) bs i) where
  -- a bound that isn't below the number stands from that place on
  behind : (k x : ℕ) → k < length bs → get_or bs k x ≡ x → n ≤ x → i ≤ k
  behind k x lt e le = elim (cases_lt k i) as (λ _. i ≤ k) [
    | inl before ↦ let p : get_or bs k x < n = ranked (get_or bs k x) n Less (sym ((parted (comparisons_rise bs n sorted)).0 k x (omega arith) before)) in
        absurd (omega (arith, p, e))
    | inr after ↦ after
  ]

  pub next_bound : (b : ℕ) → b ≤ ANY → i < length bs → b ≡ get_or bs i b → b ≡ rounded bs n
  next_bound b most lt e =
      let above : n < get_or bs i b = ranked (get_or bs i b) n Greater (sym ((parted (comparisons_rise bs n sorted)).1 i b (omega arith) lt)) in
      let under : n ≤ b = omega (arith, above, e) in
      omega (
        arith,
        least_at n bs ANY i b lt (sym e) under,
        least_all (λ y. b ≤ y) n bs ANY most (λ x c le.
            let k : i ≤ c.0 = behind c.0 x c.1 c.2 le in
            let p : get_or bs i x ≤ get_or bs c.0 x = ascends bs sorted i c.0 x k c.1 in
            let q : get_or bs i x ≡ get_or bs i b = get_or_default bs i x b lt in
            omega (arith, p, q, e, c.2)),
      )

  pub no_bound : length bs ≤ i → ANY ≡ rounded bs n
  no_bound past = least_all (λ y. ANY ≡ y) n bs ANY refl (λ x c le. let k : i ≤ c.0 = behind c.0 x c.1 c.2 le in absurd (omega (arith, c.1)))
