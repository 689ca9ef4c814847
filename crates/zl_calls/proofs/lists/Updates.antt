-- Changes of one value of a map or a list: two after another, none, and as they are seen from outside. Maps in order: what is found, and seen.
use Rattle.zl_calls.proofs.Common.{IsTrue, List, Map, None, Option, Some, [], ap, arith, below_all, below_parts, cases_Bool, eq-eqb, eqb-true, false, get}
use Rattle.zl_calls.proofs.Common.{get_or, inl, inr}
use Rattle.zl_calls.proofs.Common.{is_sorted, map, nat_cmp, nat_tests, none-some, refl, set, sorted_parts, subst, suc, sym, true, update, zero, ℕ, ◌<◌, ◌==◌}
use Rattle.zl_calls.proofs.Common.{◌∙◌, ◌∷◌, ◌≡◌}

pub update_twice : {X : Type 0} (m : Map X) (k : ℕ) (f g : X → X) → update (update m k f) k g ≡ update m k (λ x. g (f x))
unfolding update
update_twice [] k f g = refl
update_twice {X = X} (e ∷ m) k f g = elim (cases_Bool (e.0 == k)) as (λ _. update (update (e ∷ m) k f) k g ≡ update (e ∷ m) k (λ x. g (f x))) [
  | inl here ↦ let same : (k == k) ≡ true = eq-eqb k k refl in rw (here, same) refl
  | inr apart ↦ rw (apart, apart) (ap (λ (rest : Map X). e ∷ rest) (update_twice m k f g))
]

pub update_itself : {X : Type 0} (m : Map X) (k : ℕ) → update m k (λ x. x) ≡ m
unfolding update
update_itself [] k = refl
update_itself {X} (e ∷ m) k = elim (cases_Bool (e.0 == k)) as (λ _. update (e ∷ m) k (λ x. x) ≡ e ∷ m) [
  | inl here ↦ rw here (λ i. (sym (eqb-true e.0 k here) i, e.1) ∷ m)
  | inr apart ↦ rw apart (ap (λ (rest : Map X). e ∷ rest) (update_itself m k))
]

module _ {X Y : Type 0} (seen : X → Y) where
  abbrev pub seen_entry : ℕ × X → ℕ × Y
  seen_entry e = (e.0, seen e.1)

  pub update_seen : (m : Map X) (k : ℕ) (f : X → X) (g : Y → Y) → ((x : X) → seen (f x) ≡ g (seen x))
      → map seen_entry (update m k f) ≡ update (map seen_entry m) k g
  unfolding update
  update_seen [] k f g same = refl
  update_seen (e ∷ m) k f g same = elim (cases_Bool (e.0 == k)) as (λ _. map seen_entry (update (e ∷ m) k f) ≡ update (map seen_entry (e ∷ m)) k g) [
    | inl here ↦ rw here (λ i. (k, same e.1 i) ∷ map seen_entry m)
    | inr apart ↦ rw apart (ap (λ (rest : Map Y). seen_entry e ∷ rest) (update_seen m k f g same))
  ]

  -- a change that what is seen doesn't tell
  pub update_unseen : (m : Map X) (k : ℕ) (f : X → X) → ((x : X) → seen (f x) ≡ seen x) → map seen_entry (update m k f) ≡ map seen_entry m
  update_unseen m k f same = update_seen m k f (λ y. y) same ∙ update_itself (map seen_entry m) k

  -- what is seen of a map in order is in order
  below_seen : (k : ℕ) (m : Map X) → below_all nat_cmp k (map seen_entry m) ≡ below_all nat_cmp k m
  below_seen k [] = refl
  below_seen k (e ∷ m) = rw (below_seen k m) refl

  pub sorted_seen : (m : Map X) → is_sorted nat_cmp (map seen_entry m) ≡ is_sorted nat_cmp m
  sorted_seen [] = refl
  sorted_seen (e ∷ m) = rw (below_seen e.0 m, sorted_seen m) refl

-- ---- a list

-- what is written back as it was read changes nothing
pub set_read : {X : Type 0} (xs : List X) (n : ℕ) (x : X) → x ≡ get_or xs n x → set xs n x ≡ xs
set_read [] n x read = refl
set_read (y ∷ xs) zero x read = ap (λ z. z ∷ xs) read
set_read (y ∷ xs) (suc n) x read = ap (λ zs. y ∷ zs) (set_read xs n x read)

pub set_same : {X : Type 0} (xs : List X) (n : ℕ) (x y : X) → y ≡ x → x ≡ get_or xs n x → set xs n y ≡ xs
set_same xs n x y same read = ap (set xs n) same ∙ set_read xs n x read

-- ---- a map in order

module _ {X : Type 0} where
  above : (k : ℕ) (m : Map X) → IsTrue (below_all nat_cmp k m) → (j : ℕ) (x : X) → get m j ≡ Some x → k < j
  unfolding get
  above k [] below j x at = absurd (none-some x at)
  above k (e ∷ m) below j x at =
      let parts = below_parts k e m below in
      elim (cases_Bool (e.0 == j)) as (λ _. k < j) [
        | inl here ↦ subst (λ (i : ℕ). k < i) (eqb-true e.0 j here) parts.0
        | inr apart ↦ above k m parts.1 j x (rw apart at at)
      ]

  -- what is found behind the first entry is found
  pub found_behind : (e : ℕ × X) (m : Map X) → IsTrue (is_sorted nat_cmp (e ∷ m)) → (k : ℕ) (x : X) → get m k ≡ Some x → get (e ∷ m) k ≡ Some x
  unfolding get
  found_behind e m sorted k x at =
      let less : e.0 < k = above e.0 m (sorted_parts e m sorted).0 k x at in
      let apart : (e.0 == k) ≡ false = grind (arith, nat_tests, less) in
      rw apart at

  -- and its own key isn't there again
  pub missing_behind : (e : ℕ × X) (m : Map X) → IsTrue (is_sorted nat_cmp (e ∷ m)) → (k : ℕ) → e.0 ≡ k → get m k ≡ None
  missing_behind e m sorted k is = by_found (get m k) refl
    where
      by_found : (o : Option X) → get m k ≡ o → get m k ≡ None
      by_found None none = none
      by_found (Some x) at = absurd (omega (arith, is, above e.0 m (sorted_parts e m sorted).0 k x at))
