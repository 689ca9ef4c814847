-- How many places own a handle, once one place is written.
use Rattle.zl_verify.proofs.Common.{ANY, AbsVal, Bool, Has, Kind, KindOf, List, Option, Rights, RightsOf, State, Word, [], and-false, ap, arith, cases_Bool}
use Rattle.zl_verify.proofs.Common.{eqb-false, false, get_or-set_other, get_or-set_same, if◌then◌else◌, inl, inr, is_has, is_it, keepers, length, map, nat_lt}
use Rattle.zl_verify.proofs.Common.{nat_tests, one_if, owners, owns, place_at, refl, slice_index, slice_index_or, slice_set, suc, sum_by, sum_by-cons}
use Rattle.zl_verify.proofs.Common.{sum_by-set, sym, true, untagged, value_at, with_value, zero, ℕ, ◌&&◌, ◌+◌, ◌<◌, ◌==◌, ◌∙◌, ◌∷◌, ◌≡◌, ◌≢◌, ◌≤◌, ◌⊎◌}
pub use Rattle.zl_abs.proofs.FineStates.{mapped_at as value_at-map}
use Rattle.std.proofs.lemmas.Bool.{and_right}

-- ---- one place

pub owns_it : (maybe : Bool) (kind : Option Kind) (rights : Rights) (y : ℕ) → y ≢ 0 → owns y (Has maybe kind rights) y ≡ true
unfolding owns
owns_it maybe kind rights y h = grind (arith, nat_tests)

pub not_0 : (v : ℕ) → one_if (is_it v 0) ≡ 0
not_0 v = ap one_if (and-false (0 == v))

pub it_is_itself : (y : ℕ) → y ≢ 0 → is_it y y ≡ true
it_is_itself y h = grind (arith, nat_tests)

pub owns_apart : (v : ℕ) (a : AbsVal) (x : ℕ) → (x == v) ≡ false → one_if (owns v a x) ≡ 0
unfolding owns
owns_apart v a x e = rw e (ap one_if (and-false (is_has a)))

pub one_at_most : (b : Bool) → one_if b ≤ 1
one_at_most true = omega arith
one_at_most false = omega arith

pub owns_free : (v : ℕ) (a : AbsVal) (x : ℕ) → is_has a ≡ false → one_if (owns v a x) ≡ 0
unfolding owns
owns_free v a x e = rw e refl

pub owns_0 : (v : ℕ) (a : AbsVal) → one_if (owns v a 0) ≡ 0
unfolding owns
owns_0 v a = ap one_if (and_right (is_has a) _ (and-false (0 == v)))

-- ---- values at a written state

-- one value where t is r, and the other elsewhere
pub by_register : (P : AbsVal → Type 0) (t r : ℕ) (x y : AbsVal) → P x → (t ≢ r → P y) → P (if t == r then x else y)
by_register P t r x y same other = by (cases_Bool (t == r))
  where
    by : ((t == r) ≡ true) ⊎ ((t == r) ≡ false) → P (if t == r then x else y)
    by (inl e) = rw e same
    by (inr e) = rw e (other (eqb-false t r e))

pub set_same : (s : State) (r : ℕ) (a : AbsVal) → r < length s → value_at (slice_set s r a) r ≡ a
set_same s r a lt = get_or-set_same s r a (Word 0) lt

pub set_apart : (s : State) (r q : ℕ) (a : AbsVal) → q ≢ r → value_at (slice_set s r a) q ≡ value_at s q
set_apart s r q a apart = get_or-set_other s r q a (Word 0) apart

pub value_at-with : (s : State) (r q : ℕ) (a : AbsVal) → q ≢ r → value_at (with_value s r a) q ≡ untagged r (value_at s q)
unfolding with_value
value_at-with s r q a apart = value_at-map (untagged r) refl (slice_set s r a) q ∙ ap (untagged r) (set_apart s r q a apart)

pub value_at-here : (s : State) (r : ℕ) (a : AbsVal) → r < length s → value_at (with_value s r a) r ≡ untagged r a
unfolding with_value
value_at-here s r a lt = value_at-map (untagged r) refl (slice_set s r a) r ∙ ap (untagged r) (set_same s r a lt)

-- a register with a handle is there
pub has_inside : (s : State) (r : ℕ) → is_has (value_at s r) ≡ true → r < length s
has_inside [] r e = cc
has_inside (a ∷ s) zero e = omega arith
has_inside (a ∷ s) (suc r) e = let k = has_inside s r e in omega arith

-- ---- registers

pub is_has-untagged : (r : ℕ) (a : AbsVal) → is_has (untagged r a) ≡ is_has a
is_has-untagged r (Word m) = refl
is_has-untagged r (Has b k q) = refl
is_has-untagged r (KindOf t) = by_register (λ a. is_has a ≡ false) t r (Word ANY) (KindOf t) refl (λ apart. refl)
is_has-untagged r (RightsOf t) = by_register (λ a. is_has a ≡ false) t r (Word ANY) (RightsOf t) refl (λ apart. refl)

pub owners-map : (f : AbsVal → AbsVal) → ((a : AbsVal) → is_has (f a) ≡ is_has a) → (v : ℕ) (s : State) (xs : List ℕ) → owners v (map f s) xs ≡ owners v s xs
unfolding owners owns
owners-map f same v [] xs = refl
owners-map f same v (a ∷ s) [] = refl
owners-map f same v (a ∷ s) (x ∷ xs) = rw (same a, owners-map f same v s xs) refl

pub owners-set : (v r : ℕ) (s : State) (xs : List ℕ) (a : AbsVal) (x : ℕ) → length xs ≡ length s → r < length s
    → owners v (slice_set s r a) (slice_set xs r x) + one_if (owns v (value_at s r) (slice_index xs r)) ≡ owners v s xs + one_if (owns v a x)
unfolding owners
owners-set v r [] xs a x e lt = absurd (omega arith)
owners-set v r (b ∷ s) [] a x e lt = absurd (omega arith)
owners-set v zero (b ∷ s) (y ∷ xs) a x e lt = omega arith
owners-set v (suc r) (b ∷ s) (y ∷ xs) a x e lt = let k = owners-set v r s xs a x (omega arith) (omega arith) in omega arith

pub owners-with : (v r : ℕ) (s : State) (xs : List ℕ) (a : AbsVal) (x : ℕ) → length xs ≡ length s → r < length s
    → owners v (with_value s r a) (slice_set xs r x) + one_if (owns v (value_at s r) (slice_index xs r)) ≡ owners v s xs + one_if (owns v a x)
unfolding with_value
owners-with v r s xs a x e lt = rw (owners-map (untagged r) (is_has-untagged r) v (slice_set s r a) (slice_set xs r x)) (owners-set v r s xs a x e lt)

-- the register is counted
pub owners-at : (v r : ℕ) (s : State) (xs : List ℕ) → length xs ≡ length s → one_if (owns v (value_at s r) (slice_index xs r)) ≤ owners v s xs
unfolding owners owns
owners-at v r [] xs e = omega arith
owners-at v r (b ∷ s) [] e = absurd (omega arith)
owners-at v zero (b ∷ s) (y ∷ xs) e = omega arith
owners-at v (suc r) (b ∷ s) (y ∷ xs) e = let k = owners-at v r s xs (omega arith) in omega arith

pub owners-zero : (s : State) (xs : List ℕ) → owners 0 s xs ≡ 0
unfolding owners owns
owners-zero [] xs = refl
owners-zero (a ∷ s) [] = refl
owners-zero (a ∷ s) (x ∷ xs) = rw (owners-zero s xs) (by (is_has a) x)
  where
    by : (b : Bool) (x : ℕ) → one_if (b && ((x == 0) && nat_lt 0 x)) + 0 ≡ 0
    by false x = refl
    by true zero = refl
    by true (suc x) = grind (arith, nat_tests)

-- ---- slot arrays

abbrev pub places_with : ℕ → List ℕ → ℕ
places_with v places = sum_by (λ x. one_if (is_it v x)) places

pub keepers-set : (v n k x : ℕ) (slots : List (List ℕ)) → n < length slots → k < length (slice_index_or slots n [])
    → keepers v (slice_set slots n (slice_set (slice_index_or slots n []) k x)) + one_if (is_it v (place_at slots n k)) ≡ keepers v slots + one_if (is_it v x)
unfolding keepers
keepers-set v n k x slots less inside =
    let one = sum_by-set (λ y. one_if (is_it v y)) (slice_index_or slots n []) k x 0 inside in
    let all = sum_by-set (places_with v) slots n (slice_set (slice_index_or slots n []) k x) [] less in
    omega arith

-- the place is counted, where it has a handle
pub one_of : (v k : ℕ) (places : List ℕ) → v ≢ 0 → slice_index places k ≡ v → 1 ≤ places_with v places
one_of v k places some e =
    let set = sum_by-set (λ y. one_if (is_it v y)) places k 0 0 (inside k places (λ z. some (sym e ∙ z))) in
    let here : one_if (is_it v (slice_index places k)) ≡ 1 = rw (e, it_is_itself v some) refl in
    let gone = not_0 v in
    omega arith
  where
    inside : (k : ℕ) (places : List ℕ) → slice_index places k ≢ 0 → k < length places
    inside k [] h = absurd (h refl)
    inside zero (x ∷ xs) h = omega arith
    inside (suc k) (x ∷ xs) h = let n = inside k xs h in omega arith

pub keepers-at : (v n k : ℕ) (slots : List (List ℕ)) → v ≢ 0 → place_at slots n k ≡ v → 1 ≤ keepers v slots
unfolding keepers
keepers-at v n k slots some e =
    let all = sum_by-set (places_with v) slots n [] [] (inside n slots (λ z. some (sym e ∙ ap (λ l. slice_index l k) z))) in
    let here = one_of v k (slice_index_or slots n []) some e in
    let none : places_with v [] ≡ 0 = refl in
    omega arith
  where
    inside : (n : ℕ) (slots : List (List ℕ)) → slice_index_or slots n [] ≢ [] → n < length slots
    inside n [] h = absurd (h refl)
    inside zero (x ∷ xs) h = omega arith
    inside (suc n) (x ∷ xs) h = let m = inside n xs h in omega arith

pub zero_nowhere : (places : List ℕ) → places_with 0 places ≡ 0
zero_nowhere [] = refl
zero_nowhere (x ∷ xs) =
    let more = sum_by-cons (λ y. one_if (is_it 0 y)) x xs in
    let rest = zero_nowhere xs in
    let one = by x in
    omega arith
  where
    by : (x : ℕ) → one_if (is_it 0 x) ≡ 0
    by zero = refl
    by (suc x) = grind (arith, nat_tests)

pub keepers-zero : (slots : List (List ℕ)) → keepers 0 slots ≡ 0
unfolding keepers
keepers-zero [] = refl
keepers-zero (places ∷ slots) =
    let more = sum_by-cons (places_with 0) places slots in
    let one = zero_nowhere places in
    let rest = keepers-zero slots in
    omega arith
