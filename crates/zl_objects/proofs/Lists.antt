-- Lists of which some elements are left, and lists of which the first element that passes was taken out.
use Rattle.zl_objects.proofs.Common.{Bool, IsTrue, List, None, Some, [], ap, arith, cases_Bool, cond, drop, eq-eqb, false, false≢true, filter, find, inl, inr}
use Rattle.zl_objects.proofs.Common.{length, list_any, map, none-some, option_map, or_parts, refl, same_Some, slice_get, suc, sym, take, true, without_first}
use Rattle.zl_objects.proofs.Common.{zero, ℕ, ◌&&◌, ◌==◌, ◌||◌, ◌∙◌, ◌∷◌, ◌≡◌, ◌⊎◌}
use Rattle.zl_objects.proofs.Places.{first_out}
use Rattle.zl_rights.proofs.Settling.{filter-length}

-- ---- what is seen of the elements

module _ {X Y : Type 0} (f : X → Y) (q : Y → Bool) where
  pub filter_map : (xs : List X) → filter q (map f xs) ≡ map f (filter (λ x. q (f x)) xs)
  filter_map [] = refl
  filter_map (x ∷ xs) = elim (cases_Bool (q (f x))) as (λ _. filter q (map f (x ∷ xs)) ≡ map f (filter (λ y. q (f y)) (x ∷ xs))) [
    | inl passes ↦ rw passes (ap (λ (ys : List Y). f x ∷ ys) (filter_map xs))
    | inr fails ↦ rw fails (filter_map xs)
  ]

  pub find_map : (xs : List X) → find q (map f xs) ≡ option_map f (find (λ x. q (f x)) xs)
  find_map [] = refl
  find_map (x ∷ xs) = elim (cases_Bool (q (f x))) as (λ _. find q (map f (x ∷ xs)) ≡ option_map f (find (λ y. q (f y)) (x ∷ xs))) [
    | inl passes ↦ rw passes refl
    | inr fails ↦ rw fails (find_map xs)
  ]

  pub first_map : (xs : List X) → without_first q (map f xs) ≡ map f (without_first (λ x. q (f x)) xs)
  first_map [] = refl
  first_map (x ∷ xs) = first_out q (f x) (map f xs) ∙ (by_test (q (f x)) (first_map xs) ∙ ap (λ (ys : List X). map f ys) (sym (first_out (λ y. q (f y)) x xs)))
    where
      by_test : (b : Bool) → without_first q (map f xs) ≡ map f (without_first (λ y. q (f y)) xs)
          → cond b (map f xs) (f x ∷ without_first q (map f xs)) ≡ map f (cond b xs (x ∷ without_first (λ y. q (f y)) xs))
      by_test true rest = refl
      by_test false rest = ap (λ (ys : List Y). f x ∷ ys) rest

-- none passes, and none goes
pub none_first : {X : Type 0} (p : X → Bool) (xs : List X) → find p xs ≡ None → without_first p xs ≡ xs
none_first p [] none = refl
none_first {X} p (x ∷ xs) none = first_out p x xs ∙ by_test (p x) none (λ rest. none_first p xs rest)
  where
    by_test : (b : Bool) → cond b (Some x) (find p xs) ≡ None → (find p xs ≡ None → without_first p xs ≡ xs) → cond b xs (x ∷ without_first p xs) ≡ x ∷ xs
    by_test true h later = absurd (none-some x (sym h))
    by_test false h later = ap (λ (ys : List X). x ∷ ys) (later h)

pub any_taken : {X Y : Type 0} (test : Y → Bool) (f : X → Y) (n : ℕ) (xs : List X) → list_any test (take n (map f xs)) ≡ list_any (λ x. test (f x)) (take n xs)
any_taken test f zero xs = refl
any_taken test f (suc n) [] = refl
any_taken test f (suc n) (x ∷ xs) = ap (λ b. test (f x) || b) (any_taken test f n xs)

-- ---- a walk to the first that passes

module _ {X : Type 0} (test : X → Bool) where
  pub found_at : (xs : List X) (i : ℕ) (x : X) → slice_get xs i ≡ Some x → list_any test (take i xs) ≡ false → test x ≡ true → find test xs ≡ Some x
  found_at [] i x at none passes = absurd (none-some x at)
  found_at (y ∷ xs) zero x at none passes = rw (ap test (same_Some y x at) ∙ passes) at
  found_at (y ∷ xs) (suc i) x at none passes =
      let both = or_parts (test y) (list_any test (take i xs)) none in
      rw both.0 (found_at xs i x at both.1 passes)

  pub none_next : (xs : List X) (i : ℕ) (x : X) → slice_get xs i ≡ Some x → list_any test (take i xs) ≡ false → test x ≡ false
      → list_any test (take (suc i) xs) ≡ false
  none_next [] i x at none fails = absurd (none-some x at)
  none_next (y ∷ xs) zero x at none fails = rw (ap test (same_Some y x at) ∙ fails) refl
  none_next (y ∷ xs) (suc i) x at none fails =
      let both = or_parts (test y) (list_any test (take i xs)) none in
      rw both.0 (none_next xs i x at both.1 fails)

  pub none_found : (xs : List X) (i : ℕ) → slice_get xs i ≡ None → list_any test (take i xs) ≡ false → find test xs ≡ None
  none_found [] i past none = refl
  none_found (x ∷ xs) zero past none = absurd (none-some x (sym past))
  none_found (x ∷ xs) (suc i) past none =
      let both = or_parts (test x) (list_any test (take i xs)) none in
      rw both.0 (none_found xs i past both.1)

-- ---- one test and then another

module _ {X : Type 0} (p q : X → Bool) where
  -- the first of those that pass p which passes q too
  pub filter_first : (xs : List X) → filter p (without_first (λ x. p x && q x) xs) ≡ without_first q (filter p xs)
  filter_first [] = refl
  filter_first (x ∷ xs) = ap (filter p) (first_out (λ y. p y && q y) x xs) ∙ by_tests (filter_first xs) (p x) (q x) refl refl
    where
      by_tests : filter p (without_first (λ y. p y && q y) xs) ≡ without_first q (filter p xs) → (b d : Bool) → p x ≡ b → q x ≡ d
          → filter p (cond (b && d) xs (x ∷ without_first (λ y. p y && q y) xs)) ≡ without_first q (cond b (x ∷ filter p xs) (filter p xs))
      by_tests rest true true is next = sym (first_out q x (filter p xs) ∙ rw next refl)
      by_tests rest true false is next =
          let behind : filter p (x ∷ without_first (λ y. p y && q y) xs) ≡ x ∷ without_first q (filter p xs) = rw is (ap (λ (ys : List X). x ∷ ys) rest) in
          behind ∙ sym (first_out q x (filter p xs) ∙ rw next refl)
      by_tests rest false d is next = rw is rest

  pub find_first : (xs : List X) → find (λ x. p x && q x) xs ≡ find q (filter p xs)
  find_first [] = refl
  find_first (x ∷ xs) = by_tests (find_first xs) (p x) (q x) refl
    where
      by_tests : find (λ y. p y && q y) xs ≡ find q (filter p xs) → (b d : Bool) → q x ≡ d
          → cond (b && d) (Some x) (find (λ y. p y && q y) xs) ≡ find q (cond b (x ∷ filter p xs) (filter p xs))
      by_tests rest true true next = rw next refl
      by_tests rest true false next = rw next rest
      by_tests rest false d next = rest

  -- none passes both
  pub filter_none : ((x : X) → IsTrue (p x) → q x ≡ false) → (xs : List X) → filter p (filter q xs) ≡ []
  filter_none apart [] = refl
  filter_none apart (x ∷ xs) = elim (cases_Bool (q x)) as (λ _. filter p (filter q (x ∷ xs)) ≡ []) [
    | inl passes ↦ rw (passes, fails passes) (filter_none apart xs)
    | inr fails ↦ rw fails (filter_none apart xs)
  ]
    where
      fails : IsTrue (q x) → p x ≡ false
      fails passes = elim (cases_Bool (p x)) as (λ _. p x ≡ false) [ inl both ↦ absurd (false≢true (sym (apart x both) ∙ passes)) | inr other ↦ other ]

  -- the first that passes q doesn't pass p
  pub filter_apart : ((x : X) → IsTrue (q x) → p x ≡ false) → (xs : List X) → filter p (without_first q xs) ≡ filter p xs
  filter_apart apart [] = refl
  filter_apart apart (x ∷ xs) = ap (filter p) (first_out q x xs) ∙ by_test (filter_apart apart xs) (cases_Bool (q x))
    where
      by_test : filter p (without_first q xs) ≡ filter p xs → (IsTrue (q x)) ⊎ (q x ≡ false)
          → filter p (cond (q x) xs (x ∷ without_first q xs)) ≡ filter p (x ∷ xs)
      by_test rest (inl passes) = rw (passes, apart x passes) refl
      by_test rest (inr fails) = rw fails (ap (λ (ys : List X). cond (p x) (x ∷ ys) ys) rest)

-- two filters in the other order, where q is r for those that pass p
pub filter_both : {X : Type 0} (p q r : X → Bool) → ((x : X) → IsTrue (p x) → q x ≡ r x) → (xs : List X) → filter p (filter q xs) ≡ filter r (filter p xs)
filter_both p q r same [] = refl
filter_both {X} p q r same (x ∷ xs) = elim (cases_Bool (p x)) as (λ _. filter p (filter q (x ∷ xs)) ≡ filter r (filter p (x ∷ xs))) [
  | inl passes ↦ rw (passes, ← same x passes) (by_test (filter_both p q r same xs) passes (cases_Bool (q x)))
  | inr fails ↦ rw fails (by_other (filter_both p q r same xs) fails (cases_Bool (q x)))
]
  where
    by_test : filter p (filter q xs) ≡ filter r (filter p xs) → IsTrue (p x) → (IsTrue (q x)) ⊎ (q x ≡ false)
        → filter p (cond (q x) (x ∷ filter q xs) (filter q xs)) ≡ cond (q x) (x ∷ filter r (filter p xs)) (filter r (filter p xs))
    by_test rest passes (inl here) = rw (here, passes) (ap (λ (ys : List X). x ∷ ys) rest)
    by_test rest passes (inr other) = rw other rest

    by_other : filter p (filter q xs) ≡ filter r (filter p xs) → p x ≡ false → (IsTrue (q x)) ⊎ (q x ≡ false)
        → filter p (cond (q x) (x ∷ filter q xs) (filter q xs)) ≡ filter r (filter p xs)
    by_other rest fails (inl here) = rw (here, fails) rest
    by_other rest fails (inr other) = rw other rest

-- ---- all elements are left

-- the first passes where all do, and so do the others
pub filter_head : {X : Type 0} (p : X → Bool) (x : X) (xs : List X) → filter p (x ∷ xs) ≡ x ∷ xs → (IsTrue (p x)) × (filter p xs ≡ xs)
filter_head {X} p x xs all = elim (cases_Bool (p x)) as (λ _. (IsTrue (p x)) × (filter p xs ≡ xs)) [
  | inl passes ↦ (passes, ap (λ (ys : List X). drop 1 ys) (rw passes at all))
  | inr fails ↦ absurd (let longer : ◌≡◌ {A = ℕ} (length (filter p xs)) (length (x ∷ xs)) = ap (λ (ys : List X). length ys) (rw fails at all) in
      omega (arith, longer, filter-length p xs))
]

-- all with one key are left, for each key
pub all_left : {X : Type 0} (key : X → ℕ) (p : X → Bool) (xs : List X) → ((k : ℕ) → filter p (filter (λ x. key x == k) xs) ≡ filter (λ x. key x == k) xs)
    → filter p xs ≡ xs
all_left key p [] by_key = refl
all_left {X} key p (x ∷ xs) by_key = rw passes (ap (λ (ys : List X). x ∷ ys) (all_left key p xs behind))
  where
    passes : IsTrue (p x)
    passes = (filter_head p x (filter (λ y. key y == key x) xs) (rw (eq-eqb (key x) (key x) refl) at (by_key (key x)))).0

    behind : (k : ℕ) → filter p (filter (λ y. key y == k) xs) ≡ filter (λ y. key y == k) xs
    behind k = elim (cases_Bool (key x == k)) as (λ _. filter p (filter (λ y. key y == k) xs) ≡ filter (λ y. key y == k) xs) [
      | inl here ↦ (filter_head p x (filter (λ y. key y == k) xs) (rw here at (by_key k))).1
      | inr apart ↦ rw apart at (by_key k)
    ]
