-- Changes of a list or map that a test of all its entries does not tell, and filters where none passes.
use Rattle.std.proofs.Common.{◌≡◌, ℕ, Bool, true, false, not, ◌&&◌, ◌||◌, ◌==◌, List, [], ◌∷◌, refl, sym, ap, ◌∙◌, Some, cond, inl, inr, IsTrue}
use Rattle.std.specs.Prelude.{nat_lt}
use Rattle.std.specs.List.{list_any, filter}
use Rattle.std.proofs.lemmas.Bool.{cases_Bool, and_right, or_parts, or_cases, or_left, or_right, false≢true, eqb-true}
use Rattle.std.proofs.lemmas.Option.{none-some, same_Some}
use Rattle.zl_rights.specs.Map.{Map, get, put, each}
use Rattle.zl_rights.specs.Settled.{among}

module _ {X : Type 0} where
  -- ---- where no entry passes

  pub filter_none : (p : X → Bool) (xs : List X) → list_any p xs ≡ false → filter p xs ≡ []
  filter_none p [] h = refl
  filter_none p (x ∷ xs) h = let both = or_parts (p x) _ h in rw both.0 (filter_none p xs both.1)

  pub filter_all : (p : X → Bool) (xs : List X) → list_any p xs ≡ false → filter (λ x. not (p x)) xs ≡ xs
  filter_all p [] h = refl
  filter_all p (x ∷ xs) h = let both = or_parts (p x) _ h in rw both.0 (ap (λ ys. x ∷ ys) (filter_all p xs both.1))

  pub none_left : (p : X → Bool) (xs : List X) → list_any p (filter (λ x. not (p x)) xs) ≡ false
  none_left p [] = refl
  none_left p (x ∷ xs) = elim (cases_Bool (p x)) as (λ _. list_any p (filter (λ y. not (p y)) (x ∷ xs)) ≡ false) [
    | inl pass ↦ rw pass (none_left p xs)
    | inr fail ↦ rw (fail, fail) (none_left p xs)
  ]

  pub list_any-and : (p q : X → Bool) (xs : List X) → list_any p xs ≡ false → list_any (λ x. q x && p x) xs ≡ false
  list_any-and p q [] h = refl
  list_any-and p q (x ∷ xs) h = let both = or_parts (p x) _ h in rw (and_right (q x) (p x) both.0) (list_any-and p q xs both.1)

  -- ---- changes that a test can't tell

  pub each_same : (f : ℕ → X → X) → ((k : ℕ) (x : X) → f k x ≡ x) → (m : Map X) → each f m ≡ m
  unfolding each
  each_same f same [] = refl
  each_same f same (e ∷ m) = rw (same e.0 e.1, each_same f same m)

  pub list_any-each : (test : ℕ × X → Bool) (f : ℕ → X → X) → ((k : ℕ) (x : X) → test (k, f k x) ≡ test (k, x)) → (m : Map X)
      → list_any test (each f m) ≡ list_any test m
  unfolding each
  list_any-each test f same [] = refl
  list_any-each test f same (e ∷ m) = rw (same e.0 e.1, list_any-each test f same m)

  pub list_any-put : (test : ℕ × X → Bool) (m : Map X) (k : ℕ) (old new : X) → get m k ≡ Some old → test (k, old) ≡ false → test (k, new) ≡ false
      → list_any test (put m k new) ≡ list_any test m
  unfolding get put
  list_any-put test [] k old new there o n = cc
  list_any-put test ((j, x) ∷ m) k old new there o n =
      elim (cases_Bool (j == k)) as (λ _. list_any test (put ((j, x) ∷ m) k new) ≡ list_any test ((j, x) ∷ m)) [
        | inl here ↦ let same : x ≡ old = same_Some x old (rw here at there) in rw (here, n, same, eqb-true j k here, o) refl
        | inr apart ↦ rw apart (elim (nat_lt k j) as (λ b. list_any test (cond b ((k, new) ∷ (j, x) ∷ m) ((j, x) ∷ put m k new)) ≡ list_any test ((j, x) ∷ m)) [
          | true ↦ rw n refl
          | false ↦ ap (λ b. test (j, x) || b) (list_any-put test m k old new (rw apart at there) o n)
        ])
      ]

-- ---- where an entry passes

pub any_at : {X : Type 0} (test : ℕ × X → Bool) (m : Map X) (k : ℕ) (v : X) → get m k ≡ Some v → IsTrue (test (k, v)) → IsTrue (list_any test m)
unfolding get
any_at test [] k v at passes = absurd (none-some v at)
any_at test (e ∷ m) k v at passes = elim (cases_Bool (e.0 == k)) as (λ _. IsTrue (test e || list_any test m)) [
  | inl here ↦ or_left (test e) _ ((λ i. test (eqb-true e.0 k here i, same_Some e.1 v (rw here at at) i)) ∙ passes)
  | inr apart ↦ or_right (test e) _ (any_at test m k v (rw apart at at) passes)
]

-- ---- the list without p

pub gone : (ps : List ℕ) (p : ℕ) → among (filter (λ q. not (q == p)) ps) p ≡ false
gone ps p = none_left (λ q. q == p) ps

pub among-filtered : (p : ℕ → Bool) (ks : List ℕ) (k : ℕ) → IsTrue (among (filter p ks) k) → IsTrue (among ks k)
among-filtered p [] k h = h
among-filtered p (x ∷ ks) k h = elim (cases_Bool (p x)) as (λ _. IsTrue ((x == k) || among ks k)) [
  | inl pass ↦ elim (or_cases (x == k) _ (rw pass at h)) as (λ _. IsTrue ((x == k) || among ks k)) [
    | inl same ↦ or_left (x == k) _ same
    | inr later ↦ or_right (x == k) _ (among-filtered p ks k later)
  ]
  | inr fail ↦ or_right (x == k) _ (among-filtered p ks k (rw fail at h))
]

pub apart_from : (ps : List ℕ) (p q : ℕ) → IsTrue (among (filter (λ x. not (x == p)) ps) q) → (p == q) ≡ false
apart_from ps p q h = elim (cases_Bool (p == q)) as (λ _. (p == q) ≡ false) [
  | inl same ↦ absurd (false≢true (sym (gone ps p) ∙ rw (← eqb-true p q same) at h))
  | inr apart ↦ apart
]
