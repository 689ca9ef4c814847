-- What each value of a map has, and the order of its keys, after a change.
use Rattle.zl_code.proofs.Common.{Bool, IsTrue, Map, None, Option, Some, T, [], ap, below_all, cases_Bool, each, eq-eqb, eqb-true, false, get, get-each}
use Rattle.zl_code.proofs.Common.{get-put, get-update, get-where_key-in, get-where_key-out, in_order, inl, inr, nat_cmp, none-some, option_map, put}
use Rattle.zl_code.proofs.Common.{refl, same_Some, subst, sym, update, where_key, ℕ, ◌==◌, ◌∙◌, ◌∷◌, ◌≡◌}
use Rattle.std.specs.FinMap.Entries.{is_sorted-where_key}
use Rattle.zl_rights.proofs.MapEdits.{IsTrue-from_T}

-- ---- the order of the keys

module _ {X : Type 0} where
  pub in_order-where_key : (m : Map X) (p : ℕ → Bool) → IsTrue (in_order m) → IsTrue (in_order (where_key p m))
  unfolding where_key
  in_order-where_key m p order = IsTrue-from_T _ (is_sorted-where_key nat_cmp p m (subst T (sym order) tt))

  below_all-each : (k : ℕ) (m : Map X) (f : ℕ → X → X) → below_all nat_cmp k (each f m) ≡ below_all nat_cmp k m
  unfolding each
  below_all-each k [] f = refl
  below_all-each k (e ∷ m) f = rw (below_all-each k m f) refl

  pub in_order-each : (m : Map X) (f : ℕ → X → X) → in_order (each f m) ≡ in_order m
  unfolding each
  in_order-each [] f = refl
  in_order-each (e ∷ m) f = rw (below_all-each e.0 m f, in_order-each m f) refl

-- ---- each value

-- P is true of the value at each key
abbrev pub Each : {X : Type 0} → (X → Type 0) → Map X → Type 0
Each P m = (k : ℕ) (x : _) → get m k ≡ Some x → P x

module _ {X : Type 0} (P : X → Type 0) (m : Map X) (all : Each P m) where
  pub each_put : (q : ℕ) (v : X) → P v → Each P (put m q v)
  each_put q v new k x there = elim (cases_Bool (q == k)) as (λ _. P x) [
    | inl here ↦ subst P (same_Some v x (rw (get-put m q v k, here) at there)) new
    | inr other ↦ all k x (rw (get-put m q v k, other) at there)
  ]

  pub each_where_key : (p : ℕ → Bool) → Each P (where_key p m)
  each_where_key p k x there = elim (cases_Bool (p k)) as (λ _. P x) [
    | inl kept ↦ all k x (rw (get-where_key-in m p k kept) at there)
    | inr gone ↦ absurd (none-some x (rw (get-where_key-out m p k gone) at there))
  ]

-- ---- what stands at a key before and after

-- what stands there is as it was, or changed as R says, or is new, as N says
pub data Changed {X : Type 0} (R : X → X → Type 0) (N : X → Type 0) (before after : Option X) : Type 0 where
  same : after ≡ before → Changed R N before after
  changed : (x y : X) → before ≡ Some x → after ≡ Some y → R x y → Changed R N before after
  new : (y : X) → after ≡ Some y → N y → Changed R N before after

-- so it is at each key
abbrev pub EachChanged : {X : Type 0} → (ℕ → X → X → Type 0) → (ℕ → X → Type 0) → Map X → Map X → Type 0
EachChanged R N m m2 = (k : ℕ) → Changed (R k) (N k) (get m k) (get m2 k)

module _ {X : Type 0} (R : ℕ → X → X → Type 0) (N : ℕ → X → Type 0) where
  pub unchanged : (m m2 : Map X) → m2 ≡ m → EachChanged R N m m2
  unchanged m m2 e k = same (ap (λ (l : Map X). get l k) e)

  at_one_key : (m m2 : Map X) (q : ℕ) → ((k : ℕ) → (q == k) ≡ false → get m2 k ≡ get m k) → Changed (R q) (N q) (get m q) (get m2 q) → EachChanged R N m m2
  at_one_key m m2 q apart here k = elim (cases_Bool (q == k)) as (λ _. Changed (R k) (N k) (get m k) (get m2 k)) [
    | inl is ↦ subst (λ j. Changed (R j) (N j) (get m j) (get m2 j)) (eqb-true q k is) here
    | inr other ↦ same (apart k other)
  ]

  pub changed_put : (m : Map X) (q : ℕ) (v : X) → Changed (R q) (N q) (get m q) (Some v) → EachChanged R N m (put m q v)
  changed_put m q v here =
      at_one_key m (put m q v) q (λ k other. get-put m q v k ∙ rw other refl)
      (subst (Changed (R q) (N q) (get m q)) (sym (get-put m q v q ∙ rw (eq-eqb q q refl) refl)) here)

  by_f : (k : ℕ) (f : X → X) (a b : Option X) → b ≡ option_map f a → ((x : X) → a ≡ Some x → Changed (R k) (N k) (Some x) (Some (f x)))
      → Changed (R k) (N k) a b
  by_f k f None b is ok = same is
  by_f k f (Some x) b is ok = subst (Changed (R k) (N k) (Some x)) (sym is) (ok x refl)

  pub changed_update : (m : Map X) (q : ℕ) (f : X → X) → ((x : X) → get m q ≡ Some x → Changed (R q) (N q) (Some x) (Some (f x)))
      → EachChanged R N m (update m q f)
  changed_update m q f ok =
      at_one_key m (update m q f) q (λ k other. get-update m q f k ∙ rw other refl)
      (by_f q f (get m q) (get (update m q f) q) (get-update m q f q ∙ rw (eq-eqb q q refl) refl) ok)

  pub changed_each : (m : Map X) (f : ℕ → X → X) → ((k : ℕ) (x : X) → Changed (R k) (N k) (Some x) (Some (f k x))) → EachChanged R N m (each f m)
  changed_each m f ok k = by_f k (f k) (get m k) (get (each f m) k) (get-each m f k) (λ x there. ok k x)

  -- what changes and new values keep is true of each value
  pub each_changed : (P : ℕ → X → Type 0) (m m2 : Map X) → EachChanged R N m m2 → ((k : ℕ) (x y : X) → R k x y → P k x → P k y)
      → ((k : ℕ) (y : X) → N k y → P k y) → ((k : ℕ) (x : X) → get m k ≡ Some x → P k x) → (k : ℕ) (y : X) → get m2 k ≡ Some y → P k y
  each_changed P m m2 all keeps fresh old k y there = elim (all k) as (λ _. P k y) [
    | same e ↦ old k y (sym e ∙ there)
    | changed x z was is r ↦ subst (P k) (same_Some z y (sym is ∙ there)) (keeps k x z r (old k x was))
    | new z is n ↦ subst (P k) (same_Some z y (sym is ∙ there)) (fresh k z n)
  ]
