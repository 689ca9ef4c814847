-- What is found in a list by its name, and that nothing has the name where nothing is found.
use Rattle.std.specs.Cmp.Lexicographic.{pointwise}
use Rattle.zl_rights.proofs.Common.{Bool, IfNone, IfSome, List, None, Option, Some, [], and_parts, cases_Bool, eq-eqb, eqb-true, find, inl, inr, refl}
use Rattle.zl_rights.proofs.Common.{slice_get, subst, suc, sym, true, zero, ℕ, ◌==◌, ◌∷◌, ◌≡◌, ◌≢◌}
use Rattle.zl_rights.specs.Statuses.{all_statuses}
use Rattle.zl_rights.specs.declared.status.Status.{Status}
use Rattle.zl_rights.specs.declared.status.Status.TheVariants as status

pub same_names : (xs ys : List ℕ) → pointwise ◌==◌ xs ys ≡ true → xs ≡ ys
same_names [] [] h = refl
same_names [] (y ∷ ys) h = absurd cc
same_names (x ∷ xs) [] h = absurd cc
same_names (x ∷ xs) (y ∷ ys) h =
    let p = and_parts (x == y) (pointwise ◌==◌ xs ys) h in
    λ i. eqb-true x y p.0 i ∷ same_names xs ys p.1 i

pub same_refl : (xs : List ℕ) → pointwise ◌==◌ xs xs ≡ true
same_refl [] = refl
same_refl (x ∷ xs) = rw (eq-eqb x x refl, same_refl xs) refl

pub passes : {X : Type 0} (test : X → Bool) (xs : List X) (x : X) → find test xs ≡ Some x → test x ≡ true
passes test [] x e = absurd cc
passes test (y ∷ xs) x e =
    elim (cases_Bool (test y)) as (λ _. test x ≡ true) [
      | inl here ↦ let same : y ≡ x = cc in subst (λ z. test z ≡ true) same here
      | inr other ↦ passes test xs x cc
    ]

-- nothing passes, where nothing is found
none_at : {X : Type 0} (test : X → Bool) (xs : List X) (i : ℕ) (x : X) → find test xs ≡ None → slice_get xs i ≡ Some x → test x ≡ true → ⊥
none_at test [] i x e here passed = absurd (cc)
none_at test (y ∷ xs) zero x e here passed =
    let same : y ≡ x = cc in
    let first : test y ≡ true = subst (λ z. test z ≡ true) (sym same) passed in
    absurd (cc)
none_at test (y ∷ xs) (suc i) x e here passed =
    elim (cases_Bool (test y)) as (λ _. ⊥) [ inl first ↦ absurd (cc) | inr other ↦ none_at test xs i x (cc) here passed ]

module _ {X : Type 0} (name_of : X → List ℕ) (all : List X) (name : List ℕ) where
  abbrev pub by_name : X → Bool
  by_name x = pointwise ◌==◌ (name_of x) name

  -- what is found has the name
  pub found : (r : Option X) → r ≡ find by_name all → IfSome r (λ x. name ≡ name_of x)
  found None e = tt
  found (Some x) e = sym (same_names (name_of x) name (passes by_name all x (sym e)))

  -- where nothing is found, nothing has it
  pub missing : ((x : X) → (i : ℕ) × (slice_get all i ≡ Some x)) → (r : Option X) → r ≡ find by_name all → IfNone r ((x : X) → name ≢ name_of x)
  missing among None e =
      λ x same. none_at by_name all (among x).0 x (sym e) (among x).1 (subst (λ n. pointwise ◌==◌ (name_of x) n ≡ true) (sym same) (same_refl (name_of x)))
  missing among (Some x) e = tt

-- ---- statuses

pub status_among : (s : Status) → (i : ℕ) × (slice_get all_statuses i ≡ Some s)
status_among status.Ok = (0, refl)
status_among status.NotSupported = (1, refl)
status_among status.NoResources = (2, refl)
status_among status.NoMemory = (3, refl)
status_among status.InvalidArgs = (4, refl)
status_among status.BadHandle = (5, refl)
status_among status.WrongType = (6, refl)
status_among status.OutOfRange = (7, refl)
status_among status.BufferTooSmall = (8, refl)
status_among status.BadState = (9, refl)
status_among status.TimedOut = (10, refl)
status_among status.ShouldWait = (11, refl)
status_among status.PeerClosed = (12, refl)
status_among status.NotFound = (13, refl)
status_among status.AlreadyExists = (14, refl)
status_among status.AccessDenied = (15, refl)
