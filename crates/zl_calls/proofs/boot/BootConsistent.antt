-- What a boot has made meets the invariant of the world, once what isn't held is gone.
use Rattle.zl_calls.proofs.Common.{AreKeptBut, Cascades, IsMaking, IsTrue, IsUnwatched, LeavesListed, List, Objects, Process, Releases, [], ap, arith}
use Rattle.zl_calls.proofs.Common.{cascades_then, cases_Bool, false, false≢true, filter, get, inl, inr, is_there, list_any, nat_tests, none-some, none_left}
use Rattle.zl_calls.proofs.Common.{or_left, or_right, refl, subst, suc, zero, ℕ, ◌++◌, ◌+◌, ◌<◌, ◌==◌, ◌∙◌, ◌∷◌, ◌≡◌, ◌⊎◌}
use Rattle.zl_calls.proofs.objects.Settled.{IsSettled, settled}

-- all koids below n
abbrev below : ℕ → List ℕ
below zero = []
below (suc n) = below n ++ n ∷ []

is_below : (k n : ℕ) → k < n → IsTrue (list_any (λ x. x == k) (below n))
is_below k zero less = absurd (omega (arith, less))
is_below k (suc n) less = by_last (below n) (by_order (λ h. is_below k n h) (cases_Bool (n == k)))
  where
    by_order : (k < n → IsTrue (list_any (λ x. x == k) (below n))) → IsTrue (n == k) ⊎ ((n == k) ≡ false)
        → IsTrue (list_any (λ x. x == k) (below n)) ⊎ IsTrue (n == k)
    by_order before (inl here) = inr here
    by_order before (inr apart) = let other : k < n = grind (arith, nat_tests, apart, less) in inl (before other)

    by_last : (xs : List ℕ) → IsTrue (list_any (λ x. x == k) xs) ⊎ IsTrue (n == k) → IsTrue (list_any (λ x. x == k) (xs ++ n ∷ []))
    by_last [] (inl none) = absurd (false≢true none)
    by_last [] (inr here) = or_left (n == k) _ here
    by_last (x ∷ xs) some = elim (cases_Bool (x == k)) as (λ _. IsTrue (list_any (λ y. y == k) (x ∷ xs ++ n ∷ []))) [
      | inl first ↦ or_left (x == k) _ first
      | inr later ↦ or_right (x == k) _ (by_last xs (elim some as (λ _. IsTrue (list_any (λ y. y == k) xs) ⊎ IsTrue (n == k)) [
        | inl there ↦ inl (rw later at there)
        | inr here ↦ inr here
      ]))
    ]

-- what is left of the objects, of which nothing may keep those with koids below the bound
pub record IsSwept (r r2 : Objects) (bound : ℕ) : Type 0 where
  pub cascades : Cascades [] r.objects r2.objects
  pub kept : AreKeptBut (below bound) r2.objects
  pub koids : r2.next_koid ≡ r.next_koid
  pub unwatched : IsUnwatched r → IsUnwatched r2

pub none_swept : (ps : List Process) (r : Objects) → IsMaking ps [] r → IsSwept r r r.next_koid
none_swept ps r making = record {
  cascades = none_left r.objects;
  kept = record { in_order = making.sound.objects_in_order; noted = λ k o at unkept. is_below k r.next_koid (making.sound.given_objects k (rw at refl)) };
  koids = refl;
  unwatched = λ before. before;
}

pub one_swept : (r r2 r3 : Objects) (k : ℕ) → IsSwept r r2 (k + 1) → Releases [] (k ∷ []) r2 r3 → LeavesListed r2 r3 → IsSwept r r3 k
one_swept r r2 r3 k so_far releases left =
    let next : k + 1 ≡ suc k = omega arith in
    record {
      cascades = cascades_then [] [] r.objects r2.objects r3.objects so_far.cascades releases.cascades;
      kept = releases.keeps (below k) (subst (λ (n : ℕ). AreKeptBut (below n) r2.objects) next so_far.kept);
      koids = releases.koids ∙ so_far.koids;
      unwatched = λ before.
          let mid : IsUnwatched r2 = so_far.unwatched before in
          record { none = left.waits ∙ ap (filter (is_there r3.objects)) mid.none; none_made = left.made ∙ mid.none_made };
    }

pub all_swept : (ps : List Process) (r r2 : Objects) → IsMaking ps [] r → IsSwept r r2 0 → IsSettled ps r r2
unfolding get
all_swept ps r r2 making swept = settled ps [] r making.sound refl (λ v e at. absurd (none-some e at)) [] (λ k. refl) r2 swept.cascades swept.kept swept.koids
