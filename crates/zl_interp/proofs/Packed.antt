-- Values of a slot array that come to its front.
use Rattle.zl_interp.proofs.Common.{IfSome, IsTrue, List, Some, [], ap, arith, drop, false≢true, get_or, length, map, refl, replicate, slice_get}
use Rattle.zl_interp.proofs.Common.{slice_set, suc}
use Rattle.zl_interp.proofs.Common.{sym, take, zero, ℕ, ◌++◌, ◌+◌, ◌<◌, ◌∙◌, ◌∷◌, ◌≡◌, ◌≢◌, ◌≤◌}
use Rattle.std.proofs.Math.Nat.{zero-add}
use Rattle.std.proofs.lemmas.Bool.{le-leb, leb-true, ne_eqb}
use Rattle.std.proofs.lemmas.List.Elements.{filter-append}
use Rattle.std.proofs.lemmas.List.{append-nil, drop-set-lt, drop_more, length-replicate, take_more, take_more_set}
use Rattle.std.specs.List.{filter}
use Rattle.std.specs.Prelude.{not, ◌==◌}
use Rattle.zl_code.specs.Asked.{filled_among, has_places}
use Rattle.zl_code.specs.Effects.{slots_filled}
use Rattle.zl_code.specs.Local.{overwritten}

-- the values that aren't 0
abbrev filled : List ℕ → List ℕ
filled xs = filter (λ v. not (v == 0)) xs

-- the first n places were looked at, and their values stand in front; the others are as they were
module _ (old now : List ℕ) (n packed : ℕ) (here : n < length old) (so_far : take packed now ≡ filled (take n old)) (within : packed ≤ n)
    (others : drop n now ≡ drop n old) (same : length now ≡ length old) where
  abbrev value : ℕ
  value = get_or now n 0

  left : value ∷ drop (n + 1) now ≡ get_or old n 0 ∷ drop (n + 1) old
  left = sym (drop_more now n 0 (omega (arith, here, same))) ∙ (others ∙ drop_more old n 0 here)

  pub rest_left : drop (n + 1) now ≡ drop (n + 1) old
  rest_left = ap (λ (xs : List ℕ). drop 1 xs) left

  one_more : filled (take (n + 1) old) ≡ take packed now ++ filled (value ∷ [])
  one_more =
      ap filled (take_more old n 0 here) ∙ (filter-append (λ v. not (v == 0)) (take n old) (get_or old n 0 ∷ [])
      ∙ λ i. sym so_far i ++ filled (get_or (sym left i) 0 0 ∷ []))

  -- a place that is 0 is passed
  pub passed : value ≡ 0 → take packed now ≡ filled (take (n + 1) old)
  passed empty = sym (one_more ∙ rw empty (append-nil _))

  -- another value comes to the front
  pub brought : value ≢ 0 → take (packed + 1) (slice_set now packed value) ≡ filled (take (n + 1) old)
  brought full = take_more_set now packed value (omega (arith, here, same, within)) ∙ sym (one_more ∙ rw (ne_eqb value 0 full) refl)

  pub rest_kept : drop (n + 1) (slice_set now packed value) ≡ drop (n + 1) old
  rest_kept = drop-set-lt (n + 1) now packed value (omega (arith, within)) ∙ rest_left

-- ---- among the arrays

-- there is such an array, as f sees it, with so many places, and w stands in the place of it
pub record IsSet {V : Type 0} (f : V → List ℕ) (xs : List V) (array count : ℕ) (d w : V) : Type 0 where
  pub was : slice_get (map f xs) array ≡ Some (f (get_or xs array d))
  pub is : slice_get (map f (slice_set xs array w)) array ≡ Some (f w)
  pub within : count ≤ length (f (get_or xs array d))
  pub again : (v : List ℕ) → slice_set (map f (slice_set xs array w)) array v ≡ slice_set (map f xs) array v

pub is_set : {V : Type 0} (f : V → List ℕ) (xs : List V) (array count : ℕ) (d w : V) → IsTrue (has_places count (slice_get (map f xs) array))
    → IsSet f xs array count d w
is_set f [] array count d w there = absurd (false≢true there)
is_set f (x ∷ xs) zero count d w there = record { was = refl; is = refl; within = leb-true count (length (f x)) there; again = λ v. refl }
is_set f (x ∷ xs) (suc n) count d w there =
    let rest = is_set f xs n count d w there in
    record { was = rest.was; is = rest.is; within = rest.within; again = λ v. ap (λ (ys : List (List ℕ)). f x ∷ ys) (rest.again v) }

-- places of which only the first differ are emptied to the same
pub emptied_same : (old now : List ℕ) (count : ℕ) → drop count now ≡ drop count old
    → overwritten now 0 (replicate count 0) ≡ overwritten old 0 (replicate count 0)
emptied_same old now count others = rw (length-replicate, zero-add) (ap (λ (rest : List ℕ). replicate count 0 ++ rest) others)

-- the array held the old places, and holds the new ones
module _ {V : Type 0} (f : V → List ℕ) (xs : List V) (array count : ℕ) (d w : V) (old new : List ℕ)
    (there : IsTrue (has_places count (slice_get (map f xs) array))) (old_is : old ≡ f (get_or xs array d)) (new_is : f w ≡ new) where
  abbrev at : IsSet f xs array count d w
  at = is_set f xs array count d w there

  pub packed_at : (k : ℕ) → take k new ≡ filled_among count (Some old)
      → IfSome (slice_get (map f (slice_set xs array w)) array) (λ places. take k places ≡ filled_among count (slice_get (map f xs) array))
  packed_at k same = rw (at.is, at.was, ← old_is, new_is) same

  pub still_there : length new ≡ length old → IsTrue (has_places count (slice_get (map f (slice_set xs array w)) array))
  still_there same = rw (at.is, new_is) (le-leb count (length new) (omega (arith, same, ap (λ (ps : List ℕ). length ps) old_is, at.within)))

  pub emptied_at : drop count new ≡ drop count old
      → slots_filled (map f (slice_set xs array w)) (Some (array, replicate count 0)) ≡ slots_filled (map f xs) (Some (array, replicate count 0))
  emptied_at others = rw (at.is, at.was, ← old_is, new_is)
      (ap (λ (ps : List ℕ). slice_set (map f (slice_set xs array w)) array ps) (emptied_same old new count others) ∙ at.again _)
