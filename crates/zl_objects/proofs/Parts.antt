-- The list of all waits in two parts: what is found in both, and what is taken out of either.
use Rattle.zl_objects.proofs.Common.{Bool, IfSome, IsSome, IsTrue, List, Listed, Map, None, Option, Some, [], and_from, and_parts, ap, append_assoc, arith}
use Rattle.zl_objects.proofs.Common.{below_all, cond, false, false≢true, find, get_or, is_lt, is_sorted, length, length-append, lt-ltb, map, map-append}
use Rattle.zl_objects.proofs.Common.{nat_cmp, nat_lt, nat_tests, option_map, option_to_list, order_entry, position, position_or_len, refl, remove, sorted_parts}
use Rattle.zl_objects.proofs.Common.{suc, sym, true, ℕ, ◌++◌, ◌+◌, ◌-◌, ◌<◌, ◌∙◌, ◌∷◌, ◌≡◌, ◌≤◌}
use Rattle.std.specs.Prelude.{OnSome}
use Rattle.std.proofs.Math.Seq.{get_or-append_seam}
use Rattle.std.proofs.lemmas.List.{get_or-append_right}
use Rattle.std.proofs.lemmas.List.Edits.{length-remove, remove-append_right}
use Rattle.zl_signals.proofs.Takes.{first_found, others_stay}
use Rattle.zl_signals.specs.Waits.{without_first}
use Rattle.zl_objects.specs.Gapped.{HasRoom, IsTaken}

-- ---- both parts are in order

module _ {X : Type 0} where
  below_start : (k : ℕ) (m n : Map X) → IsTrue (below_all nat_cmp k (m ++ n)) → IsTrue (below_all nat_cmp k m)
  below_start k [] n below = refl
  below_start k (e ∷ m) n below =
      let both = and_parts (is_lt (nat_cmp k e.0)) (below_all nat_cmp k (m ++ n)) below in
      and_from (is_lt (nat_cmp k e.0)) (below_all nat_cmp k m) both.0 (below_start k m n both.1)

  start_sorted : (m n : Map X) → IsTrue (is_sorted nat_cmp (m ++ n)) → IsTrue (is_sorted nat_cmp m)
  start_sorted [] n sorted = refl
  start_sorted (e ∷ m) n sorted =
      let both = sorted_parts e (m ++ n) sorted in
      and_from (below_all nat_cmp e.0 m) (is_sorted nat_cmp m) (below_start e.0 m n both.0) (start_sorted m n both.1)

  end_sorted : (m n : Map X) → IsTrue (is_sorted nat_cmp (m ++ n)) → IsTrue (is_sorted nat_cmp n)
  end_sorted [] n sorted = sorted
  end_sorted (e ∷ m) n sorted = end_sorted m n (sorted_parts e (m ++ n) sorted).1

module _ (xs ys : List Listed) (rising : IsTrue (is_sorted nat_cmp (map order_entry (xs ++ ys)))) where
  both_rise : IsTrue (is_sorted nat_cmp (map order_entry xs ++ map order_entry ys))
  both_rise = rw (map-append order_entry xs ys) at rising

  pub before_rises : IsTrue (is_sorted nat_cmp (map order_entry xs))
  before_rises = start_sorted (map order_entry xs) (map order_entry ys) both_rise

  pub after_rises : IsTrue (is_sorted nat_cmp (map order_entry ys))
  after_rises = end_sorted (map order_entry xs) (map order_entry ys) both_rise

-- ---- a place in both

module _ {X : Type 0} (p : X → Bool) where
  -- the first that passes is in the first part
  first_before : (xs ys : List X) → position_or_len p xs < length xs → position_or_len p (xs ++ ys) ≡ position_or_len p xs
  first_before [] ys within = absurd (omega (arith, within))
  first_before (x ∷ xs) ys within = by_test (p x) refl within (λ less. first_before xs ys less)
    where
      by_test : (b : Bool) → p x ≡ b → position_or_len p (x ∷ xs) < suc (length xs)
          → (position_or_len p xs < length xs → position_or_len p (xs ++ ys) ≡ position_or_len p xs)
          → position_or_len p (x ∷ xs ++ ys) ≡ position_or_len p (x ∷ xs)
      by_test true is less later = rw is refl
      by_test false is less later = rw is (ap (λ (n : ℕ). 1 + n) (later (omega (arith, rw is at less))))

  -- none in the first part passes
  first_behind : (xs ys : List X) → length xs ≤ position_or_len p xs → position_or_len p (xs ++ ys) ≡ length xs + position_or_len p ys
  first_behind [] ys past = omega arith
  first_behind (x ∷ xs) ys past = by_test (p x) refl past (λ more. first_behind xs ys more)
    where
      by_test : (b : Bool) → p x ≡ b → suc (length xs) ≤ position_or_len p (x ∷ xs)
          → (length xs ≤ position_or_len p xs → position_or_len p (xs ++ ys) ≡ length xs + position_or_len p ys)
          → position_or_len p (x ∷ xs ++ ys) ≡ suc (length xs) + position_or_len p ys
      by_test true is more later = absurd (omega (arith, rw is at more))
      by_test false is more later = rw is (omega (arith, later (omega (arith, rw is at more))))

  module _ (xs ys : List X) where
    here : (i : ℕ) → position p xs ≡ Some i → (position_or_len p xs ≡ i) × (i < length xs)
    here i at_place = grind (arith, nat_tests)

    past : position p xs ≡ None → length xs ≤ position_or_len p xs
    past none = grind (arith, nat_tests)

    pub place_before : (i : ℕ) → position p xs ≡ Some i → Some i ≡ position p (xs ++ ys)
    place_before i at_place =
        let both = here i at_place in
        let first : position_or_len p (xs ++ ys) ≡ i = first_before xs ys (omega (arith, both.0, both.1)) ∙ both.0 in
        rw (first, lt-ltb i (length (xs ++ ys)) (omega (arith, both.1, length-append xs ys))) refl

    pub place_behind : (o : Option ℕ) → position p xs ≡ None → o ≡ position p ys → option_map (λ i. length xs + i) o ≡ position p (xs ++ ys)
    place_behind o none at_place = rw (at_place, first_behind xs ys (past none), length-append xs ys) (further (length xs) (position_or_len p ys) (length ys))
      where
        further : (n i m : ℕ) → option_map (λ j. n + j) (cond (nat_lt i m) (Some i) None) ≡ cond (nat_lt (n + i) (n + m)) (Some (n + i)) None
        further n i m = grind (arith, nat_tests)

-- ---- one is taken out

-- it was in the second part
pub taken_behind : (xs ys rest : List Listed) (n place : ℕ) (o : Option Listed) → n ≡ length xs → n ≤ place → IsSome o
    → IfSome o (λ x. x ≡ get_or ys (place - n) x) → OnSome o (rest ≡ remove ys (place - n)) → IsTaken (xs ++ ys) place o (xs ++ rest)
taken_behind xs ys rest n place None is past some value left = elim (false≢true some) [ ]
taken_behind xs ys rest n place (Some x) is past some value left = record {
  value = value ∙ sym (get_or-append_right xs ys n place x (sym is) past);
  rest_is = ap (λ (zs : List Listed). xs ++ zs) left ∙ sym (remove-append_right xs ys n place (sym is) past);
}

-- it was the last of the first part
pub taken_last : (list xs ys rest : List Listed) (place : ℕ) (o : Option Listed) → xs ++ ys ≡ list → length xs ≡ place + 1 → xs ≡ rest ++ option_to_list o
    → IsSome o → IsTaken list place o (rest ++ ys)
taken_last list xs ys rest place None both long is some = elim (false≢true some) [ ]
taken_last list xs ys rest place (Some x) both long is some = record {
  value = sym (ap (λ (n : ℕ). get_or list n x) at ∙ (ap (λ (zs : List Listed). get_or zs (length rest) x) whole ∙ get_or-append_seam rest x ys x));
  rest_is = sym (ap (λ (n : ℕ). remove list n) at ∙ (ap (λ (zs : List Listed). remove zs (length rest)) whole ∙ out));
}
  where
    at : place ≡ length rest
    at = omega (arith, long, ap (λ (zs : List Listed). length zs) is, length-append rest (x ∷ []))

    whole : list ≡ rest ++ x ∷ ys
    whole = sym both ∙ (ap (λ (zs : List Listed). zs ++ ys) is ∙ append_assoc rest (x ∷ []) ys)

    out : remove (rest ++ x ∷ ys) (length rest) ≡ rest ++ ys
    out =
        let none : length rest - length rest ≡ 0 = omega arith in
        remove-append_right rest (x ∷ ys) (length rest) (length rest) refl (omega arith) ∙ ap (λ (n : ℕ). rest ++ remove (x ∷ ys) n) none

-- there is room for the others
pub room_left : (xs ys xs2 ys2 : List Listed) (place front behind room front2 behind2 : ℕ) (o : Option Listed) → HasRoom xs ys front behind room
    → place < length (xs ++ ys) → IsTaken (xs ++ ys) place o (xs2 ++ ys2) → front2 ≡ front → behind2 ≡ behind → HasRoom xs2 ys2 front2 behind2 room
room_left xs ys xs2 ys2 place front behind room front2 behind2 o has inside taken same same2 = record {
  front_fits = omega (arith, has.front_fits, same);
  behind_fits = omega (arith, has.behind_fits, same2);
  enough = omega (
    arith,
    has.enough,
    length-append xs ys,
    length-append xs2 ys2,
    ap (λ (zs : List Listed). length zs) taken.rest_is,
    length-remove (xs ++ ys) place inside,
  );
}

-- ---- the first that passes is taken out

module _ (p : Listed → Bool) (list rest : List Listed) (place : ℕ) (o : Option Listed) (at_place : position p list ≡ Some place) where
  pub place_inside : place < length list
  place_inside = (here p list [] place at_place).1

  pub first_taken : IsSome o → IsTaken list place o rest → (o ≡ find p list) × (rest ≡ without_first p list)
  first_taken some taken = (
    first_found p list place (length list) o at_place refl ((λ there. place_inside), (λ inside. some)) taken.value,
    others_stay p list place (length list) o at_place refl ((λ there. place_inside), (λ inside. some)) rest (if_some o),
  )
    where
      if_some : (q : Option Listed) → OnSome q (rest ≡ remove list place)
      if_some None = tt
      if_some (Some x) = taken.rest_is
