-- The waits by their numbers, where one comes or goes: what is found and left, and what the numbers and the indexes say.
use Rattle.zl_rights.proofs.Common.{◌≡◌, ℕ, ◌+◌, ◌<◌, ◌≤◌, ◌^◌, Bool, true, false, ◌==◌, ◌&&◌, cond, Option, Some, None, List, [], slice_index}
use Rattle.zl_rights.proofs.Common.{ap, arith, cases_Bool, cases_lt, eq-eqb, eqb-true, false≢true, filter, find, if◌then◌else◌, inl, inr, length}
use Rattle.zl_rights.proofs.Common.{lt-ltb, nat_cmp, nat_tests, ne_eqb, none-some, not, option_map, refl, replicate, same_Some, sym, ◌∙◌, ◌⊎◌}
use Rattle.std.proofs.lemmas.Bool.{ltb-true}
use Rattle.std.proofs.lemmas.List.{get_or-replicate}
use Rattle.std.specs.BTreeMap.{is_at, values, IsLowerBound}
use Rattle.std.specs.Cmp.{unsigned_tied}
use Rattle.std.specs.Ordering.{is_gt}
use Rattle.std.specs.Map.{remove_entry, values_of}
use Rattle.zl_signals.specs.Firsts.{AreMoved, AreNoted, IsForOwn}
use Rattle.zl_signals.specs.Numbered.{AreBelow, AreFirsts, IsFirst, IsFirstFrom, NO_WAIT, Numbered, is_before, is_for}
use Rattle.zl_signals.specs.Numbered.{number_of, wait_by}
use Rattle.zl_signals.specs.Waits.{without_first}
use Rattle.zl_signals.specs.declared.watch.Watch.{Watch}
use Rattle.zl_signals.proofs.Entries.{fewer, none_filtered, none_out, Rise, some_passes, takes_out, TakesOut}

-- ---- what is found, and what is left

module _ (p : Watch → Bool) (m : Numbered) (rise : Rise m.entries) where
  -- the first that passes is taken out
  module _ (n : ℕ) (first : IsFirst p m (Some n)) where
    taken : (x : Watch) → wait_by m n ≡ Some x → TakesOut p n x m.entries
    taken x at = takes_out p n x m.entries rise (λ k y found less. first.0 k y found (omega arith) (lt-ltb k n less)) at passes
      where
        passes : p x ≡ true
        passes = same_Some (p x) true (ap (option_map p) (sym at) ∙ (first.1 n refl).1)

    pub found_first : wait_by m n ≡ find p (values m)
    found_first = let one = some_passes p (wait_by m n) (first.1 n refl).1 in one.1 ∙ sym (taken one.0 one.1).found

    pub goes_first : values_of (remove_entry (is_at (nat_cmp n)) m.entries) ≡ without_first p (values m)
    goes_first = let one = some_passes p (wait_by m n) (first.1 n refl).1 in (taken one.0 one.1).left

    pub fewer_left : length (without_first p (values m)) < length (values m)
    fewer_left = let one = some_passes p (wait_by m n) (first.1 n refl).1 in fewer p (values m) one.0 (taken one.0 one.1).found

  -- or none is
  module _ (none : IsFirst p m None) where
    pub none_found : find p (values m) ≡ None
    none_found = (none_out p m.entries rise (λ k y at. none.0 k y at (omega arith) refl)).0

    pub none_goes : values m ≡ without_first p (values m)
    none_goes = (none_out p m.entries rise (λ k y at. none.0 k y at (omega arith) refl)).1

-- the one with the least number is the first of all
pub earliest : (m : Numbered) (n : ℕ) (x : Watch) → wait_by m n ≡ Some x → IsLowerBound nat_cmp m n → IsFirst (λ y. true) m (Some n)
earliest m n x at least = (
  λ q y found high before. let up : is_gt (nat_cmp n q) ≡ false = least q (rw found refl) in absurd (grind (arith, nat_tests, ltb-true q n before, up)),
  λ k is. (omega arith, ap (λ j. option_map (λ (y : Watch). true) (wait_by m j)) (sym (same_Some n k is)) ∙ ap (option_map (λ (y : Watch). true)) at),
)

-- none passes
pub all_fail : (p : Watch → Bool) (m : Numbered) → Rise m.entries → ((n : ℕ) (x : Watch) → wait_by m n ≡ Some x → p x ≡ false)
    → values m ≡ filter (λ x. not (p x)) (values m)
all_fail p m rise fails = none_filtered p m.entries rise fails

-- ---- numbers

-- a number that was found is one
pub is_number : (m : Numbered) → AreBelow NO_WAIT m → (n : ℕ) (x : Watch) → wait_by m n ≡ Some x → number_of n ≡ Some n
is_number m below n x at = rw (ne_eqb n NO_WAIT (λ same. absurd (omega (arith, same, below n x at)))) refl

pub shown : (p : Watch → Bool) (m : Numbered) (from : ℕ) → AreBelow NO_WAIT m → (n : ℕ) → IsFirstFrom from p m (Some n) → IsFirstFrom from p m (number_of n)
shown p m from below n first = let one = some_passes p (wait_by m n) (first.1 n refl).1 in rw (is_number m below n one.0 one.1) first

number_is : (f n : ℕ) → number_of f ≡ Some n → f ≡ n
number_is f n is = by_test (f == NO_WAIT) is
  where
    by_test : (b : Bool) → (if b then None else Some f) ≡ Some n → f ≡ n
    by_test true none = absurd (none-some n none)
    by_test false same = same_Some f n same

-- the numbers are below any that isn't lower
pub lower : (m : Numbered) (made high : ℕ) → made ≤ high → AreBelow made m → AreBelow high m
lower m made high less below n x at = omega (arith, less, below n x at)

-- it is the first for signals of its wait only
pub for_own : (m : Numbered) → AreBelow NO_WAIT m → (number : ℕ) (x : Watch) (firsts : List ℕ) → wait_by m number ≡ Some x → AreFirsts firsts m
    → IsForOwn x.mask.0 number firsts
for_own m below number x firsts there are i inside here =
    let first : number_of (slice_index firsts i) ≡ Some number = ap number_of (eqb-true (slice_index firsts i) number here) ∙ is_number m below number x there in
    same_Some (is_for (2 ^ i) x) true (ap (option_map (is_for (2 ^ i))) (sym there) ∙ ((are i inside).1 number first).1)

-- ---- one goes

module _ (m m2 : Numbered) (number : ℕ) (same : (q : ℕ) → wait_by m2 q ≡ cond (is_at (nat_cmp number) q) None (wait_by m q)) where
  pub gone : wait_by m2 number ≡ None
  gone = same number ∙ rw (unsigned_tied number number, eq-eqb number number refl) refl

  pub others : (q : ℕ) → (number == q) ≡ false → wait_by m2 q ≡ wait_by m q
  others q apart = same q ∙ rw (unsigned_tied number q, apart) refl

  -- those that are left were there
  left : (q : ℕ) (y : Watch) → wait_by m2 q ≡ Some y → wait_by m q ≡ Some y
  left q y at = elim (cases_Bool (number == q)) [
    | inl here ↦ absurd (none-some y (sym gone ∙ (ap (wait_by m2) (eqb-true number q here) ∙ at)))
    | inr apart ↦ sym (others q apart) ∙ at
  ]

  pub taken_below : (made : ℕ) → AreBelow made m → AreBelow made m2
  taken_below made below n x at = below n x (left n x at)

  module _ (p : Watch → Bool) (f f2 : ℕ) (first : IsFirst p m (number_of f)) where
    moved_first : f ≡ number → number_of number ≡ Some number → IsFirstFrom number p m2 (number_of f2) → IsFirst p m2 (number_of f2)
    moved_first is some behind = (λ q y at high before. by_order q y at before (cases_lt q number), λ n found. (omega arith, (behind.1 n found).1))
      where
        by_order : (q : ℕ) (y : Watch) → wait_by m2 q ≡ Some y → is_before q (number_of f2) ≡ true → (q < number) ⊎ (number ≤ q) → p y ≡ false
        by_order q y at before (inl less) =
            first.0 q y (left q y at) (omega arith) (ap (λ n. is_before q (number_of n)) is ∙ (ap (is_before q) some ∙ lt-ltb q number less))
        by_order q y at before (inr high) = behind.0 q y at high before

    kept_first : (f == number) ≡ false → IsFirst p m2 (number_of f)
    kept_first apart = (
      λ q y at high before. first.0 q y (left q y at) high before,
      λ n found. (
        omega arith,
        ap (option_map p) (others n (ne_eqb number n (λ is. absurd (false≢true (sym apart ∙ eq-eqb f number (number_is f n found ∙ sym is))))))
            ∙ (first.1 n found).1,
      ),
    )

  pub taken_firsts : (firsts firsts2 : List ℕ) → number_of number ≡ Some number → AreMoved m2 number firsts firsts2 → AreFirsts firsts m → AreFirsts firsts2 m2
  taken_firsts firsts firsts2 some moved are i inside = by_test (f == number) refl
    where
      f : ℕ
      f = slice_index firsts i

      by_test : (b : Bool) → (f == number) ≡ b → IsFirst (is_for (2 ^ i)) m2 (number_of (slice_index firsts2 i))
      by_test true here =
          moved_first (is_for (2 ^ i)) f (slice_index firsts2 i) (are i inside) (eqb-true f number here) some ((moved i inside).0 here)
      by_test false apart = rw ((moved i inside).1 apart) (kept_first (is_for (2 ^ i)) f (slice_index firsts2 i) (are i inside) apart)

-- ---- one comes

-- nothing stands at a number that none has yet
pub absent : (m : Numbered) (number : ℕ) → AreBelow number m → wait_by m number ≡ None
absent m number below = by_case (wait_by m number) refl
  where
    by_case : (o : Option Watch) → wait_by m number ≡ o → o ≡ None
    by_case None is = refl
    by_case (Some y) is = absurd (omega (arith, below number y is))

module _ (m m2 : Numbered) (number : ℕ) (x : Watch) (same : (q : ℕ) → wait_by m2 q ≡ cond (is_at (nat_cmp number) q) (Some x) (wait_by m q))
    (below : AreBelow number m) where
  pub own : wait_by m2 number ≡ Some x
  own = same number ∙ rw (unsigned_tied number number, eq-eqb number number refl) refl

  pub as_before : (q : ℕ) → (number == q) ≡ false → wait_by m2 q ≡ wait_by m q
  as_before q apart = same q ∙ rw (unsigned_tied number q, apart) refl

  -- it is the new one, or was there
  came : (q : ℕ) (y : Watch) → wait_by m2 q ≡ Some y → ((number ≡ q) × (x ≡ y)) ⊎ (wait_by m q ≡ Some y)
  came q y at = elim (cases_Bool (number == q)) [
    | inl here ↦ let is : number ≡ q = eqb-true number q here in inl (is, same_Some x y (sym own ∙ (ap (wait_by m2) is ∙ at)))
    | inr apart ↦ inr (sym (as_before q apart) ∙ at)
  ]

  still : (q : ℕ) (y : Watch) → wait_by m q ≡ Some y → wait_by m2 q ≡ Some y
  still q y at = as_before q (ne_eqb number q (λ is. absurd (omega (arith, is, below q y at)))) ∙ at

  pub pushed_below : AreBelow (number + 1) m2
  pushed_below n y at = elim (came n y at) [ inl new ↦ omega (arith, new.0) | inr old ↦ omega (arith, below n y old) ]

  module _ (p : Watch → Bool) where
    none_yet : IsFirst p m None → p x ≡ false → IsFirst p m2 None
    none_yet first fails = (
      λ q y at high before. elim (came q y at) [ inl new ↦ ap p (sym new.1) ∙ fails | inr old ↦ first.0 q y old high before ],
      λ n none. absurd (none-some n none),
    )

    it_first : IsFirst p m None → p x ≡ true → IsFirst p m2 (Some number)
    it_first first passes = (
      λ q y at high before. elim (came q y at) [
        | inl new ↦ absurd (omega (arith, new.0, ltb-true q number before))
        | inr old ↦ first.0 q y old high refl
      ],
      λ n is. (omega arith, ap (λ k. option_map p (wait_by m2 k)) (sym (same_Some number n is)) ∙ (ap (option_map p) own ∙ ap Some passes)),
    )

    behind_first : (f : ℕ) → IsFirst p m (Some f) → IsFirst p m2 (Some f)
    behind_first f first =
        let one = some_passes p (wait_by m f) (first.1 f refl).1 in (
          λ q y at high before. elim (came q y at) [
            | inl new ↦ absurd (omega (arith, new.0, ltb-true q f before, below f one.0 one.1))
            | inr old ↦ first.0 q y old high before
          ],
          λ n is. (omega arith, ap (λ k. option_map p (wait_by m2 k)) (sym (same_Some f n is)) ∙ (ap (option_map p) (still f one.0 one.1) ∙ ap Some one.2)),
        )

    noted_first : (f : ℕ) → number_of number ≡ Some number → IsFirst p m (number_of f) → IsFirst p m2 (number_of (if (f == NO_WAIT) && p x then number else f))
    noted_first f some first = by_test (f == NO_WAIT) refl (p x) refl
      where
        by_test : (b : Bool) → (f == NO_WAIT) ≡ b → (d : Bool) → p x ≡ d → IsFirst p m2 (number_of (if b && d then number else f))
        by_test true none true passes = rw some (it_first (rw none at first) passes)
        by_test true none false fails = rw none (none_yet (rw none at first) fails)
        by_test false there d is = rw there (behind_first f (rw there at first))

  pub pushed_firsts : (firsts firsts2 : List ℕ) → number_of number ≡ Some number → AreNoted x.mask.0 number firsts firsts2 → AreFirsts firsts m
      → AreFirsts firsts2 m2
  pushed_firsts firsts firsts2 some are_noted are i inside =
      rw (are_noted i inside) (noted_first (is_for (2 ^ i)) (slice_index firsts i) some (are i inside))

-- ---- no waits

module _ (m : Numbered) (none : m.entries ≡ []) where
  pub nothing_at : (n : ℕ) → wait_by m n ≡ None
  nothing_at n = rw none refl

  absent_at : (n : ℕ) (x : Watch) → wait_by m n ≡ Some x → ⊥
  absent_at n x at = none-some x (sym (nothing_at n) ∙ at)

  pub empty_below : AreBelow 0 m
  empty_below n x at = absurd (absent_at n x at)

  pub empty_firsts : AreFirsts (replicate 32 NO_WAIT) m
  empty_firsts i inside = rw (get_or-replicate 32 i NO_WAIT 0 inside) ((λ n x at high before. absurd (absent_at n x at)), (λ n is. absurd (none-some n is)))
