-- Entries in the order of their numbers, and their values: what is found among them, and what is left.
use Rattle.zl_rights.proofs.Common.{◌≡◌, ℕ, ◌+◌, ◌<◌, ◌≤◌, Bool, true, false, not, List, [], ◌∷◌, ◌++◌, drop, take, filter, cond, Option, Some, None}
use Rattle.zl_rights.proofs.Common.{ap, arith, cases_Bool, eq-eqb, eqb-true, find, inl, inr, length, nat_cmp, nat_tests, ne_eqb, none-some, refl, same_Some}
use Rattle.zl_rights.proofs.Common.{slice_get, subst, suc, sym}
use Rattle.zl_rights.proofs.Common.{option_map, ◌∙◌, ◌⊎◌}
use Rattle.std.proofs.lemmas.Map.Keys.{sorted_head, sorted_tail}
use Rattle.std.specs.BTreeMap.{insert_entry, is_at}
use Rattle.std.specs.BTreeMap.Range.{entries_between, range_contains}
use Rattle.std.specs.Cmp.{unsigned_tied}
use Rattle.std.specs.List.{AllByRecursion, position_or_len}
use Rattle.std.specs.List.Sorted.{IsStrictlySortedBy}
use Rattle.std.specs.Map.{keys_of, lookup, remove_entry, values_of}
use Rattle.std.specs.declared.cmp.Ordering.TheVariants.{Less}
use Rattle.std.specs.declared.ops.Bound.TheVariants.{Included, Unbounded}
use Rattle.std.proofs.lemmas.Bool.{ltb-true}
use Rattle.zl_signals.specs.Numbered.{is_before}
use Rattle.zl_signals.specs.Waits.{without_first}

apart : (n k : ℕ) → k < n → is_at (nat_cmp n) k ≡ false
apart n k less = unsigned_tied n k ∙ ne_eqb n k (λ same. absurd (omega (arith, same, less)))

module _ {X : Type 0} where
  -- the value at the number n
  abbrev pub value_at : List (ℕ × X) → ℕ → Option X
  value_at es n = lookup (is_at (nat_cmp n)) es

  -- the numbers rise
  abbrev pub Rise : List (ℕ × X) → Type 0
  Rise es = IsStrictlySortedBy nat_cmp (keys_of es)

  -- ---- by numbers

  number_in : (P : ℕ → Type 0) (es : List (ℕ × X)) (n : ℕ) (x : X) → AllByRecursion P (keys_of es) → value_at es n ≡ Some x → P n
  number_in P [] n x all found = absurd (none-some x found)
  number_in P (e ∷ es) n x all found = by_test (is_at (nat_cmp n) e.0) refl found (number_in P es n x all.1)
    where
      by_test : (b : Bool) → is_at (nat_cmp n) e.0 ≡ b → cond b (Some e.1) (value_at es n) ≡ Some x → (value_at es n ≡ Some x → P n) → P n
      by_test true same one behind = subst P (sym (eqb-true n e.0 (sym (unsigned_tied n e.0) ∙ same))) all.0
      by_test false other rest behind = behind rest

  -- later numbers are higher
  pub higher : (e : ℕ × X) (es : List (ℕ × X)) (n : ℕ) (x : X) → Rise (e ∷ es) → value_at es n ≡ Some x → e.0 < n
  higher e es n x rise found =
      let less : nat_cmp e.0 n ≡ Less = number_in (λ k. nat_cmp e.0 k ≡ Less) es n x (sorted_head nat_cmp e.0 (keys_of es) rise) found in
      grind (arith, nat_tests, less)

  -- what is found later is found
  pub found_too : (e : ℕ × X) (es : List (ℕ × X)) (n : ℕ) (x : X) → Rise (e ∷ es) → value_at es n ≡ Some x → value_at (e ∷ es) n ≡ Some x
  found_too e es n x rise found = rw (apart n e.0 (higher e es n x rise found)) found

  found_here : (e : ℕ × X) (es : List (ℕ × X)) → value_at (e ∷ es) e.0 ≡ Some e.1
  found_here e es = rw (unsigned_tied e.0 e.0, eq-eqb e.0 e.0 refl) refl

  -- ---- the first that passes

  cut_later : (n : ℕ) (x : X) (xs : List X) → take (1 + n) (x ∷ xs) ++ drop (1 + n + 1) (x ∷ xs) ≡ x ∷ (take n xs ++ drop (n + 1) xs)
  cut_later n x xs =
      let one : 1 + n ≡ suc n = omega arith in
      let two : ◌≡◌ {A = ℕ} (1 + n + 1) (suc (n + 1)) = omega arith in
      λ i. take (one i) (x ∷ xs) ++ drop (two i) (x ∷ xs)

  pub first_out : (p : X → Bool) (x : X) (xs : List X) → without_first p (x ∷ xs) ≡ cond (p x) xs (x ∷ without_first p xs)
  first_out p x xs = elim (cases_Bool (p x)) as (λ _. without_first p (x ∷ xs) ≡ cond (p x) xs (x ∷ without_first p xs)) [
    | inl here ↦ rw here refl
    | inr other ↦ rw other (cut_later (position_or_len p xs) x xs)
  ]

  -- this is what is found first, and what is left is all but that
  pub record TakesOut (p : X → Bool) (n : ℕ) (x : X) (es : List (ℕ × X)) : Type 0 where
    pub found : find p (values_of es) ≡ Some x
    pub left : values_of (remove_entry (is_at (nat_cmp n)) es) ≡ without_first p (values_of es)

  module _ (p : X → Bool) where
    pub takes_out : (n : ℕ) (x : X) (es : List (ℕ × X)) → Rise es → ((k : ℕ) (y : X) → value_at es k ≡ Some y → k < n → p y ≡ false)
        → value_at es n ≡ Some x → p x ≡ true → TakesOut p n x es
    takes_out n x [] rise before found passes = absurd (none-some x found)
    takes_out n x (e ∷ es) rise before found passes =
        by_test (is_at (nat_cmp n) e.0) refl found (takes_out n x es (sorted_tail nat_cmp e.0 (keys_of es) rise)
        (λ k y at less. before k y (found_too e es k y rise at) less))
      where
        by_test : (b : Bool) → is_at (nat_cmp n) e.0 ≡ b → cond b (Some e.1) (value_at es n) ≡ Some x
            → (value_at es n ≡ Some x → p x ≡ true → TakesOut p n x es) → TakesOut p n x (e ∷ es)
        by_test true its same later =
            let own : p e.1 ≡ true = ap p (same_Some e.1 x same) ∙ passes in
            record { found = rw own same; left = rw its (sym (first_out p e.1 (values_of es) ∙ rw own refl)) }
        by_test false other rest later =
            let fails : p e.1 ≡ false = before e.0 e.1 (found_here e es) (higher e es n x rise rest) in
            let out : TakesOut p n x es = later rest passes in
            record {
              found = rw fails out.found;
              left = rw other (ap (λ (xs : List X). e.1 ∷ xs) out.left ∙ sym (first_out p e.1 (values_of es) ∙ rw fails refl));
            }

    -- nothing is found, and all is left
    pub none_out : (es : List (ℕ × X)) → Rise es → ((k : ℕ) (y : X) → value_at es k ≡ Some y → p y ≡ false)
        → (find p (values_of es) ≡ None) × (values_of es ≡ without_first p (values_of es))
    none_out [] rise none = (refl, refl)
    none_out (e ∷ es) rise none =
        let fails : p e.1 ≡ false = none e.0 e.1 (found_here e es) in
        let later : (find p (values_of es) ≡ None) × (values_of es ≡ without_first p (values_of es)) = none_out es (sorted_tail nat_cmp e.0 (keys_of es) rise)
        (λ k y at. none k y (found_too e es k y rise at)) in
        (rw fails later.0, ap (λ (xs : List X). e.1 ∷ xs) later.1 ∙ sym (first_out p e.1 (values_of es) ∙ rw fails refl))

    -- nothing is filtered out
    pub none_filtered : (es : List (ℕ × X)) → Rise es → ((k : ℕ) (y : X) → value_at es k ≡ Some y → p y ≡ false)
        → values_of es ≡ filter (λ x. not (p x)) (values_of es)
    none_filtered [] rise none = refl
    none_filtered (e ∷ es) rise none =
        let fails : p e.1 ≡ false = none e.0 e.1 (found_here e es) in
        let rest : values_of es ≡ filter (λ x. not (p x)) (values_of es) = none_filtered es (sorted_tail nat_cmp e.0 (keys_of es) rise)
        (λ k y at. none k y (found_too e es k y rise at)) in
        rw fails (ap (λ (xs : List X). e.1 ∷ xs) rest)

    -- what passes is filtered out, so that the first may go before
    pub filtered_out : (xs : List X) → filter (λ x. not (p x)) (without_first p xs) ≡ filter (λ x. not (p x)) xs
    filtered_out [] = refl
    filtered_out (x ∷ xs) = ap (λ (ys : List X). filter (λ y. not (p y)) ys) (first_out p x xs) ∙ by_test (p x) refl (filtered_out xs)
      where
        by_test : (b : Bool) → p x ≡ b → filter (λ y. not (p y)) (without_first p xs) ≡ filter (λ y. not (p y)) xs
            → filter (λ y. not (p y)) (cond b xs (x ∷ without_first p xs)) ≡ cond (not b) (x ∷ filter (λ y. not (p y)) xs) (filter (λ y. not (p y)) xs)
        by_test true passes rest = refl
        by_test false fails rest =
            ap (λ b. cond (not b) (x ∷ filter (λ y. not (p y)) (without_first p xs)) (filter (λ y. not (p y)) (without_first p xs))) fails
            ∙ ap (λ (ys : List X). x ∷ ys) rest

    -- fewer are left, where one is found
    pub fewer : (xs : List X) (x : X) → find p xs ≡ Some x → length (without_first p xs) < length xs
    fewer [] x found = absurd (none-some x found)
    fewer (y ∷ xs) x found = by_test (p y) refl found (fewer xs x)
      where
        by_test : (b : Bool) → p y ≡ b → cond b (Some y) (find p xs) ≡ Some x → (find p xs ≡ Some x → length (without_first p xs) < length xs)
            → length (without_first p (y ∷ xs)) < length (y ∷ xs)
        by_test true passes its later = let rest : without_first p (y ∷ xs) ≡ xs = first_out p y xs ∙ rw passes refl in rw rest (omega arith)
        by_test false fails other later =
            let rest : without_first p (y ∷ xs) ≡ y ∷ without_first p xs = first_out p y xs ∙ rw fails refl in rw rest (omega (arith, later other))

  -- ---- any

  pub any_found : (xs : List X) → find (λ x. true) xs ≡ slice_get xs 0
  any_found [] = refl
  any_found (x ∷ xs) = refl

  pub any_goes : (xs : List X) → without_first (λ x. true) xs ≡ drop 1 xs
  any_goes [] = refl
  any_goes (x ∷ xs) = first_out (λ x. true) x xs

  -- ---- one more comes last

  pub comes_last : (n : ℕ) (x : X) (es : List (ℕ × X)) → Rise es → ((k : ℕ) (y : X) → value_at es k ≡ Some y → k < n)
      → values_of (insert_entry nat_cmp es n x) ≡ values_of es ++ x ∷ []
  comes_last n x [] rise below = refl
  comes_last n x (e ∷ es) rise below =
      let less : e.0 < n = below e.0 e.1 (found_here e es) in
      let rest : values_of (insert_entry nat_cmp es n x) ≡ values_of es ++ x ∷ [] = comes_last n x es (sorted_tail nat_cmp e.0 (keys_of es) rise)
      (λ k y at. below k y (found_too e es k y rise at)) in
      grind (arith, nat_tests, less, rest)

  -- ---- the first from a number on

  -- from the number `from` on, this is the number of the first entry whose value passes, if one does
  abbrev pub IsFirstIn : ℕ → (X → Bool) → List (ℕ × X) → Option ℕ → Type 0
  IsFirstIn from p es o =
      ((n : ℕ) (x : X) → value_at es n ≡ Some x → from ≤ n → is_before n o ≡ true → p x ≡ false)
      × ((n : ℕ) → o ≡ Some n → (from ≤ n) × (option_map p (value_at es n) ≡ Some true))

  split : (e : ℕ × X) (es : List (ℕ × X)) (n : ℕ) (y : X) → value_at (e ∷ es) n ≡ Some y → ((n ≡ e.0) × (e.1 ≡ y)) ⊎ (value_at es n ≡ Some y)
  split e es n y found = by_test (is_at (nat_cmp n) e.0) refl found
    where
      by_test : (b : Bool) → is_at (nat_cmp n) e.0 ≡ b → cond b (Some e.1) (value_at es n) ≡ Some y → ((n ≡ e.0) × (e.1 ≡ y)) ⊎ (value_at es n ≡ Some y)
      by_test true its same = inl (eqb-true n e.0 (sym (unsigned_tied n e.0) ∙ its), same_Some e.1 y same)
      by_test false other rest = inr rest

  pub some_passes : (p : X → Bool) (o : Option X) → option_map p o ≡ Some true → (x : X) × (o ≡ Some x) × (p x ≡ true)
  some_passes p None is = absurd (none-some true is)
  some_passes p (Some x) is = (x, refl, same_Some (p x) true is)

  module _ (from : ℕ) (p : X → Bool) where
    here : (e : ℕ × X) (es : List (ℕ × X)) → Rise (e ∷ es) → from ≤ e.0 → p e.1 ≡ true → IsFirstIn from p (e ∷ es) (Some e.0)
    here e es rise high passes = (λ n y found above before. before_it n y (ltb-true n e.0 before) (split e es n y found), own)
      where
        before_it : (n : ℕ) (y : X) → n < e.0 → ((n ≡ e.0) × (e.1 ≡ y)) ⊎ (value_at es n ≡ Some y) → p y ≡ false
        before_it n y less (inl same) = absurd (omega (arith, less, same.0))
        before_it n y less (inr later) = absurd (omega (arith, less, higher e es n y rise later))

        own : (n : ℕ) → Some e.0 ≡ Some n → (from ≤ n) × (option_map p (value_at (e ∷ es) n) ≡ Some true)
        own n is = subst (λ (k : ℕ). (from ≤ k) × (option_map p (value_at (e ∷ es) k) ≡ Some true)) (same_Some e.0 n is)
            (high, rw (found_here e es) (ap Some passes))

    later : (e : ℕ × X) (es : List (ℕ × X)) (o : Option ℕ) → Rise (e ∷ es) → (from ≤ e.0 → p e.1 ≡ false) → IsFirstIn from p es o
        → IsFirstIn from p (e ∷ es) o
    later e es o rise fails first = (λ n y found above before. before_it n y above before (split e es n y found), there)
      where
        before_it : (n : ℕ) (y : X) → from ≤ n → is_before n o ≡ true → ((n ≡ e.0) × (e.1 ≡ y)) ⊎ (value_at es n ≡ Some y) → p y ≡ false
        before_it n y above before (inl same) = ap p (sym same.1) ∙ fails (omega (arith, above, same.0))
        before_it n y above before (inr rest) = first.0 n y rest above before

        there : (n : ℕ) → o ≡ Some n → (from ≤ n) × (option_map p (value_at (e ∷ es) n) ≡ Some true)
        there n is =
            let one = some_passes p (value_at es n) (first.1 n is).1 in
            ((first.1 n is).0, rw (found_too e es n one.0 rise one.1) (ap Some one.2))

    pub first_in : (es : List (ℕ × X)) → Rise es → (o : Option (ℕ × X)) → o ≡ find (λ e. p e.1) (entries_between nat_cmp (Included from) Unbounded es)
        → IsFirstIn from p es (option_map (λ e. e.0) o)
    first_in [] rise o is = rw is ((λ n y found above before. absurd (none-some y found)), (λ n none. absurd (none-some n none)))
    first_in (e ∷ es) rise o is =
        by_tests (range_contains nat_cmp (Included from) Unbounded e.0) refl (p e.1) refl is (first_in es (sorted_tail nat_cmp e.0 (keys_of es) rise) o)
      where
        within : range_contains nat_cmp (Included from) Unbounded e.0 ≡ true → from ≤ e.0
        within inside = grind (arith, nat_tests, inside)

        out : range_contains nat_cmp (Included from) Unbounded e.0 ≡ false → from ≤ e.0 → ⊥
        out outside high = grind (arith, nat_tests, outside, high)

        rest : List (ℕ × X)
        rest = entries_between nat_cmp (Included from) Unbounded es

        by_tests : (b : Bool) → range_contains nat_cmp (Included from) Unbounded e.0 ≡ b → (d : Bool) → p e.1 ≡ d
            → o ≡ find (λ x. p x.1) (cond b (e ∷ rest) rest) → (o ≡ find (λ x. p x.1) rest → IsFirstIn from p es (option_map (λ x. x.0) o))
            → IsFirstIn from p (e ∷ es) (option_map (λ x. x.0) o)
        by_tests false outside d test same behind = later e es _ rise (λ high. absurd (out outside high)) (behind same)
        by_tests true inside true passes same behind =
            let its : o ≡ Some e = same ∙ rw passes refl in rw its (here e es rise (within inside) passes)
        by_tests true inside false fails same behind = later e es _ rise (λ high. fails) (behind (same ∙ rw fails refl))
