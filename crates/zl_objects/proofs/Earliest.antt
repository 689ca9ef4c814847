-- The earliest registered wait that holds is found from the objects at which one may.
use Rattle.zl_objects.proofs.Common.{AreListed, Bool, IfSome, IsTrue, List, Listed, Map, None, NoneHolds, Object, Option, Some, Watch, [], ap, arith}
use Rattle.zl_objects.proofs.Common.{cases_Bool, earlier, earliest_from, eq-eqb, eqb-true, false, false≢true, find, get, holds_now, if◌then◌else◌, inl, inr}
use Rattle.zl_objects.proofs.Common.{is_entry_due, list_any, listed_at, listed_value, map, nat_le, nat_tests, none-some, option_map, order_at, order_found}
use Rattle.zl_objects.proofs.Common.{refl, same_Some, signals_at, sym, take, true, waits_in, watch_holds, ℕ, ◌&&◌, ◌==◌, ◌||◌, ◌∙◌, ◌∷◌, ◌≡◌, ◌≤◌}
use Rattle.zl_rights.specs.World.{Wait}
use Rattle.zl_objects.proofs.Listed.{found_listed}
use Rattle.zl_objects.proofs.Lists.{any_taken, find_map}
use Rattle.zl_objects.proofs.Rising.{Rises, earliest_of_both, first_of_both, none_of_both}

-- ---- the lower order of two

module _ (k : ℕ) where
  earlier_none : (first : Option (ℕ × ℕ)) (o : Option ℕ) → earlier first o k ≡ None → (first ≡ None) × (o ≡ None)
  earlier_none None None is = (refl, refl)
  earlier_none None (Some order) is = absurd (none-some (order, k) (sym is))
  earlier_none (Some first) None is = absurd (none-some first (sym is))
  earlier_none (Some first) (Some order) is = by_test (nat_le first.0 order) is
    where
      by_test : (b : Bool) → (if b then Some first else Some (order, k)) ≡ None → (Some first ≡ None) × (Some order ≡ None)
      by_test true h = absurd (none-some first (sym h))
      by_test false h = absurd (none-some (order, k) (sym h))

  -- it isn't above either
  earlier_least : (first : Option (ℕ × ℕ)) (o : Option ℕ) (low : ℕ) → ((f : ℕ × ℕ) → earlier first o k ≡ Some f → low ≤ f.0)
      → ((f : ℕ × ℕ) → first ≡ Some f → low ≤ f.0) × ((order : ℕ) → o ≡ Some order → low ≤ order)
  earlier_least None None low bound = (λ f is. absurd (none-some f is), λ order is. absurd (none-some order is))
  earlier_least None (Some order) low bound =
      (λ f is. absurd (none-some f is), λ other is. let same : order ≡ other = same_Some order other is in omega (arith, same, bound (order, k) refl))
  earlier_least (Some first) None low bound = (bound, λ order is. absurd (none-some order is))
  earlier_least (Some first) (Some order) low bound = by_test (nat_le first.0 order) refl bound
    where
      both : low ≤ first.0 → low ≤ order → ((f : ℕ × ℕ) → Some first ≡ Some f → low ≤ f.0) × ((other : ℕ) → Some order ≡ Some other → low ≤ other)
      both one two = (
        λ f is. let same : first.0 ≡ f.0 = ap (λ (x : ℕ × ℕ). x.0) (same_Some first f is) in omega (arith, same, one),
        λ other is. let same : order ≡ other = same_Some order other is in omega (arith, same, two),
      )

      by_test : (b : Bool) → nat_le first.0 order ≡ b → ((f : ℕ × ℕ) → (if b then Some first else Some (order, k)) ≡ Some f → low ≤ f.0)
          → ((f : ℕ × ℕ) → Some first ≡ Some f → low ≤ f.0) × ((other : ℕ) → Some order ≡ Some other → low ≤ other)
      by_test true is bound2 = let here : low ≤ first.0 = bound2 first refl in both here (grind (arith, nat_tests, is, here))
      by_test false is bound2 = let here : low ≤ order = bound2 (order, k) refl in both (grind (arith, nat_tests, is, here)) here

-- ---- the least order among some objects

module _ (next : ℕ → Option ℕ) where
  -- each order is that of its object
  abbrev AreOwn : Option (ℕ × ℕ) → Type 0
  AreOwn first = (f : ℕ × ℕ) → first ≡ Some f → next f.1 ≡ Some f.0

  earlier_own : (k : ℕ) (first : Option (ℕ × ℕ)) (o : Option ℕ) → next k ≡ o → AreOwn first → AreOwn (earlier first o k)
  earlier_own k None None here own = own
  earlier_own k (Some first) None here own = own
  earlier_own k None (Some order) here own = λ f is.
      let same : (order, k) ≡ f = same_Some (order, k) f is in
      ap (λ (x : ℕ × ℕ). next x.1) (sym same) ∙ (here ∙ ap (λ (x : ℕ × ℕ). Some x.0) same)
  earlier_own k (Some first) (Some order) here own = λ f is. by_test (nat_le first.0 order) f is
    where
      by_test : (b : Bool) (f : ℕ × ℕ) → (if b then Some first else Some (order, k)) ≡ Some f → next f.1 ≡ Some f.0
      by_test true f is = own f is
      by_test false f is =
          let same : (order, k) ≡ f = same_Some (order, k) f is in
          ap (λ (x : ℕ × ℕ). next x.1) (sym same) ∙ (here ∙ ap (λ (x : ℕ × ℕ). Some x.0) same)

  -- the order is that of the object found, and none is lower of what was found before and of these objects
  record IsLeast (first : Option (ℕ × ℕ)) (ks : List ℕ) (e : ℕ × ℕ) : Type 0 where
    its_own : next e.1 ≡ Some e.0
    so_far : (f : ℕ × ℕ) → first ≡ Some f → e.0 ≤ f.0
    least : (j order : ℕ) → IsTrue (list_any (λ i. i == j) ks) → next j ≡ Some order → e.0 ≤ order

  -- or no wait holds
  abbrev Outcome : Option (ℕ × ℕ) → List ℕ → Option (ℕ × ℕ) → Type 0
  Outcome first ks None = (first ≡ None) × ((j : ℕ) → IsTrue (list_any (λ i. i == j) ks) → next j ≡ None)
  Outcome first ks (Some e) = IsLeast first ks e

  one_more : (k : ℕ) (ks : List ℕ) (first r : Option (ℕ × ℕ)) → Outcome (earlier first (next k) k) ks r → Outcome first (k ∷ ks) r
  one_more k ks first None out =
      let none = earlier_none k first (next k) out.0 in
      (none.0, λ j among. by_key j (k == j) refl among none.1)
    where
      by_key : (j : ℕ) (b : Bool) → (k == j) ≡ b → IsTrue (b || list_any (λ i. i == j) ks) → next k ≡ None → next j ≡ None
      by_key j true here among none = ap next (sym (eqb-true k j here)) ∙ none
      by_key j false apart among none = out.1 j among
  one_more k ks first (Some e) out =
      let bounds = earlier_least k first (next k) e.0 out.so_far in
      record { its_own = out.its_own; so_far = bounds.0; least = λ j order among is. by_key j order (k == j) refl among is bounds.1 }
    where
      by_key : (j order : ℕ) (b : Bool) → (k == j) ≡ b → IsTrue (b || list_any (λ i. i == j) ks) → next j ≡ Some order
          → ((other : ℕ) → next k ≡ Some other → e.0 ≤ other) → e.0 ≤ order
      by_key j order true here among is bound = bound order (ap next (eqb-true k j here) ∙ is)
      by_key j order false apart among is bound = out.least j order among is

  found_from : (ks : List ℕ) (first : Option (ℕ × ℕ)) → AreOwn first → Outcome first ks (earliest_from next first ks)
  found_from [] None own = (refl, λ j among. absurd (false≢true among))
  found_from [] (Some e) own = record {
    its_own = own e refl;
    so_far = λ f is. let same : e.0 ≡ f.0 = ap (λ (x : ℕ × ℕ). x.0) (same_Some e f is) in omega (arith, same);
    least = λ j order among. absurd (false≢true among);
  }
  found_from (k ∷ ks) first own =
      one_more k ks first (earliest_from next (earlier first (next k) k) ks) (found_from ks (earlier first (next k) k) (earlier_own k first (next k) refl own))

-- ---- the earliest wait of all

-- its object, as the world's waits tell it
pub due_seen : (m : Map Object) (list : List Listed) → option_map (λ (x : Wait). x.object) (find (holds_now m) (map listed_value list))
    ≡ option_map (λ (x : Listed). x.wait.object) (find (is_entry_due m) list)
due_seen m list = ap (option_map (λ (x : Wait). x.object)) (find_map listed_value (holds_now m) list) ∙ twice (find (is_entry_due m) list)
  where
    twice : (o : Option Listed) → option_map (λ (x : Wait). x.object) (option_map listed_value o) ≡ option_map (λ (x : Listed). x.wait.object) o
    twice None = refl
    twice (Some x) = refl

-- none holds before its place
pub before_seen : (m : Map Object) (list : List Listed) (r : Option (ℕ × ℕ)) → IfSome r (λ due. list_any (is_entry_due m) (take due.0 list) ≡ false)
    → IfSome r (λ due. list_any (holds_now m) (take due.0 (map listed_value list)) ≡ false)
before_seen m list None before = tt
before_seen m list (Some due) before = any_taken (holds_now m) listed_value due.0 list ∙ before

module _ (m : Map Object) (list : List Listed) (rising : Rises list) (listed : AreListed list m) where
  abbrev is_due : Listed → Bool
  is_due = is_entry_due m

  abbrev is_due_at : ℕ → Listed → Bool
  is_due_at k x = (x.wait.object == k) && is_due x

  -- at each object it is the earliest of the list that holds there
  at_object : (k : ℕ) → order_at m k ≡ option_map (λ (x : Listed). x.order) (find (is_due_at k) list)
  at_object k = by_object (get m k) ∙ sym (ap (option_map (λ (x : Listed). x.order)) (found_listed k is_due list m listed))
    where
      twice : (o : Option Watch) → option_map (λ (x : Watch). x.order) o ≡ option_map (λ (x : Listed). x.order) (option_map (listed_at k) o)
      twice None = refl
      twice (Some x) = refl

      by_object : (q : Option Object) → order_found (signals_at m k) q
          ≡ option_map (λ (x : Listed). x.order) (option_map (listed_at k) (find (λ x. is_due (listed_at k x)) (waits_in q)))
      by_object None = refl
      by_object (Some o) = twice (find (watch_holds (signals_at m k)) o.signals.waits)

  none_due : ((k : ℕ) → order_at m k ≡ None) → find is_due list ≡ None
  none_due none = by_found (find is_due list) refl
    where
      by_found : (o : Option Listed) → find is_due list ≡ o → o ≡ None
      by_found None is = refl
      by_found (Some x) is =
          let here : find (is_due_at x.wait.object) list ≡ Some x =
          first_of_both is_due (λ y. y.wait.object == x.wait.object) list x is (eq-eqb x.wait.object x.wait.object refl) in
          absurd (none-some x.order (sym (none x.wait.object) ∙ (at_object x.wait.object ∙ ap (option_map (λ (y : Listed). y.order)) here)))

  first_due : (e : ℕ × ℕ) → order_at m e.1 ≡ Some e.0 → ((k order : ℕ) → order_at m k ≡ Some order → e.0 ≤ order)
      → option_map (λ (x : Listed). x.wait.object) (find is_due list) ≡ Some e.1
  first_due e own least = by_found (find is_due list) refl (find (is_due_at e.1) list) refl
    where
      there : (o : Option Listed) → find (is_due_at e.1) list ≡ o → Some e.0 ≡ option_map (λ (x : Listed). x.order) o
      there o is = sym own ∙ (at_object e.1 ∙ ap (option_map (λ (x : Listed). x.order)) is)

      by_found : (o : Option Listed) → find is_due list ≡ o → (q : Option Listed) → find (is_due_at e.1) list ≡ q
          → option_map (λ (x : Listed). x.wait.object) o ≡ Some e.1
      by_found o is None none = absurd (none-some e.0 (sym (there None none)))
      by_found None none (Some y) is = absurd (none-some y (sym (none_of_both is_due (λ x. x.wait.object == e.1) list none) ∙ is))
      by_found (Some x) is (Some y) is2 =
          let here : find (is_due_at x.wait.object) list ≡ Some x =
          first_of_both is_due (λ z. z.wait.object == x.wait.object) list x is (eq-eqb x.wait.object x.wait.object refl) in
          let low : e.0 ≤ x.order = least x.wait.object x.order (at_object x.wait.object ∙ ap (option_map (λ (z : Listed). z.order)) here) in
          let order : e.0 ≡ y.order = same_Some e.0 y.order (there (Some y) is2) in
          let one = earliest_of_both is_due (λ z. z.wait.object == e.1) list x y rising is is2 (omega (arith, low, order)) in
          ap (λ (z : Listed). Some z.wait.object) one.0 ∙ ap (λ (k : ℕ). Some k) (eqb-true y.wait.object e.1 one.1)

  -- at all objects but these no wait holds
  module _ (marked : ℕ → Bool) (koids : List ℕ) (same : (k : ℕ) → marked k ≡ list_any (λ j. j == k) koids)
      (calm : (k : ℕ) (o : Object) → get m k ≡ Some o → marked k ≡ false → NoneHolds (signals_at m k) o) where
    unmarked : (k : ℕ) → list_any (λ j. j == k) koids ≡ false → order_at m k ≡ None
    unmarked k apart = by_object (get m k) refl
      where
        none_found : (test : Watch → Bool) (xs : List Watch) → list_any test xs ≡ false → option_map (λ (x : Watch). x.order) (find test xs) ≡ None
        none_found test [] none = refl
        none_found test (x ∷ xs) none = by_test (test x) refl none (λ rest. none_found test xs rest)
          where
            by_test : (b : Bool) → test x ≡ b → (b || list_any test xs) ≡ false
                → (list_any test xs ≡ false → option_map (λ (y : Watch). y.order) (find test xs) ≡ None)
                → option_map (λ (y : Watch). y.order) (find test (x ∷ xs)) ≡ None
            by_test true is h later = absurd (false≢true (sym h))
            by_test false is h later = rw is (later h)

        by_object : (q : Option Object) → get m k ≡ q → order_found (signals_at m k) q ≡ None
        by_object None is = refl
        by_object (Some o) is = none_found (watch_holds (signals_at m k)) o.signals.waits (calm k o is (same k ∙ apart))

    abbrev found : Option (ℕ × ℕ)
    found = earliest_from (order_at m) None koids

    pub earliest_is : option_map (λ (e : ℕ × ℕ). e.1) found ≡ option_map (λ (x : Wait). x.object) (find (holds_now m) (map listed_value list))
    earliest_is = by_found found (found_from (order_at m) koids None (λ f is. absurd (none-some f is))) ∙ sym (due_seen m list)
      where
        by_key : (k : ℕ) (o : Option ℕ) → order_at m k ≡ o → (IsTrue (list_any (λ j. j == k) koids) → o ≡ None) → order_at m k ≡ None
        by_key k o is none = elim (cases_Bool (list_any (λ j. j == k) koids)) as (λ _. order_at m k ≡ None) [
          | inl among ↦ is ∙ none among
          | inr apart ↦ unmarked k apart
        ]

        by_found : (r : Option (ℕ × ℕ)) → Outcome (order_at m) None koids r
            → option_map (λ (e : ℕ × ℕ). e.1) r ≡ option_map (λ (x : Listed). x.wait.object) (find is_due list)
        by_found None out = sym (ap (option_map (λ (x : Listed). x.wait.object)) (none_due (λ k. by_key k (order_at m k) refl (λ among. out.1 k among))))
        by_found (Some e) out = sym (first_due e out.its_own least)
          where
            least : (k order : ℕ) → order_at m k ≡ Some order → e.0 ≤ order
            least k order is = elim (cases_Bool (list_any (λ j. j == k) koids)) as (λ _. e.0 ≤ order) [
              | inl among ↦ out.least k order among is
              | inr apart ↦ absurd (none-some order (sym (unmarked k apart) ∙ is))
            ]
