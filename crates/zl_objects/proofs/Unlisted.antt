-- The waits that end with an object that goes are taken out of the list of all waits, one after another.
use Rattle.zl_objects.proofs.Common.{AreListed, AreOwn, Bool, Cascades, HavePlaces, HaveSameWaits, IsTrue, List, Listed, Map, None, Object}
use Rattle.zl_objects.proofs.Common.{Option, Some, Wait, Watch, [], and_from, and_parts, ap, arith, at_port, cases_Bool, cond, drop, each, ending_port}
use Rattle.zl_objects.proofs.Common.{ending_waits, eq-eqb, eqb-true, false, false≢true, filter, find, get, get-each, get-update, get-without, giving_back}
use Rattle.zl_objects.proofs.Common.{has_key, if◌then◌else◌, inl, inr, is_at_port, is_entry_at, is_entry_there, is_entry_to, is_sorted, is_sorted-update}
use Rattle.zl_objects.proofs.Common.{is_there, length, list_any, listed_at, listed_value, map, nat_cmp, nat_lt, ne_eqb, none-some, not, option_map, refl}
use Rattle.zl_objects.proofs.Common.{reserved_of, same_Some, slice_get, subst, sym, true, update, waits_in, without, without_ended, without_first}
use Rattle.zl_objects.proofs.Common.{without_given, without_own, without_place, without_port_waits, ℕ, ◌&&◌, ◌<◌, ◌==◌, ◌||◌, ◌∙◌, ◌∷◌, ◌≡◌, ◌⊎◌}
use Rattle.std.specs.Bool.{passes}
use Rattle.zl_rights.proofs.Canonical.{same_map}
use Rattle.zl_rights.proofs.MapTests.{filter_all, filter_none, list_any-and, none_left as none_stays}
use Rattle.zl_objects.proofs.Bare.{has_same}
use Rattle.zl_objects.proofs.Bodies.{Changed, changed}
use Rattle.zl_objects.proofs.Ending.{ending_gone, filter_within}
use Rattle.zl_objects.proofs.Index.{sorted_each}
use Rattle.zl_objects.proofs.Listed.{all_there, same_listed, updated_listed}
use Rattle.zl_objects.proofs.Lists.{filter_apart, filter_both, filter_map}
use Rattle.zl_objects.proofs.Places.{first_out}
use Rattle.zl_objects.proofs.Released.{Was, cascaded_was}
use Rattle.zl_objects.proofs.Rising.{Rises, goes_by_order}

-- ---- the first of those that pass goes

module _ {X : Type 0} (p : X → Bool) where
  first_found : (xs ys : List X) (x : X) → filter p xs ≡ x ∷ ys → find p xs ≡ Some x
  first_found [] ys x is = absurd (none-some x (ap (λ (zs : List X). slice_get zs 0) is))
  first_found (z ∷ xs) ys x is = by_test (p z) is (λ rest. first_found xs ys x rest)
    where
      by_test : (b : Bool) → cond b (z ∷ filter p xs) (filter p xs) ≡ x ∷ ys → (filter p xs ≡ x ∷ ys → find p xs ≡ Some x) → cond b (Some z) (find p xs)
          ≡ Some x
      by_test true same later = ap (λ (zs : List X). slice_get zs 0) same
      by_test false rest later = later rest

  others_stay : (xs : List X) → filter p (without_first p xs) ≡ drop 1 (filter p xs)
  others_stay [] = refl
  others_stay (x ∷ xs) = ap (filter p) (first_out p x xs) ∙ by_test (p x) refl (others_stay xs)
    where
      by_test : (b : Bool) → p x ≡ b → filter p (without_first p xs) ≡ drop 1 (filter p xs)
          → filter p (cond b xs (x ∷ without_first p xs)) ≡ drop 1 (cond b (x ∷ filter p xs) (filter p xs))
      by_test true is rest = refl
      by_test false is rest = rw is rest

  pub rest_same : (xs : List X) → filter (λ x. not (p x)) (without_first p xs) ≡ filter (λ x. not (p x)) xs
  rest_same = filter_apart (λ x. not (p x)) p (λ x passes. ap not passes)

  none_left : (xs : List X) → filter p xs ≡ [] → filter (λ x. not (p x)) xs ≡ xs
  none_left [] none = refl
  none_left (x ∷ xs) none = by_test (p x) none (none_left xs)
    where
      by_test : (b : Bool) → cond b (x ∷ filter p xs) (filter p xs) ≡ [] → (filter p xs ≡ [] → filter (λ y. not (p y)) xs ≡ xs)
          → cond (not b) (x ∷ filter (λ y. not (p y)) xs) (filter (λ y. not (p y)) xs) ≡ x ∷ xs
      by_test true some later = absurd (none-some x (ap (λ (zs : List X). slice_get zs 0) (sym some)))
      by_test false none later = ap (λ (zs : List X). x ∷ zs) (later none)

-- ---- the waits of one object

-- some have been taken out of the list and of the object, and the others are in both
pub record AreOut (k : ℕ) (waits : List Watch) (list : List Listed) (left : List Watch) (rest : List Listed) : Type 0 where
  pub own : AreOwn k waits list → AreOwn k left rest
  pub others : AreOwn k waits list → without_own k rest ≡ without_own k list

pub one_more_out : {waits left later : List Watch} {list rest next : List Listed} (x : Watch) → ((k : ℕ) → AreOut k waits list left rest) → Rises rest
    → slice_get left 0 ≡ Some x → later ≡ drop 1 left → next ≡ filter (λ y. not (y.order == x.order)) rest → (k : ℕ) → AreOut k waits list later next
one_more_out {waits} {left} {later} {list} {rest} {next} x out rising there behind is k = record {
  own = λ all. ap (filter (is_entry_at k)) (goes all) ∙ (others_stay (is_entry_at k) rest
      ∙ (ap (λ (ys : List Listed). drop 1 ys) ((out k).own all) ∙ (one_less left ∙ ap (λ (ys : List Watch). map (listed_at k) ys) (sym behind))));
  others = λ all. ap (without_own k) (goes all) ∙ (rest_same (is_entry_at k) rest ∙ (out k).others all);
}
  where
    one_less : (xs : List Watch) → drop 1 (map (listed_at k) xs) ≡ map (listed_at k) (drop 1 xs)
    one_less [] = refl
    one_less (y ∷ ys) = refl

    by_list : (xs : List Watch) → slice_get xs 0 ≡ Some x → map (listed_at k) xs ≡ listed_at k x ∷ map (listed_at k) (drop 1 xs)
    by_list [] none = absurd (none-some x none)
    by_list (y ∷ ys) some = ap (λ (z : Watch). listed_at k z ∷ map (listed_at k) ys) (same_Some y x some)

    goes : AreOwn k waits list → next ≡ without_first (is_entry_at k) rest
    goes all = is ∙ goes_by_order (is_entry_at k) rest (listed_at k x) rising (first_found (is_entry_at k) rest _ _ ((out k).own all ∙ by_list left there))

-- nothing is left of them
pub all_out : {waits left : List Watch} {list rest : List Listed} (k : ℕ) → AreOut k waits list left rest → slice_get left 0 ≡ None → AreOwn k waits list
    → rest ≡ without_own k list
all_out {waits} {left} {list} {rest} k out none all = sym (none_left (is_entry_at k) rest (out.own all ∙ by_list left none)) ∙ out.others all
  where
    by_list : (xs : List Watch) → slice_get xs 0 ≡ None → map (listed_at k) xs ≡ []
    by_list [] is = refl
    by_list (x ∷ xs) some = absurd (none-some x (sym some))

-- ---- the waits of one port

-- each object with a wait for the port is listed with it
abbrev pub AreKnown : ℕ → List Listed → Map Object → Type 0
AreKnown port list m = (k : ℕ) (o : Object) → get m k ≡ Some o → IsTrue (list_any (is_at_port port) o.signals.waits)
    → IsTrue (list_any (λ x. is_entry_at k x && is_entry_to port x) list)

module _ {X : Type 0} where
  any_both : (p q : X → Bool) (xs : List X) → list_any (λ x. p x && q x) xs ≡ list_any q (filter p xs)
  any_both p q [] = refl
  any_both p q (x ∷ xs) = by_test (p x) (any_both p q xs)
    where
      by_test : (b : Bool) → list_any (λ y. p y && q y) xs ≡ list_any q (filter p xs)
          → ((b && q x) || list_any (λ y. p y && q y) xs) ≡ list_any q (cond b (x ∷ filter p xs) (filter p xs))
      by_test true rest = ap (λ b. q x || b) rest
      by_test false rest = rest

  any_mapped : {Y : Type 0} (f : Y → X) (q : X → Bool) (ys : List Y) → list_any q (map f ys) ≡ list_any (λ y. q (f y)) ys
  any_mapped f q [] = refl
  any_mapped f q (y ∷ ys) = ap (λ b. q (f y) || b) (any_mapped f q ys)

  any_stays : (p r : X → Bool) (xs : List X) (x : X) → find p xs ≡ Some x → r x ≡ false → list_any r (without_first p xs) ≡ list_any r xs
  any_stays p r [] x found out = absurd (none-some x found)
  any_stays p r (y ∷ ys) x found out = ap (list_any r) (first_out p y ys) ∙ by_test (p y) found (λ rest. any_stays p r ys x rest out)
    where
      by_test : (b : Bool) → cond b (Some y) (find p ys) ≡ Some x → (find p ys ≡ Some x → list_any r (without_first p ys) ≡ list_any r ys)
          → list_any r (cond b ys (y ∷ without_first p ys)) ≡ (r y || list_any r ys)
      by_test true is later = rw (ap r (same_Some y x is) ∙ out) refl
      by_test false rest later = ap (λ b. r y || b) (later rest)

  pub none_any : (p : X → Bool) (xs : List X) → find p xs ≡ None → list_any p xs ≡ false
  none_any p [] none = refl
  none_any p (x ∷ xs) none = by_test (p x) none (none_any p xs)
    where
      by_test : (b : Bool) → cond b (Some x) (find p xs) ≡ None → (find p xs ≡ None → list_any p xs ≡ false) → (b || list_any p xs) ≡ false
      by_test true some later = absurd (none-some x (sym some))
      by_test false rest later = later rest

-- none passes, and all stay
pub none_found_left : {X : Type 0} (p : X → Bool) (xs : List X) → find p xs ≡ None → filter (λ x. not (p x)) xs ≡ xs
none_found_left p xs none = filter_all p xs (none_any p xs none)

-- the earliest wait for the port, of which the caller sees no more than this
pub record IsTaken (port : ℕ) (list : List Listed) (w : Wait) : Type 0 where
  pub one : Listed
  pub is : find (is_entry_to port) list ≡ Some one
  pub wait : one.wait ≡ w

pub taken : {port : ℕ} (list : List Listed) (w : Wait) → Some w ≡ option_map (λ x. x.wait) (find (is_entry_to port) list) → IsTaken port list w
taken {port} list w is = by_find (find (is_entry_to port) list) refl is
  where
    by_find : (o : Option Listed) → find (is_entry_to port) list ≡ o → Some w ≡ option_map (λ x. x.wait) o → IsTaken port list w
    by_find None found some = absurd (none-some w (sym some))
    by_find (Some x) found some = record { one = x; is = found; wait = sym (same_Some w x.wait some) }

pub none_taken : (port : ℕ) (list : List Listed) → None ≡ option_map (λ x. x.wait) (find (is_entry_to port) list) → find (is_entry_to port) list ≡ None
none_taken port list is = by_find (find (is_entry_to port) list) is
  where
    by_find : (o : Option Listed) → None ≡ option_map (λ x. x.wait) o → o ≡ None
    by_find None none = refl
    by_find (Some x) none = absurd (none-some x.wait none)

pub shorter : (p : Listed → Bool) (xs : List Listed) (x : Listed) → find p xs ≡ Some x → length (without_first p xs) < length xs
shorter p [] x found = absurd (none-some x found)
shorter p (y ∷ ys) x found = rw (first_out p y ys) (by_test (p y) found (λ rest. shorter p ys x rest))
  where
    by_test : (b : Bool) → cond b (Some y) (find p ys) ≡ Some x → (find p ys ≡ Some x → length (without_first p ys) < length ys)
        → length (cond b ys (y ∷ without_first p ys)) < length (y ∷ ys)
    by_test true is later = omega arith
    by_test false rest later = omega (arith, later rest)

pub known_first : (port : ℕ) (list : List Listed) (m : Map Object) → AreListed list m → AreKnown port list m
known_first port list m listed k o at some =
    any_both (is_entry_at k) (is_entry_to port) list
    ∙ (ap (list_any (is_entry_to port)) (listed k ∙ ap (λ (q : Option Object). map (listed_at k) (waits_in q)) at)
    ∙ (any_mapped (listed_at k) (is_entry_to port) o.signals.waits ∙ some))

module _ (port : ℕ) (m : Map Object) where
  abbrev ends : Object → Object
  ends = without_port_waits port

  pub known_less : (list : List Listed) (x : Listed) (n : Map Object) → find (is_entry_to port) list ≡ Some x → AreKnown port list m
      → n ≡ update m x.wait.object (without_port_waits port) → AreKnown port (without_first (is_entry_to port) list) n
  known_less list x n found known is k o at some =
      by_key (cases_Bool (x.wait.object == k)) (changed ends m x.wait.object k o (rw is at at))
    where
      by_key : IsTrue (x.wait.object == k) ⊎ ((x.wait.object == k) ≡ false) → Changed ends m x.wait.object k o
          → IsTrue (list_any (λ y. is_entry_at k y && is_entry_to port y) (without_first (is_entry_to port) list))
      by_key (inl here) c =
          let same : o ≡ ends c.before = c.is ∙ rw here refl in
          absurd (false≢true (sym (none_stays (is_at_port port) c.before.signals.waits) ∙ rw same at some))
      by_key (inr apart) c =
          let same : o ≡ c.before = c.is ∙ rw apart refl in
          any_stays (is_entry_to port) (λ y. is_entry_at k y && is_entry_to port y) list x found (rw apart refl)
          ∙ known k c.before c.there (rw same at some)

  twice : (o : Object) → ends (ends o) ≡ ends o
  twice o =
      ap (λ (ws : List Watch). record o { signals = record o.signals { waits = ws } })
      (filter_within (λ x. not (is_at_port port x)) (λ x. not (is_at_port port x)) (λ x h. h) o.signals.waits)

  module _ (in_order : IsTrue (is_sorted nat_cmp m)) where
    -- what ends at one object does so at each
    pub one_ended : (k : ℕ) (n : Map Object) → n ≡ update m k (without_port_waits port)
        → each (λ j. without_port_waits port) n ≡ each (λ j. without_port_waits port) m
    one_ended k n is = ap (λ (x : Map Object). each (λ j. ends) x) is ∙ same_map (each (λ j. ends) (update m k ends)) (each (λ j. ends) m)
        (passes _ (sorted_each (λ j. ends) (update m k ends) ∙ (is_sorted-update m k ends ∙ in_order))) (passes _ (sorted_each (λ j. ends) m ∙ in_order)) same
      where
        by_object : (o : Option Object) → option_map ends (option_map ends o) ≡ option_map ends o
        by_object None = refl
        by_object (Some o) = ap (λ (x : Object). Some x) (twice o)

        same : (j : ℕ) → get (each (λ i. ends) (update m k ends)) j ≡ get (each (λ i. ends) m) j
        same j =
            get-each (update m k ends) (λ i. ends) j
            ∙ (ap (λ (o : Option Object). option_map ends o) (get-update m k ends j)
            ∙ (by_test (k == j) ∙ sym (get-each m (λ i. ends) j)))
          where
            by_test : (b : Bool) → option_map ends (if b then option_map ends (get m j) else get m j) ≡ option_map ends (get m j)
            by_test true = by_object (get m j)
            by_test false = refl

    -- no wait for the port is left
    pub none_known : (list : List Listed) → find (is_entry_to port) list ≡ None → AreKnown port list m → each (λ j. without_port_waits port) m ≡ m
    none_known list none known =
        same_map (each (λ j. ends) m) m (passes _ (sorted_each (λ j. ends) m ∙ in_order)) (passes _ in_order)
        (λ j. get-each m (λ i. ends) j ∙ by_object j (get m j) refl)
      where
        by_object : (j : ℕ) (o : Option Object) → get m j ≡ o → option_map ends o ≡ o
        by_object j None is = refl
        by_object j (Some o) is =
            ap (λ (ws : List Watch). Some (record o { signals = record o.signals { waits = ws } }))
            (filter_all (is_at_port port) o.signals.waits (fails (cases_Bool (list_any (is_at_port port) o.signals.waits))))
          where
            fails : IsTrue (list_any (is_at_port port) o.signals.waits) ⊎ (list_any (is_at_port port) o.signals.waits ≡ false)
                → list_any (is_at_port port) o.signals.waits ≡ false
            fails (inl some) = absurd
                (false≢true (sym (list_any-and (is_entry_to port) (is_entry_at j) list (none_any (is_entry_to port) list none)) ∙ known j o is some))
            fails (inr none) = none

-- ---- what is left of the list and of the objects

pub giving_listed : (xs : List Watch) (list : List Listed) (m : Map Object) → AreListed list m → AreListed list (giving_back xs m)
giving_listed [] list m listed = listed
giving_listed (x ∷ xs) list m listed =
    giving_listed xs list (update m x.port (at_port without_place)) (updated_listed (at_port without_place) (λ o. refl) list m _ x.port listed refl)

pub giving_sorted : (xs : List Watch) (m : Map Object) → IsTrue (is_sorted nat_cmp m) → IsTrue (is_sorted nat_cmp (giving_back xs m))
giving_sorted [] m in_order = in_order
giving_sorted (x ∷ xs) m in_order = giving_sorted xs (update m x.port (at_port without_place)) (is_sorted-update m x.port (at_port without_place) ∙ in_order)

-- those at the object that goes
pub own_left : (k : ℕ) (list : List Listed) (m : Map Object) → AreListed list m → AreListed (without_own k list) (without m k)
own_left k list m listed j = by_key (cases_Bool (k == j))
  where
    by_key : IsTrue (k == j) ⊎ ((k == j) ≡ false) → filter (is_entry_at j) (without_own k list) ≡ map (listed_at j) (waits_in (get (without m k) j))
    by_key (inl here) = subst (λ (i : ℕ). filter (is_entry_at i) (without_own k list) ≡ map (listed_at i) (waits_in (get (without m k) i))) (eqb-true k j here)
        (rw (get-without m k k, eq-eqb k k refl) (filter_none (is_entry_at k) (without_own k list) (none_stays (is_entry_at k) list)))
    by_key (inr apart) = rw (get-without m k j, apart) (filter_within (is_entry_at j) (λ x. not (is_entry_at k x)) other list ∙ listed j)
      where
        other : (x : Listed) → IsTrue (is_entry_at j x) → IsTrue (not (is_entry_at k x))
        other x here = rw (eqb-true x.wait.object j here) (ap not (ne_eqb j k (λ same. false≢true (sym apart ∙ eq-eqb k j (sym same)))))

given_left : (port : ℕ) (list : List Listed) (m : Map Object) → AreListed list m → AreListed (without_given port list) (each (λ j. without_port_waits port) m)
given_left port list m listed j =
    filter_both (is_entry_at j) (λ x. not (is_entry_to port x)) (λ x. not (is_entry_to port x)) (λ x here. refl) list
    ∙ (ap (filter (λ x. not (is_entry_to port x))) (listed j)
    ∙ (filter_map (listed_at j) (λ x. not (is_entry_to port x)) (waits_in (get m j)) ∙ rw (get-each m (λ i. without_port_waits port) j) (by_object (get m j))))
  where
    by_object : (o : Option Object) → map (listed_at j) (filter (λ x. not (is_at_port port x)) (waits_in o))
        ≡ map (listed_at j) (waits_in (option_map (without_port_waits port) o))
    by_object None = refl
    by_object (Some o) = refl

pub ended_left : (k : ℕ) (reserved : Bool) (xs : List Watch) (list : List Listed) (m : Map Object) → AreListed list m
    → AreListed (without_ended k reserved list) (ending_port k reserved (giving_back xs (without m k)))
ended_left k reserved xs list m listed = by_test reserved
  where
    own : AreListed (without_own k list) (giving_back xs (without m k))
    own = giving_listed xs (without_own k list) (without m k) (own_left k list m listed)

    by_test : (b : Bool) → AreListed (without_ended k b list) (ending_port k b (giving_back xs (without m k)))
    by_test true = given_left k (without_own k list) _ own
    by_test false = own

-- what is left is what is there
pub ended_there : (k : ℕ) (reserved : Bool) (list : List Listed) (m : Map Object) → has_key m k ≡ false → HavePlaces m
    → AreListed (without_ended k reserved list) m → without_ended k reserved list ≡ filter (is_entry_there m) list
ended_there k reserved list m gone places listed = sym (all_there (without_ended k reserved list) m places listed) ∙ by_test reserved
  where
    at_other : (x : Listed) → IsTrue (is_entry_there m x) → IsTrue (not (is_entry_at k x))
    at_other x there = ap not
        (ne_eqb x.wait.object k (λ same. false≢true (sym gone ∙ (ap (has_key m) (sym same) ∙ (and_parts (has_key m x.wait.object) _ there).0))))

    to_other : (x : Listed) → IsTrue (is_entry_there m x) → IsTrue (not (is_entry_to k x))
    to_other x there = ap not
        (ne_eqb x.wait.port k (λ same. false≢true (sym gone ∙ (ap (has_key m) (sym same) ∙ (and_parts (has_key m x.wait.object) _ there).1))))

    own : filter (is_entry_there m) (without_own k list) ≡ filter (is_entry_there m) list
    own = filter_within (is_entry_there m) (λ x. not (is_entry_at k x)) at_other list

    by_test : (b : Bool) → filter (is_entry_there m) (without_ended k b list) ≡ filter (is_entry_there m) list
    by_test true = filter_within (is_entry_there m) (λ x. not (is_entry_to k x)) to_other (without_own k list) ∙ own
    by_test false = own

-- ---- handles went, and what nothing keeps

pub none_came : {ks : List ℕ} {m m2 : Map Object} → Cascades ks m m2 → (k : ℕ) → IsTrue (has_key m2 k) → IsTrue (has_key m k)
none_came {ks} {m} {m2} cascades k there = by_object (get m2 k) refl
  where
    by_object : (o : Option Object) → get m2 k ≡ o → IsTrue (has_key m k)
    by_object None is = absurd (false≢true (rw is at there))
    by_object (Some o) is = let was : Was m k o = cascaded_was ks m m2 cascades k o is in rw was.there refl

-- some went, and then others
pub left_then : {ks : List ℕ} {m m2 : Map Object} (list : List Listed) {list1 list2 : List Listed} → Cascades ks m m2 → list1 ≡ filter (is_entry_there m) list
    → list2 ≡ filter (is_entry_there m2) list1 → list2 ≡ filter (is_entry_there m2) list
left_then {ks} {m} {m2} list cascades first second =
    second ∙ (ap (filter (is_entry_there m2)) first ∙ filter_within (is_entry_there m2) (is_entry_there m) there list)
  where
    there : (x : Listed) → IsTrue (is_entry_there m2 x) → IsTrue (is_entry_there m x)
    there x h =
        let parts = and_parts (has_key m2 x.wait.object) (has_key m2 x.wait.port) h in
        and_from (has_key m x.wait.object) (has_key m x.wait.port) (none_came cascades x.wait.object parts.0) (none_came cascades x.wait.port parts.1)

-- k went, its queue, and the waits that end with it
module _ {ks : List ℕ} (m m3 : Map Object) (list list2 : List Listed) (k : ℕ) (o : Object) (listed : AreListed list m)
    (is : list2 ≡ without_ended k (nat_lt 0 (reserved_of o.body)) list) (still : HaveSameWaits (ending_waits k o (without m k)) m3)
    (cascades : Cascades ks (ending_waits k o (without m k)) m3) (places : HavePlaces m3) where
  pub gone_left : list2 ≡ filter (is_entry_there m3) list
  gone_left = is ∙ ended_there k (nat_lt 0 (reserved_of o.body)) list m3 (gone (cases_Bool (has_key m3 k))) places
      (same_listed _ (ending_waits k o (without m k)) m3 still (ended_left k (nat_lt 0 (reserved_of o.body)) o.signals.waits list m listed))
    where
      gone : IsTrue (has_key m3 k) ⊎ (has_key m3 k ≡ false) → has_key m3 k ≡ false
      gone (inl there) = absurd (false≢true (sym (ending_gone m k o (λ n same. has_same (without m k) n same k)) ∙ none_came cascades k there))
      gone (inr none) = none

-- so is it for what is seen of the list
pub left_seen : (m : Map Object) (list list2 : List Listed) → list2 ≡ filter (is_entry_there m) list
    → map listed_value list2 ≡ filter (is_there m) (map listed_value list)
left_seen m list list2 is = ap (λ (xs : List Listed). map listed_value xs) is ∙ sym (filter_map listed_value (is_there m) list)
