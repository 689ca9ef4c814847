-- The list of all waits beside those at the objects, after each change of the objects.
use Rattle.zl_objects.proofs.Common.{AreListed, Bool, Err, HavePlaces, IsTrue, KeepsWaits, List, Listed, Map, None, Object, Ok, OnErr, OnOk, Option, Result}
use Rattle.zl_objects.proofs.Common.{Some, Wait, Watch, [], and_parts, ap, append-nil, arith, cases_Bool, entry_of, eq-eqb, eqb-true, false, false≢true, filter}
use Rattle.zl_objects.proofs.Common.{filter-append, find, get, get-put, get-update, has_key, if◌then◌else◌, inl, inr, insert_entry, is_at, is_entry_there}
use Rattle.zl_objects.proofs.Common.{is_there, listed_at, listed_value, lookup, map, map-append, nat_cmp, option_map, put, refl, set_value, subst, sym}
use Rattle.zl_objects.proofs.Common.{unwatched, update, wait_at, waits_in, watch_of, watched, without_first, ℕ, ◌&&◌, ◌++◌, ◌<◌, ◌==◌, ◌∙◌, ◌∷◌, ◌≡◌, ◌⊎◌}
use Rattle.zl_rights.specs.World.{Wait as WaitValue}
use Rattle.zl_objects.proofs.ByKoid.{inserted, written, written_back}
use Rattle.zl_objects.proofs.Ending.{all_ports_there}
use Rattle.zl_objects.proofs.Lists.{all_left, filter_apart, filter_both, filter_first, filter_map, filter_none, find_first, find_map, first_map}
use Rattle.zl_objects.proofs.Places.{seen_updated}

-- no objects, and no waits
pub none_listed : (waits : List Listed) (m : Map Object) → waits ≡ [] → m ≡ [] → AreListed waits m
unfolding get
none_listed waits m empty none k = rw (empty, none) refl

-- each object has the waits that it had
pub same_listed : (waits : List Listed) (m n : Map Object) → ((k : ℕ) → waits_in (get n k) ≡ waits_in (get m k)) → AreListed waits m → AreListed waits n
same_listed waits m n same listed k = listed k ∙ ap (λ (xs : List Watch). map (listed_at k) xs) (sym (same k))

-- ---- one of the objects is written, and keeps its waits

module _ (f : Object → Object) (quiet : (o : Object) → (f o).signals.waits ≡ o.signals.waits) where
  pub updated_listed : (waits : List Listed) (m n : Map Object) (k : ℕ) → AreListed waits m → n ≡ update m k f → AreListed waits n
  updated_listed waits m n k listed is = rw is (same_listed waits m (update m k f) (seen_updated waits_in f quiet m k) listed)

  -- or it is as it was
  pub updated_or_listed : {A B : Type 0} (waits : List Listed) (m n : Map Object) (k : ℕ) (v w : Object) (r : Result A B) → AreListed waits m
      → OnOk r (w ≡ f v) → OnErr r (w ≡ v) → Some v ≡ lookup (is_at (nat_cmp k)) m → n ≡ set_value (is_at (nat_cmp k)) m w → AreListed waits n
  updated_or_listed waits m n k v w (Ok x) listed is other there set = updated_listed waits m n k listed (written m n k f v w there is set)
  updated_or_listed waits m n k v w (Err e) listed other is there set = rw (written_back m n k v w there is set) listed

-- ---- one object more or less

module _ (waits : List Listed) where
  -- the new object has no waits
  pub inserted_listed : (m n : Map Object) (next : ℕ) (o : Object) → ((k : ℕ) → IsTrue (has_key m k) → k < next) → o.signals.waits ≡ [] → AreListed waits m
      → n ≡ insert_entry nat_cmp m next o → AreListed waits n
  inserted_listed m n next o below fresh listed into = rw (into, inserted m next o) (same_listed waits m (put m next o) same listed)
    where
      -- no object has the new koid yet
      before : (q : Option Object) → get m next ≡ q → waits_in q ≡ []
      before None is = refl
      before (Some q) is = absurd (omega (arith, below next (rw is refl)))

      same : (k : ℕ) → waits_in (get (put m next o) k) ≡ waits_in (get m k)
      same k =
          ap waits_in (get-put m next o k) ∙ elim (cases_Bool (next == k)) as (λ _. waits_in (if next == k then Some o else get m k) ≡ waits_in (get m k)) [
            | inl here ↦ rw here (fresh ∙ (sym (before (get m next) refl) ∙ ap (λ (i : ℕ). waits_in (get m i)) (eqb-true next k here)))
            | inr apart ↦ rw apart refl
          ]

-- ---- one wait more

-- it stands last in the list, and at its object
pub watched_listed : (order : ℕ) (x : Wait) (waits : List Listed) (m n : Map Object) → IsTrue (has_key m x.object) → AreListed waits m
    → n ≡ update m x.object (watched (watch_of order x)) → AreListed (waits ++ entry_of order x ∷ []) n
watched_listed order x waits m n there listed is j = rw is (by_key (cases_Bool (x.object == j)))
  where
    f : Object → Object
    f = watched (watch_of order x)

    at_object : (q : Option Object) → get m x.object ≡ q
        → filter (λ y. y.wait.object == x.object) waits ++ entry_of order x ∷ [] ≡ map (listed_at x.object) (waits_in (option_map f q))
    at_object None none = absurd (false≢true (rw none at there))
    at_object (Some o) some =
        ap (λ (ys : List Listed). ys ++ entry_of order x ∷ []) (listed x.object ∙ ap (λ (q : Option Object). map (listed_at x.object) (waits_in q)) some)
        ∙ sym (map-append (listed_at x.object) o.signals.waits (watch_of order x ∷ []))

    by_key : IsTrue (x.object == j) ⊎ ((x.object == j) ≡ false)
        → filter (λ y. y.wait.object == j) (waits ++ entry_of order x ∷ []) ≡ map (listed_at j) (waits_in (get (update m x.object f) j))
    by_key (inl here) =
        subst (λ (i : ℕ). filter (λ y. y.wait.object == i) (waits ++ entry_of order x ∷ []) ≡ map (listed_at i) (waits_in (get (update m x.object f) i)))
        (eqb-true x.object j here)
        (rw (
          filter-append (λ (y : Listed). y.wait.object == x.object) waits (entry_of order x ∷ []),
          get-update m x.object f x.object,
          eq-eqb x.object x.object refl,
        )
        (at_object (get m x.object) refl))
    by_key (inr apart) =
        rw (
          filter-append (λ (y : Listed). y.wait.object == j) waits (entry_of order x ∷ []),
          get-update m x.object f j,
          apart,
          append-nil (filter (λ (y : Listed). y.wait.object == j) waits),
        ) (listed j)

-- ---- one wait less

module _ (k : ℕ) (test : Listed → Bool) (waits : List Listed) (m : Map Object) (listed : AreListed waits m) where
  -- the earliest wait at the object k that passes is the earliest of the list that passes there
  pub found_listed : find (λ x. (x.wait.object == k) && test x) waits ≡ option_map (listed_at k) (find (λ x. test (listed_at k x)) (waits_in (get m k)))
  found_listed = find_first (λ x. x.wait.object == k) test waits ∙ (ap (find test) (listed k) ∙ find_map (listed_at k) test (waits_in (get m k)))

  -- it is taken out of both
  pub unwatched_listed : (n : Map Object) → n ≡ update m k (unwatched (λ x. test (listed_at k x)))
      → AreListed (without_first (λ x. (x.wait.object == k) && test x) waits) n
  unwatched_listed n is j = rw is (by_key (cases_Bool (k == j)))
    where
      f : Object → Object
      f = unwatched (λ x. test (listed_at k x))

      both : Listed → Bool
      both x = (x.wait.object == k) && test x

      at_object : (q : Option Object) → map (listed_at k) (without_first (λ x. test (listed_at k x)) (waits_in q))
          ≡ map (listed_at k) (waits_in (option_map f q))
      at_object None = refl
      at_object (Some o) = refl

      here_left : filter (λ x. x.wait.object == k) (without_first both waits) ≡ map (listed_at k) (waits_in (get (update m k f) k))
      here_left =
          filter_first (λ x. x.wait.object == k) test waits ∙ (ap (without_first test) (listed k)
          ∙ (first_map (listed_at k) test (waits_in (get m k)) ∙ rw (get-update m k f k, eq-eqb k k refl) (at_object (get m k))))

      by_key : IsTrue (k == j) ⊎ ((k == j) ≡ false) → filter (λ x. x.wait.object == j) (without_first both waits)
          ≡ map (listed_at j) (waits_in (get (update m k f) j))
      by_key (inl here) =
          subst (λ (i : ℕ). filter (λ x. x.wait.object == i) (without_first both waits) ≡ map (listed_at i) (waits_in (get (update m k f) i)))
          (eqb-true k j here) here_left
      by_key (inr apart) = filter_apart (λ x. x.wait.object == j) both other waits ∙ (listed j ∙ rw (get-update m k f j, apart) refl)
        where
          other : (x : Listed) → IsTrue (both x) → (x.wait.object == j) ≡ false
          other x passes = ap (λ (i : ℕ). i == j) (eqb-true x.wait.object k (and_parts (x.wait.object == k) (test x) passes).0) ∙ apart

-- ---- what is left

-- at each object that is left those waits are left whose port is
pub left_listed : (waits : List Listed) (m m2 : Map Object) → ((k : ℕ) (o : Object) → get m2 k ≡ Some o → KeepsWaits m m2 k o) → AreListed waits m
    → AreListed (filter (is_entry_there m2) waits) m2
left_listed waits m m2 keeps listed k = by_object (get m2 k) refl
  where
    by_object : (q : Option Object) → get m2 k ≡ q → filter (λ x. x.wait.object == k) (filter (is_entry_there m2) waits) ≡ map (listed_at k) (waits_in q)
    by_object None is = filter_none (λ x. x.wait.object == k) (is_entry_there m2) gone waits
      where
        gone : (x : Listed) → IsTrue (x.wait.object == k) → is_entry_there m2 x ≡ false
        gone x here = rw (eqb-true x.wait.object k here, is) refl
    by_object (Some o) is =
        let kept : KeepsWaits m m2 k o = keeps k o is in
        filter_both (λ x. x.wait.object == k) (is_entry_there m2) (λ x. has_key m2 x.wait.port) there waits
        ∙ (ap (filter (λ x. has_key m2 x.wait.port)) (listed k ∙ ap (λ (q : Option Object). map (listed_at k) (waits_in q)) kept.there)
        ∙ (filter_map (listed_at k) (λ x. has_key m2 x.wait.port) kept.before.signals.waits ∙ ap (λ (xs : List Watch). map (listed_at k) xs) (sym kept.waits)))
      where
        there : (x : Listed) → IsTrue (x.wait.object == k) → is_entry_there m2 x ≡ has_key m2 x.wait.port
        there x here = rw (eqb-true x.wait.object k here, is) refl

-- the object and the port of each wait are there
pub all_there : (waits : List Listed) (m : Map Object) → HavePlaces m → AreListed waits m → filter (is_entry_there m) waits ≡ waits
all_there waits m have listed =
    all_left (λ x. x.wait.object) (is_entry_there m) waits (λ k. ap (filter (is_entry_there m)) (listed k) ∙ (by_object k (get m k) refl ∙ sym (listed k)))
  where
    by_object : (k : ℕ) (q : Option Object) → get m k ≡ q → filter (is_entry_there m) (map (listed_at k) (waits_in q)) ≡ map (listed_at k) (waits_in q)
    by_object k None is = refl
    by_object k (Some o) is =
        let ports : filter (λ x. is_entry_there m (listed_at k x)) o.signals.waits ≡ filter (λ x. has_key m x.port) o.signals.waits = rw is refl in
        filter_map (listed_at k) (is_entry_there m) o.signals.waits ∙ ap (λ (xs : List Watch). map (listed_at k) xs) (ports ∙ all_ports_there m have k o is)

-- and they are all that is seen
pub all_seen : (list : List Listed) (m : Map Object) → HavePlaces m → AreListed list m → filter (is_there m) (map listed_value list) ≡ map listed_value list
all_seen list m have listed = filter_map listed_value (is_there m) list ∙ ap (λ (xs : List Listed). map listed_value xs) (all_there list m have listed)

-- ---- what is seen of the list

-- the earliest wait at the object that passes is the earliest seen that passes there
pub found_seen : (k : ℕ) (test : WaitValue → Bool) (list : List Listed) (m : Map Object) → AreListed list m
    → find (λ x. (x.object == k) && test x) (map listed_value list) ≡ option_map (wait_at k) (find (λ x. test (wait_at k x)) (waits_in (get m k)))
found_seen k test list m listed =
    find_map listed_value (λ x. (x.object == k) && test x) list
    ∙ (ap (option_map listed_value) (found_listed k (λ x. test (listed_value x)) list m listed) ∙ twice (find (λ x. test (wait_at k x)) (waits_in (get m k))))
  where
    twice : (o : Option Watch) → option_map listed_value (option_map (listed_at k) o) ≡ option_map (wait_at k) o
    twice None = refl
    twice (Some x) = refl

-- of each object its waits, in their order
abbrev pub AreSeen : List WaitValue → Map Object → Type 0
AreSeen waits m = (k : ℕ) → filter (λ x. x.object == k) waits ≡ map (wait_at k) (waits_in (get m k))

pub seen_listed : (list : List Listed) (m : Map Object) → AreListed list m → AreSeen (map listed_value list) m
seen_listed list m listed k =
    filter_map listed_value (λ x. x.object == k) list ∙ (ap (λ (xs : List Listed). map listed_value xs) (listed k) ∙ each_seen (waits_in (get m k)))
  where
    each_seen : (xs : List Watch) → map listed_value (map (listed_at k) xs) ≡ map (wait_at k) xs
    each_seen [] = refl
    each_seen (x ∷ xs) = ap (λ (ys : List WaitValue). wait_at k x ∷ ys) (each_seen xs)
