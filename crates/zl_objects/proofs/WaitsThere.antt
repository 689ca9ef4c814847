-- Of each registered wait the object and the port are there.
use Rattle.zl_objects.proofs.Common.{All, All-cons, All-head, All-map, All-nil, All-tail, AreListed, Bool, HavePlaces, IsTrue, List, Listed, Map, None, Object}
use Rattle.zl_objects.proofs.Common.{Option, Some, Watch, [], and_from, eq-eqb, false, filter, filter_passes, get, has_key, if◌then◌else◌, is_entry_there}
use Rattle.zl_objects.proofs.Common.{is_there, listed_at, listed_value, map, refl, subst, sym, true, waits_in, ℕ, ◌==◌, ◌∷◌, ◌≡◌}
use Rattle.zl_objects.proofs.Ending.{all_ports_there}

-- what holds of all that have a key, for each key, holds of all
all_by_key : {X : Type 0} (P : X → Type 0) (key : X → ℕ) (xs : List X) → ((k : ℕ) → All P (filter (λ x. key x == k) xs)) → All P xs
all_by_key P key [] each = All-nil P
all_by_key {X} P key (x ∷ xs) each = All-cons P x xs head (all_by_key P key xs tail)
  where
    head : P x
    head = All-head P x (filter (λ y. key y == key x) xs) (rw (eq-eqb (key x) (key x) refl) at (each (key x)))

    tail : (k : ℕ) → All P (filter (λ y. key y == k) xs)
    tail k = by_key (key x == k) (each k)
      where
        by_key : (b : Bool) → All P (if b then x ∷ filter (λ y. key y == k) xs else filter (λ y. key y == k) xs) → All P (filter (λ y. key y == k) xs)
        by_key true all = All-tail P x (filter (λ y. key y == k) xs) all
        by_key false all = all

-- the entry's object and port are there
abbrev IsThere : Map Object → Listed → Type 0
IsThere m x = IsTrue (is_entry_there m x)

pub waits_there : (waits : List Listed) (m : Map Object) → AreListed waits m → HavePlaces m → All (λ x. IsTrue (is_there m x)) (map listed_value waits)
waits_there waits m listed have =
    All-map (λ x. IsTrue (is_there m x)) listed_value waits
    (all_by_key (IsThere m) (λ x. x.wait.object) waits (λ k. subst (All (IsThere m)) (sym (listed k)) (at_object k (get m k) refl)))
  where
    at_object : (k : ℕ) (o : Option Object) → get m k ≡ o → All (IsThere m) (map (listed_at k) (waits_in o))
    at_object k None at = All-nil (IsThere m)
    at_object k (Some o) at =
        All-map (IsThere m) (listed_at k) o.signals.waits (λ i d inside. and_from _ _ (rw at refl) (ports i d inside))
      where
        ports : All (λ (x : Watch). IsTrue (has_key m x.port)) o.signals.waits
        ports =
            subst (All (λ (x : Watch). IsTrue (has_key m x.port))) (all_ports_there m have k o at)
            (filter_passes (λ (x : Watch). has_key m x.port) o.signals.waits)
