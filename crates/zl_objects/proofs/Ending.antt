-- The waits that end with an object that goes: its own, and those that give their packets to it.
use Rattle.zl_objects.proofs.Common.{AreSameButWaits, Body, Bool, HavePlaces, HaveSameWaits, IsTrue, List, Map, None, Object, Option, Some, Thins, Watch, []}
use Rattle.zl_objects.proofs.Common.{ap, arith, at_port, bare, cases_Bool, changed_port, cond, count_by, drop, each, ending_port, ending_waits, ends_waits}
use Rattle.zl_objects.proofs.Common.{eq-eqb, eqb-true, false, false≢true, filter, get, get-each, get-update, get-without, giving_back, has_key, if◌then◌else◌}
use Rattle.zl_objects.proofs.Common.{inl, inr, is_at_port, is_empty, length, list_any, nat_lt, nat_tests, none-some, not, option_map, or_parts, refl}
use Rattle.zl_objects.proofs.Common.{reserved_in, reserved_of, same_Some, slice_get, subst, sum_by, sum_by-cons, sym, true, unreserved, update, waits_at}
use Rattle.zl_objects.proofs.Common.{waits_for, waits_in, without, without_place, without_port_waits, ℕ, ◌+◌, ◌-◌, ◌<◌, ◌==◌, ◌||◌, ◌∙◌, ◌∷◌, ◌≡◌, ◌⊎◌}
use Rattle.zl_objects.specs.declared.object.Body.TheVariants as body
use Rattle.zl_objects.proofs.Bodies.{Changed, changed, found_left}
use Rattle.zl_objects.proofs.Sums.{sum_same, sum_taken, sum_updated}

-- ---- the steps of the code

pub given_back : (xs ys : List Watch) (x : Watch) (m n : Map Object) → slice_get xs 0 ≡ Some x → ys ≡ drop 1 xs → n ≡ update m x.port (at_port without_place)
    → giving_back ys n ≡ giving_back xs m
given_back [] ys x m n there rest is = absurd (none-some x there)
given_back (y ∷ xs) ys x m n there rest is =
    λ i. giving_back (rest i) ((is ∙ ap (λ (z : Watch). update m z.port (at_port without_place)) (sym (same_Some y x there))) i)

pub fewer_waits : (xs ys : List Watch) (x : Watch) → slice_get xs 0 ≡ Some x → ys ≡ drop 1 xs → length ys < length xs
fewer_waits [] ys x there rest = absurd (none-some x there)
fewer_waits (y ∷ xs) ys x there rest = let left : ys ≡ xs = rest in rw left (omega arith)

pub none_to_give : (xs : List Watch) (m : Map Object) → slice_get xs 0 ≡ None → giving_back xs m ≡ m
none_to_give [] m none = refl
none_to_give (x ∷ xs) m none = absurd (none-some x (sym none))

-- what was read of the object before it went
pub ended_by : (m n : Map Object) (k : ℕ) (o : Object) (reserved : Bool) → n ≡ without m k → reserved ≡ nat_lt 0 (reserved_of o.body)
    → ending_port k reserved (giving_back o.signals.waits n) ≡ ending_waits k o (without m k)
ended_by m n k o reserved left is = λ i. ending_port k (is i) (giving_back o.signals.waits (left i))

no_waits : (o : Object) → ends_waits o ≡ false → o.signals.waits ≡ []
no_waits o none = empty o.signals.waits (or_parts (nat_lt 0 (reserved_of o.body)) (not (is_empty o.signals.waits)) none).1
  where
    empty : (xs : List Watch) → not (is_empty xs) ≡ false → xs ≡ []
    empty [] h = refl
    empty (x ∷ xs) h = absurd (false≢true (sym h))

-- where no waits end with it, all stay
pub none_ends : (m : Map Object) (k : ℕ) (o : Object) → ends_waits o ≡ false → ending_waits k o m ≡ m
none_ends m k o none = rw ((or_parts (nat_lt 0 (reserved_of o.body)) (not (is_empty o.signals.waits)) none).0, no_waits o none) refl

pub none_ended : (m n : Map Object) (k : ℕ) (o : Object) → get m k ≡ Some o → n ≡ ending_waits k o (without m k) → ends_waits o ≡ false → HaveSameWaits m n
none_ended m n k o there is none j =
    let left : n ≡ without m k = is ∙ none_ends (without m k) k o none in
    elim (cases_Bool (k == j)) as (λ _. waits_in (get n j) ≡ waits_in (get m j)) [
      | inl here ↦ rw (left, get-without m k j, here, ← eqb-true k j here, there) (sym (no_waits o none))
      | inr apart ↦ rw (left, get-without m k j, apart) refl
    ]

-- ---- nothing but waits and places changes

port_bare : (o : Object) → bare (at_port without_place o) ≡ bare o
port_bare o = ap (λ (b : Body). record (bare o) { body = b }) (by_body o.body)
  where
    by_body : (b : Body) → unreserved (changed_port without_place b) ≡ unreserved b
    by_body (body.Job own) = refl
    by_body _ = refl

update_bare : (m : Map Object) (k : ℕ) → AreSameButWaits m (update m k (at_port without_place))
unfolding each update
update_bare [] k = refl
update_bare (e ∷ m) k = elim (cases_Bool (e.0 == k)) as (λ _. AreSameButWaits (e ∷ m) (update (e ∷ m) k (at_port without_place))) [
  | inl here ↦ rw here (λ i. (eqb-true e.0 k here i, sym (port_bare e.1) i) ∷ each (λ j. bare) m)
  | inr apart ↦ rw apart (λ i. (e.0, bare e.1) ∷ update_bare m k i)
]

giving_bare : (xs : List Watch) (m : Map Object) → AreSameButWaits m (giving_back xs m)
giving_bare [] m = refl
giving_bare (x ∷ xs) m = update_bare m x.port ∙ giving_bare xs (update m x.port (at_port without_place))

each_bare : (k : ℕ) (m : Map Object) → AreSameButWaits m (each (λ j. without_port_waits k) m)
unfolding each
each_bare k [] = refl
each_bare k (e ∷ m) = λ i. (e.0, bare e.1) ∷ each_bare k m i

ending_port_bare : (k : ℕ) (reserved : Bool) (m : Map Object) → AreSameButWaits m (ending_port k reserved m)
ending_port_bare k reserved m =
    elim reserved as (λ b. AreSameButWaits m (if b then each (λ j. without_port_waits k) m else m)) [ true ↦ each_bare k m | false ↦ refl ]

-- what is left is the same but for waits
pub ending_bare : (k : ℕ) (o : Object) (m : Map Object) → AreSameButWaits m (ending_waits k o m)
ending_bare k o m = giving_bare o.signals.waits m ∙ ending_port_bare k (nat_lt 0 (reserved_of o.body)) (giving_back o.signals.waits m)

-- ---- the waits that are left

pub filter_within : {X : Type 0} (test p : X → Bool) → ((x : X) → IsTrue (test x) → IsTrue (p x)) → (xs : List X) → filter test (filter p xs) ≡ filter test xs
filter_within test p within [] = refl
filter_within test p within (x ∷ xs) = elim (cases_Bool (p x)) as (λ _. filter test (filter p (x ∷ xs)) ≡ filter test (x ∷ xs)) [
  | inl passes ↦ rw passes (ap (λ (ys : List _). cond (test x) (x ∷ ys) ys) (filter_within test p within xs))
  | inr fails ↦ elim (cases_Bool (test x)) as (λ _. filter test (filter p (x ∷ xs)) ≡ filter test (x ∷ xs)) [
    | inl takes ↦ absurd (false≢true (sym fails ∙ within x takes))
    | inr leaves ↦ rw (fails, leaves) (filter_within test p within xs)
  ]
]

pub none_filtered : {X : Type 0} (test p : X → Bool) (xs : List X) → list_any test xs ≡ false → list_any test (filter p xs) ≡ false
none_filtered test p [] h = refl
none_filtered test p (x ∷ xs) h = by_test (test x) refl (p x) refl h (λ rest. none_filtered test p xs rest)
  where
    by_test : (a : Bool) → test x ≡ a → (b : Bool) → p x ≡ b → (a || list_any test xs) ≡ false
        → (list_any test xs ≡ false → list_any test (filter p xs) ≡ false) → list_any test (filter p (x ∷ xs)) ≡ false
    by_test true is b which h later = absurd (false≢true (sym h))
    by_test false is true which h later = rw (which, is) (later h)
    by_test false is false which h later = rw which (later h)

-- the same signals and waits as before, and who may be blocked at it stays
record IsStill (m : Map Object) (k : ℕ) (o : Object) : Type 0 where
  before : Object
  there : get m k ≡ Some before
  same : o.signals ≡ before.signals
  asleep : o.asleep ≡ before.asleep

update_still : (m : Map Object) (p k : ℕ) (o : Object) → get (update m p (at_port without_place)) k ≡ Some o → IsStill m k o
update_still m p k o at =
    let c : Changed (at_port without_place) m p k o = changed (at_port without_place) m p k o at in
    record {
      before = c.before;
      there = c.there;
      same = ap (λ (x : Object). x.signals) c.is
          ∙ elim (p == k) as (λ b. (if b then at_port without_place c.before else c.before).signals ≡ c.before.signals) [ true ↦ refl | false ↦ refl ];
      asleep = ap (λ (x : Object). x.asleep) c.is
          ∙ elim (p == k) as (λ b. (if b then at_port without_place c.before else c.before).asleep ≡ c.before.asleep) [ true ↦ refl | false ↦ refl ];
    }

giving_still : (xs : List Watch) (m : Map Object) (k : ℕ) (o : Object) → get (giving_back xs m) k ≡ Some o → IsStill m k o
giving_still [] m k o at = record { before = o; there = at; same = refl; asleep = refl }
giving_still (x ∷ xs) m k o at =
    let later : IsStill (update m x.port (at_port without_place)) k o = giving_still xs (update m x.port (at_port without_place)) k o at in
    let first : IsStill m k later.before = update_still m x.port k later.before later.there in
    record { before = first.before; there = first.there; same = later.same ∙ first.same; asleep = later.asleep ∙ first.asleep }

-- a wait at a port that is there doesn't end with k
module _ (m m2 : Map Object) (k : ℕ) (gone : has_key m2 k ≡ false) where
  port_thins : (n : Bool) (j : ℕ) (o : Object) → get (ending_port k n m) j ≡ Some o → m2 ≡ ending_port k n m → Thins m m2 j o
  port_thins n j o at is = by_test n at
    where
      apart : (test : Watch → Bool) → ((x : Watch) → IsTrue (test x) → IsTrue (has_key m2 x.port)) → (x : Watch) → IsTrue (test x)
          → IsTrue (not (is_at_port k x))
      apart test left x takes = elim (cases_Bool (x.port == k)) as (λ _. IsTrue (not (is_at_port k x))) [
        | inl here ↦ absurd (false≢true (sym gone ∙ subst (λ (p : ℕ). IsTrue (has_key m2 p)) (eqb-true x.port k here) (left x takes)))
        | inr other ↦ rw other refl
      ]

      by_object : (q : Option Object) → get m j ≡ q → option_map (without_port_waits k) q ≡ Some o → Thins m m2 j o
      by_object None there read = absurd (none-some o read)
      by_object (Some q) there read = record {
        before = q;
        there = there;
        waits = λ test left.
            ap (λ (x : Object). filter test x.signals.waits) (sym (same_Some (without_port_waits k q) o read))
            ∙ filter_within test (λ x. not (is_at_port k x)) (apart test left) q.signals.waits;
        fewer = λ test none.
            ap (λ (x : Object). list_any test x.signals.waits) (sym (same_Some (without_port_waits k q) o read))
            ∙ none_filtered test (λ x. not (is_at_port k x)) q.signals.waits none;
        asleep = ap (λ (x : Object). x.asleep) (sym (same_Some (without_port_waits k q) o read));
      }

      by_test : (b : Bool) → get (if b then each (λ i. without_port_waits k) m else m) j ≡ Some o → Thins m m2 j o
      by_test true read = by_object (get m j) refl (sym (get-each m (λ i. without_port_waits k) j) ∙ read)
      by_test false read = record { before = o; there = read; waits = λ test left. refl; fewer = λ test none. none; asleep = refl }

-- where k has gone, the waits of the others are left whose port isn't k
pub ending_thins : (m : Map Object) (k : ℕ) (gone : Object) (j : ℕ) (o : Object) → has_key (ending_waits k gone (without m k)) k ≡ false
    → get (ending_waits k gone (without m k)) j ≡ Some o → Thins m (ending_waits k gone (without m k)) j o
ending_thins m k gone j o out at =
    let mid : Map Object = giving_back gone.signals.waits (without m k) in
    let later : Thins mid (ending_waits k gone (without m k)) j o =
    port_thins mid (ending_waits k gone (without m k)) k out (nat_lt 0 (reserved_of gone.body)) j o at refl in
    let first : IsStill (without m k) j later.before = giving_still gone.signals.waits (without m k) j later.before later.there in
    record {
      before = first.before;
      there = (found_left m k j first.before first.there).1;
      waits = λ test left. later.waits test left ∙ ap (λ s. filter test s.waits) first.same;
      fewer = λ test none. later.fewer test (ap (λ s. list_any test s.waits) first.same ∙ none);
      asleep = later.asleep ∙ first.asleep;
    }

-- ---- their places

reserved_back : (m : Map Object) (p j : ℕ) → reserved_in (get (update m p (at_port without_place)) j) ≡ reserved_in (get m j) - cond (p == j) 1 0
reserved_back m p j =
    ap reserved_in (get-update m p (at_port without_place) j)
    ∙ elim (p == j) as (λ b. reserved_in (if b then option_map (at_port without_place) (get m j) else get m j) ≡ reserved_in (get m j) - cond b 1 0) [
      | true ↦ by_object (get m j)
      | false ↦ omega arith
    ]
  where
    by_body : (b : Body) → reserved_of (changed_port without_place b) ≡ reserved_of b - 1
    by_body (body.Job own) = refl
    by_body _ = refl

    by_object : (o : Option Object) → reserved_in (option_map (at_port without_place) o) ≡ reserved_in o - 1
    by_object None = refl
    by_object (Some o) = by_body o.body

giving_reserved : (xs : List Watch) (m : Map Object) (j : ℕ) → reserved_in (get (giving_back xs m) j) ≡ reserved_in (get m j) - count_by (is_at_port j) xs
giving_reserved [] m j = omega arith
giving_reserved (x ∷ xs) m j = omega (
  arith,
  sum_by-cons (λ (y : Watch). cond (is_at_port j y) 1 0) x xs,
  reserved_back m x.port j,
  giving_reserved xs (update m x.port (at_port without_place)) j,
)

giving_waits : (xs : List Watch) (m : Map Object) (j : ℕ) → waits_at (giving_back xs m) j ≡ waits_at m j
giving_waits [] m j = refl
giving_waits (x ∷ xs) m j =
    giving_waits xs (update m x.port (at_port without_place)) j ∙ sum_same (λ (e : ℕ × Object). waits_for j e.1) m x.port (at_port without_place) (λ o. refl)

-- no wait at the port is left, and as many at others
none_at : (k : ℕ) (xs : List Watch) → ◌≡◌ {A = ℕ} (count_by (is_at_port k) (filter (λ x. not (is_at_port k x)) xs)) 0
none_at k [] = refl
none_at k (x ∷ xs) = elim (cases_Bool (x.port == k)) as (λ _. ◌≡◌ {A = ℕ} (count_by (is_at_port k) (filter (λ y. not (is_at_port k y)) (x ∷ xs))) 0) [
  | inl here ↦ rw here (none_at k xs)
  | inr other ↦
      let no : ◌≡◌ {A = ℕ} (cond (x.port == k) 1 0) 0 = rw other refl in
      rw other (omega (arith, sum_by-cons (λ (y : Watch). cond (is_at_port k y) 1 0) x (filter (λ y. not (is_at_port k y)) xs), no, none_at k xs))
]

module _ (k j : ℕ) (apart : (k == j) ≡ false) where
  abbrev at_other : Watch → ℕ
  at_other x = cond (is_at_port j x) 1 0

  others_at : (xs : List Watch) → sum_by at_other (filter (λ x. not (is_at_port k x)) xs) ≡ sum_by at_other xs
  others_at [] = refl
  others_at (x ∷ xs) = elim (cases_Bool (x.port == k)) as (λ _. sum_by at_other (filter (λ y. not (is_at_port k y)) (x ∷ xs)) ≡ sum_by at_other (x ∷ xs)) [
    | inl here ↦
        let no : ◌≡◌ {A = ℕ} (at_other x) 0 = rw (eqb-true x.port k here, apart) refl in
        rw here (omega (arith, sum_by-cons at_other x xs, no, others_at xs))
    | inr other ↦ rw other (omega (arith, sum_by-cons at_other x (filter (λ y. not (is_at_port k y)) xs), sum_by-cons at_other x xs, others_at xs))
  ]

  each_others : (m : Map Object) → waits_at (each (λ i. without_port_waits k) m) j ≡ waits_at m j
  unfolding each
  each_others [] = refl
  each_others (e ∷ m) =
      let n : ℕ × Object → ℕ = λ x. waits_for j x.1 in
      omega (
        arith,
        sum_by-cons n (e.0, without_port_waits k e.1) (each (λ i. without_port_waits k) m),
        sum_by-cons n e m,
        others_at e.1.signals.waits,
        each_others m,
      )

each_none : (k : ℕ) (m : Map Object) → ◌≡◌ {A = ℕ} (waits_at (each (λ j. without_port_waits k) m) k) 0
unfolding each
each_none k [] = refl
each_none k (e ∷ m) = omega (
  arith,
  sum_by-cons (λ (x : ℕ × Object). waits_for k x.1) (e.0, without_port_waits k e.1) (each (λ j. without_port_waits k) m),
  none_at k e.1.signals.waits,
  each_none k m,
)

each_reserved : (k j : ℕ) (m : Map Object) → reserved_in (get (each (λ i. without_port_waits k) m) j) ≡ reserved_in (get m j)
each_reserved k j m = ap reserved_in (get-each m (λ i. without_port_waits k) j) ∙ by_object (get m j)
  where
    by_object : (o : Option Object) → reserved_in (option_map (without_port_waits k) o) ≡ reserved_in o
    by_object None = refl
    by_object (Some o) = refl

-- just as many places are reserved as waits are left, where k alone has gone
pub ending_places : (m : Map Object) (k : ℕ) (o : Object) → get m k ≡ Some o → length (without m k) + 1 ≡ length m → HavePlaces m
    → HavePlaces (ending_waits k o (without m k))
ending_places m k o there once have j = by_key (cases_Bool (k == j))
  where
    mid : Map Object
    mid = giving_back o.signals.waits (without m k)

    fewer : waits_at mid j + waits_for j o ≡ waits_at m j
    fewer = omega (arith, giving_waits o.signals.waits (without m k) j, sum_taken (λ (e : ℕ × Object). waits_for j e.1) m k o there once)

    reserved : reserved_in (get mid j) ≡ reserved_in (get (without m k) j) - waits_for j o
    reserved = giving_reserved o.signals.waits (without m k) j

    other : (k == j) ≡ false → (b : Bool) → waits_at mid j ≡ reserved_in (get mid j)
        → waits_at (ending_port k b mid) j + 0 ≡ reserved_in (get (ending_port k b mid) j)
    other apart true h = omega (arith, each_others k j apart mid, each_reserved k j mid, h)
    other apart false h = omega (arith, h)

    -- no place is reserved at k any more
    this : (b : Bool) → nat_lt 0 (reserved_of o.body) ≡ b → k ≡ j → ◌≡◌ {A = ℕ} (reserved_in (get mid j)) 0
        → waits_at (ending_port k b mid) j + 0 ≡ reserved_in (get (ending_port k b mid) j)
    this true is key gone =
        let none : ◌≡◌ {A = ℕ} (waits_at (ending_port k true mid) j) 0 = ap (waits_at (ending_port k true mid)) (sym key) ∙ each_none k mid in
        omega (arith, none, each_reserved k j mid, gone)
    this false is key gone =
        let at : reserved_in (get m j) ≡ reserved_of o.body = ap reserved_in (ap (get m) (sym key) ∙ there) in
        let zero : ◌≡◌ {A = ℕ} (reserved_of o.body) 0 = grind (arith, nat_tests, is) in
        omega (arith, fewer, have j, at, zero, gone)

    by_key : IsTrue (k == j) ⊎ ((k == j) ≡ false) → waits_at (ending_waits k o (without m k)) j + 0 ≡ reserved_in (get (ending_waits k o (without m k)) j)
    by_key (inl here) =
        let out : get (without m k) j ≡ None = get-without m k j ∙ rw here refl in
        let left : ◌≡◌ {A = ℕ} (reserved_in (get (without m k) j)) 0 = ap reserved_in out in
        this (nat_lt 0 (reserved_of o.body)) refl (eqb-true k j here) (omega (arith, reserved, left))
    by_key (inr apart) =
        let left : get (without m k) j ≡ get m j = get-without m k j ∙ rw apart refl in
        let still : reserved_in (get (without m k) j) ≡ reserved_in (get m j) = ap reserved_in left in
        other apart (nat_lt 0 (reserved_of o.body)) (omega (arith, fewer, have j, reserved, still))

-- k has gone
pub ending_gone : (m : Map Object) (k : ℕ) (o : Object) → ((n : Map Object) → AreSameButWaits (without m k) n → has_key n k ≡ has_key (without m k) k)
    → has_key (ending_waits k o (without m k)) k ≡ false
ending_gone m k o same = same (ending_waits k o (without m k)) (ending_bare k o (without m k)) ∙ rw (get-without m k k, eq-eqb k k refl) refl

-- ---- every wait has its port

wait_counts : (K : ℕ → Bool) (xs : List Watch) → ((p : ℕ) → 0 < count_by (is_at_port p) xs → IsTrue (K p)) → filter (λ x. K x.port) xs ≡ xs
wait_counts K [] each_there = refl
wait_counts K (x ∷ xs) each_there =
    rw first (ap (λ (ys : List Watch). x ∷ ys)
    (wait_counts K xs (λ p some. each_there p (omega (arith, some, sum_by-cons (λ (y : Watch). cond (is_at_port p y) 1 0) x xs)))))
  where
    one : ◌≡◌ {A = ℕ} (cond (is_at_port x.port x) 1 0) 1
    one = rw (eq-eqb x.port x.port refl) refl

    first : IsTrue (K x.port)
    first = each_there x.port (omega (arith, one, sum_by-cons (λ (y : Watch). cond (is_at_port x.port y) 1 0) x xs))

pub all_ports_there : (m : Map Object) → HavePlaces m → (k : ℕ) (o : Object) → get m k ≡ Some o
    → filter (λ (x : Watch). has_key m x.port) o.signals.waits ≡ o.signals.waits
all_ports_there m have k o at =
    wait_counts (has_key m) o.signals.waits (λ p some. by_object p (get m p) refl
    (omega (arith, some, have p, sum_updated (λ (e : ℕ × Object). waits_for p e.1) m k o (without_port_waits p) at, none_at p o.signals.waits)))
  where
    by_object : (p : ℕ) (q : Option Object) → get m p ≡ q → 0 < reserved_in (get m p) → IsTrue (has_key m p)
    by_object p None is some = absurd (let zero : ◌≡◌ {A = ℕ} (reserved_in (get m p)) 0 = ap reserved_in is in omega (arith, some, zero))
    by_object p (Some q) is some = rw is refl
