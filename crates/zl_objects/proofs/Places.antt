-- The places that are reserved for the packets of waits, after each change of the objects.
use Rattle.zl_objects.proofs.Common.{Body, Bool, HavePlaces, HavePlacesWith, IsTrue, List, Map, None, Object, Option, Port, Some, Watch, [], ap, arith, at_port}
use Rattle.zl_objects.proofs.Common.{cases_Bool, changed_port, cond, count_by, drop, eq-eqb, eqb-true, false, false≢true, find, get, get-put, get-update}
use Rattle.zl_objects.proofs.Common.{has_key, has_place_in, if◌then◌else◌, inl, inr, is_at_port, is_port_at, is_port_in, is_some, nat_tests, one_for}
use Rattle.zl_objects.proofs.Common.{option_map, position_or_len, put, refl, reserved_in, reserved_of, subst, suc, sum_by-append, sum_by-cons, sym, take, true}
use Rattle.zl_objects.proofs.Common.{unwatched, update, update_missing, waits_at, waits_for, waits_in, watched, with_place, without_first, without_place, ℕ}
use Rattle.zl_objects.proofs.Common.{◌++◌, ◌+◌, ◌-◌, ◌<◌, ◌==◌, ◌∙◌, ◌∷◌, ◌≡◌, ◌⊎◌}
use Rattle.zl_objects.specs.declared.object.Body.TheVariants as body
use Rattle.zl_objects.proofs.ByKoid.{put_last}
use Rattle.zl_objects.proofs.Sums.{sum_same, sum_updated}

-- ---- one object is written

-- what is seen of each object, where the change keeps it
pub seen_updated : {X : Type 0} (g : Option Object → X) (f : Object → Object) → ((o : Object) → g (Some (f o)) ≡ g (Some o)) → (m : Map Object) (k j : ℕ)
    → g (get (update m k f) j) ≡ g (get m j)
seen_updated g f same m k j =
    ap g (get-update m k f j) ∙ elim (cases_Bool (k == j)) as (λ _. g (if k == j then option_map f (get m j) else get m j) ≡ g (get m j)) [
      | inl here ↦ rw here (by_object (get m j))
      | inr apart ↦ rw apart refl
    ]
  where
    by_object : (o : Option Object) → g (option_map f o) ≡ g o
    by_object None = refl
    by_object (Some o) = same o

-- as many waits, and as many places
pub places_updated : (f : Object → Object) → ((j : ℕ) (o : Object) → waits_for j (f o) ≡ waits_for j o)
    → ((o : Object) → reserved_of (f o).body ≡ reserved_of o.body)
    → (x : Option Watch) (m : Map Object) (k : ℕ) → HavePlacesWith x m → HavePlacesWith x (update m k f)
places_updated f waits same x m k have j =
    let reserved : reserved_in (get (update m k f) j) ≡ reserved_in (get m j) = seen_updated reserved_in f same m k j in
    omega (arith, have j, sum_same (λ (e : ℕ × Object). waits_for j e.1) m k f (waits j), reserved)

-- ---- the first wait that passes is taken out

cut_later : {X : Type 0} (n : ℕ) (x : X) (xs : List X) → take (1 + n) (x ∷ xs) ++ drop (1 + n + 1) (x ∷ xs) ≡ x ∷ (take n xs ++ drop (n + 1) xs)
cut_later n x xs =
    let one : ◌≡◌ {A = ℕ} (1 + n) (suc n) = omega arith in
    let two : ◌≡◌ {A = ℕ} (1 + n + 1) (suc (n + 1)) = omega arith in
    λ i. take (one i) (x ∷ xs) ++ drop (two i) (x ∷ xs)

pub first_out : {X : Type 0} (test : X → Bool) (x : X) (xs : List X) → without_first test (x ∷ xs) ≡ cond (test x) xs (x ∷ without_first test xs)
first_out test x xs = elim (cases_Bool (test x)) as (λ _. without_first test (x ∷ xs) ≡ cond (test x) xs (x ∷ without_first test xs)) [
  | inl here ↦ rw here refl
  | inr apart ↦ rw apart (cut_later (position_or_len test xs) x xs)
]

counted_out : (j : ℕ) (test : Watch → Bool) (xs : List Watch)
    → count_by (is_at_port j) xs ≡ count_by (is_at_port j) (without_first test xs) + one_for j (find test xs)
counted_out j test [] = refl
counted_out j test (x ∷ xs) =
    elim (cases_Bool (test x))
    as (λ _. count_by (is_at_port j) (x ∷ xs) ≡ count_by (is_at_port j) (without_first test (x ∷ xs)) + one_for j (find test (x ∷ xs))) [
      | inl here ↦ rw (first_out test x xs, here) (omega (arith, sum_by-cons (λ (y : Watch). cond (is_at_port j y) 1 0) x xs))
      | inr apart ↦ rw (first_out test x xs, apart) (omega (
        arith,
        sum_by-cons (λ (y : Watch). cond (is_at_port j y) 1 0) x xs,
        sum_by-cons (λ (y : Watch). cond (is_at_port j y) 1 0) x (without_first test xs),
        counted_out j test xs,
      ))
    ]

-- the place of what was taken out is left
pub places_unwatched : (test : Watch → Bool) (m : Map Object) (k : ℕ) → HavePlaces m
    → HavePlacesWith (find test (waits_in (get m k))) (update m k (unwatched test))
places_unwatched test m k have = by_object (get m k) refl
  where
    by_object : (q : Option Object) → get m k ≡ q → HavePlacesWith (find test (waits_in q)) (update m k (unwatched test))
    by_object None is j = rw (update_missing m k (unwatched test) is) (have j)
    by_object (Some o) is j =
        let reserved : reserved_in (get (update m k (unwatched test)) j) ≡ reserved_in (get m j) =
        seen_updated reserved_in (unwatched test) (λ q. refl) m k j in
        omega (arith, have j, sum_updated (λ (e : ℕ × Object). waits_for j e.1) m k o (unwatched test) is, counted_out j test o.signals.waits, reserved)

-- ---- the port of one wait

reserved_at_port : (f : Port → Port) (m : Map Object) (p j : ℕ)
    → reserved_in (get (update m p (at_port f)) j) ≡ (if p == j then reserved_in (option_map (at_port f) (get m j)) else reserved_in (get m j))
reserved_at_port f m p j =
    ap reserved_in (get-update m p (at_port f) j) ∙ elim (p == j) as (λ b. reserved_in (if b then option_map (at_port f) (get m j) else get m j)
    ≡ (if b then reserved_in (option_map (at_port f) (get m j)) else reserved_in (get m j))) [ true ↦ refl | false ↦ refl ]

waits_at_port : (f : Port → Port) (m : Map Object) (p j : ℕ) → waits_at (update m p (at_port f)) j ≡ waits_at m j
waits_at_port f m p j = sum_same (λ (e : ℕ × Object). waits_for j e.1) m p (at_port f) (λ o. refl)

-- its place is no longer reserved
pub places_used : (f : Port → Port) → ((p : Port) → (f p).reserved ≡ p.reserved - 1) → (x : Watch) (m : Map Object) → HavePlacesWith (Some x) m
    → HavePlaces (update m x.port (at_port f))
places_used f less x m have j =
    elim (cases_Bool (x.port == j)) as (λ _. waits_at (update m x.port (at_port f)) j + 0 ≡ reserved_in (get (update m x.port (at_port f)) j)) [
      | inl here ↦
          let one : ◌≡◌ {A = ℕ} (cond (x.port == j) 1 0) 1 = rw here refl in
          let reserved : reserved_in (get (update m x.port (at_port f)) j) ≡ reserved_in (get m j) - 1 =
          reserved_at_port f m x.port j ∙ rw here (by_object (get m j)) in
          omega (arith, have j, waits_at_port f m x.port j, one, reserved)
      | inr apart ↦
          let none : ◌≡◌ {A = ℕ} (cond (x.port == j) 1 0) 0 = rw apart refl in
          let reserved : reserved_in (get (update m x.port (at_port f)) j) ≡ reserved_in (get m j) = reserved_at_port f m x.port j ∙ rw apart refl in
          omega (arith, have j, waits_at_port f m x.port j, none, reserved)
    ]
  where
    by_body : (b : Body) → reserved_of (changed_port f b) ≡ reserved_of b - 1
    by_body (body.Port port) = less port
    by_body _ = refl

    by_object : (o : Option Object) → reserved_in (option_map (at_port f) o) ≡ reserved_in o - 1
    by_object None = refl
    by_object (Some o) = by_body o.body

-- a place is reserved for it
pub places_made : (x : Watch) (m : Map Object) → IsTrue (is_port_at m x.port) → HavePlaces m → HavePlacesWith (Some x) (update m x.port (at_port with_place))
places_made x m port have j = elim (cases_Bool (x.port == j))
    as (λ _. waits_at (update m x.port (at_port with_place)) j + cond (x.port == j) 1 0 ≡ reserved_in (get (update m x.port (at_port with_place)) j)) [
      | inl here ↦
          let one : ◌≡◌ {A = ℕ} (cond (x.port == j) 1 0) 1 = rw here refl in
          let reserved : reserved_in (get (update m x.port (at_port with_place)) j) ≡ reserved_in (get m j) + 1 =
          reserved_at_port with_place m x.port j ∙ rw here (by_object (get m j) (subst (λ (i : ℕ). IsTrue (is_port_at m i)) (eqb-true x.port j here) port)) in
          omega (arith, have j, waits_at_port with_place m x.port j, one, reserved)
      | inr apart ↦
          let none : ◌≡◌ {A = ℕ} (cond (x.port == j) 1 0) 0 = rw apart refl in
          let reserved : reserved_in (get (update m x.port (at_port with_place)) j) ≡ reserved_in (get m j) =
          reserved_at_port with_place m x.port j ∙ rw apart refl in
          omega (arith, have j, waits_at_port with_place m x.port j, none, reserved)
    ]
  where
    by_object : (o : Option Object) → IsTrue (is_port_in o) → reserved_in (option_map (at_port with_place) o) ≡ reserved_in o + 1
    by_object None h = absurd (false≢true h)
    by_object (Some o) h = by_body o.body h
      where
        by_body : (b : Body) → IsTrue (is_port_in (Some (record o { body = b }))) → reserved_of (changed_port with_place b) ≡ reserved_of b + 1
        by_body (body.Port p) is_port = refl
        by_body _ no_port = absurd (false≢true no_port)

-- it is registered, in its place
pub places_taken : (x : Watch) (m : Map Object) (k : ℕ) → IsTrue (has_key m k) → HavePlacesWith (Some x) m → HavePlaces (update m k (watched x))
places_taken x m k there have = by_object (get m k) refl there
  where
    by_object : (q : Option Object) → get m k ≡ q → IsTrue (is_some q) → HavePlaces (update m k (watched x))
    by_object None is h j = absurd (false≢true h)
    by_object (Some o) is h j =
        let reserved : reserved_in (get (update m k (watched x)) j) ≡ reserved_in (get m j) = seen_updated reserved_in (watched x) (λ q. refl) m k j in
        omega (
          arith,
          have j,
          sum_updated (λ (e : ℕ × Object). waits_for j e.1) m k o (watched x) is,
          sum_by-append (λ (y : Watch). cond (is_at_port j y) 1 0) o.signals.waits (x ∷ []),
          sum_by-cons (λ (y : Watch). cond (is_at_port j y) 1 0) x [],
          reserved,
        )

-- a place is there
pub place_there : (x : Watch) (m : Map Object) → HavePlacesWith (Some x) m → IsTrue (has_place_in (get m x.port))
place_there x m have = by_object (get m x.port) refl
  where
    by_object : (q : Option Object) → get m x.port ≡ q → IsTrue (has_place_in q)
    by_object None is = refl
    by_object (Some o) is = by_body o.body refl
      where
        here : (x.port == x.port) ≡ true
        here = eq-eqb x.port x.port refl

        by_body : (b : Body) → o.body ≡ b → IsTrue (has_place_in (Some (record o { body = b })))
        by_body (body.Port p) same =
            let one : ◌≡◌ {A = ℕ} (cond (x.port == x.port) 1 0) 1 = rw here refl in
            let reserved : reserved_in (get m x.port) ≡ p.reserved = ap reserved_in is ∙ ap reserved_of same in
            let some : 0 < p.reserved = omega (arith, have x.port, one, reserved) in
            grind (arith, nat_tests, some)
        by_body _ same = refl

-- the place is given back, as there was no memory for the wait
pub place_back : (m : Map Object) (p : ℕ) → update (update m p (at_port with_place)) p (at_port without_place) ≡ m
unfolding update
place_back [] p = refl
place_back (e ∷ m) p = elim (cases_Bool (e.0 == p)) as (λ _. update (update (e ∷ m) p (at_port with_place)) p (at_port without_place) ≡ e ∷ m) [
  | inl here ↦ rw (here, eq-eqb p p refl) (λ i. (sym (eqb-true e.0 p here) i, same_object e.1 i) ∷ m)
  | inr apart ↦ rw (apart, apart) (ap (λ (n : Map Object). e ∷ n) (place_back m p))
]
  where
    same_body : (b : Body) → changed_port without_place (changed_port with_place b) ≡ b
    same_body (body.Port q) =
        let reserved : ◌≡◌ {A = ℕ} (q.reserved + 1 - 1) q.reserved = omega arith in
        ap (λ (n : ℕ). body.Port (record q { reserved = n })) reserved
    same_body _ = refl

    same_object : (o : Object) → at_port without_place (at_port with_place o) ≡ o
    same_object o = ap (λ (b : Body). record o { body = b }) (same_body o.body)

-- ---- one object more

-- no place is reserved at it
pub places_put : (m : Map Object) (next : ℕ) (o : Object) → ((j : ℕ) → IsTrue (has_key m j) → j < next) → o.signals.waits ≡ []
    → reserved_of o.body ≡ 0 → HavePlaces m → HavePlaces (put m next o)
places_put m next o below none empty have j = by_key (cases_Bool (next == j))
  where
    no_waits : ◌≡◌ {A = ℕ} (waits_for j o) 0
    no_waits = rw none refl

    waits : waits_at (put m next o) j ≡ waits_at m j
    waits = rw (put_last m next o below) (omega (
      arith,
      sum_by-append (λ (e : ℕ × Object). waits_for j e.1) m ((next, o) ∷ []),
      sum_by-cons (λ (e : ℕ × Object). waits_for j e.1) (next, o) [],
      no_waits,
    ))

    reserved : reserved_in (get (put m next o) j) ≡ reserved_in (if next == j then Some o else get m j)
    reserved = ap reserved_in (get-put m next o j)

    -- no object has the new koid yet
    fresh : (q : Option Object) → get m next ≡ q → ◌≡◌ {A = ℕ} (reserved_in q) 0
    fresh None is = refl
    fresh (Some q) is = absurd (omega (arith, below next (rw is refl)))

    by_key : IsTrue (next == j) ⊎ ((next == j) ≡ false) → waits_at (put m next o) j + 0 ≡ reserved_in (get (put m next o) j)
    by_key (inl here) =
        let same : next ≡ j = eqb-true next j here in
        let nothing : ◌≡◌ {A = ℕ} (waits_at m next) 0 = omega (arith, have next, fresh (get m next) refl) in
        let moved : waits_at m next ≡ waits_at m j = ap (waits_at m) same in
        let new : reserved_in (get (put m next o) j) ≡ reserved_of o.body = reserved ∙ rw here refl in
        omega (arith, waits, moved, nothing, new, empty)
    by_key (inr apart) =
        let old : reserved_in (get (put m next o) j) ≡ reserved_in (get m j) = reserved ∙ rw apart refl in
        omega (arith, waits, old, have j)
