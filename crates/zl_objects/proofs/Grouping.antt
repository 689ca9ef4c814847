-- What those at each koid wait for, taken together, as one joins a group or a group goes.
use Rattle.zl_objects.proofs.Common.{All, Awaited, Bool, IsNonDecreasingBy, IsPlace, List, Sleeper, None, Option, Some, [], ap, arith, bit_and, bit_or}
use Rattle.zl_objects.proofs.Common.{cases_Bool, cases_lt, cond, drop, eq-eqb, eqb-true, false, false≢true, find, get_or, if◌then◌else◌, inl, inr, insert}
use Rattle.zl_objects.proofs.Common.{is_given, koid_of, length, max, meets, min, ne_eqb, not, or_parts, refl, remove, slice_get, subst, suc, sym, take, true}
use Rattle.zl_objects.proofs.Common.{zero, ℕ, ◌++◌, ◌+◌, ◌<◌, ◌==◌, ◌∙◌, ◌∷◌, ◌≡◌, ◌≢◌, ◌≤◌, ◌&&◌}
use Rattle.std.specs.Int.{bit_at}
use Rattle.std.specs.Prelude.{slice_set}
use Rattle.std.proofs.lemmas.Nat.{le_or_l, le_or_r}
use Rattle.std.proofs.lemmas.Nat.Bits.{same_from_bits, bit_at_and, bit_at_or}
use Rattle.std.proofs.lemmas.List.{get_or_default}
use Rattle.std.proofs.lemmas.List.Sorted.{IsNonDecreasingBy-insert}
use Rattle.std.proofs.lemmas.Option.{slice_get-get_or, slice_get_within}
use Rattle.zl_objects.specs.declared.awaited.Awaited.TheVariants as awaits
use Rattle.zl_objects.specs.declared.groups.Group.{Group}
use Rattle.zl_objects.specs.Groups.{Counts, Covers, IsGroupPlace, empty_group, group_at, is_group_at, joined, may_wake, sees, sees_found}

-- ---- masks

spread : (x y z : ℕ) → min x (max y z) ≡ max (min x y) (min x z)
spread x y z = omega arith

both_masks : (signals a b : ℕ) → bit_and signals (bit_or a b) ≡ bit_or (bit_and signals a) (bit_and signals b)
both_masks signals a b = same_from_bits _ _ by_bit
  where
    by_bit : (i : ℕ) → bit_at (bit_and signals (bit_or a b)) i ≡ bit_at (bit_or (bit_and signals a) (bit_and signals b)) i
    by_bit i =
        rw (
          bit_at_and signals (bit_or a b) i,
          bit_at_or a b i,
          bit_at_or (bit_and signals a) (bit_and signals b) i,
          bit_at_and signals a i,
          bit_at_and signals b i,
        )
        (spread (bit_at signals i) (bit_at a i) (bit_at b i))

apart_is : (signals mask : ℕ) → meets signals mask ≡ false → bit_and signals mask ≡ 0
apart_is signals mask h = by_test (bit_and signals mask == 0) refl h
  where
    by_test : (b : Bool) → (bit_and signals mask == 0) ≡ b → not b ≡ false → bit_and signals mask ≡ 0
    by_test true is h = eqb-true (bit_and signals mask) 0 is
    by_test false is h = absurd (false≢true (sym h))

-- what meets neither of two masks together meets none of them
neither : (signals a b : ℕ) → meets signals (bit_or a b) ≡ false → (meets signals a ≡ false) × (meets signals b ≡ false)
neither signals a b h =
    let none : bit_or (bit_and signals a) (bit_and signals b) ≡ 0 = sym (both_masks signals a b) ∙ apart_is signals (bit_or a b) h in
    let one : bit_and signals a ≡ 0 = omega (arith, none, le_or_l (bit_and signals a) (bit_and signals b)) in
    let other : bit_and signals b ≡ 0 = omega (arith, none, le_or_r (bit_and signals a) (bit_and signals b)) in
    (rw one refl, rw other refl)

-- ---- one joins a group

module _ (signals : ℕ) (packets : Bool) (g : Group) where
  -- who was in it still is
  joined_more : (a : Awaited) → sees signals packets (joined a g) ≡ false → sees signals packets g ≡ false
  joined_more (awaits.SignalOf k mask) h =
      let both = or_parts (meets signals (bit_or g.masks mask)) (packets && g.packets) h in
      rw ((neither signals g.masks mask both.0).0, both.1) refl
  joined_more (awaits.PacketAt k) h =
      let both = or_parts (meets signals g.masks) (packets && true) h in
      rw (both.0, none packets both.1) refl
    where
      none : (b : Bool) → (b && true) ≡ false → b ≡ false
      none true h = h
      none false h = h

  -- who joined is
  joined_one : (a : Awaited) → sees signals packets (joined a g) ≡ false → is_given signals packets a ≡ false
  joined_one (awaits.SignalOf k mask) h =
      (neither signals g.masks mask (or_parts (meets signals (bit_or g.masks mask)) (packets && g.packets) h).0).1
  joined_one (awaits.PacketAt k) h = none packets (or_parts (meets signals g.masks) (packets && true) h).1
    where
      none : (b : Bool) → (b && true) ≡ false → b ≡ false
      none true h = h
      none false h = h

-- ---- the first that passes, where a list is written

module _ {X : Type 0} (test : X → Bool) where
  find_none : (xs : List X) → All (λ x. test x ≡ false) xs → find test xs ≡ None
  find_none [] fails = refl
  find_none (x ∷ xs) fails = rw (fails 0 x (omega arith)) (find_none xs (λ i d inside. fails (suc i) d (omega (arith, inside))))

  module _ (d : X) where
    find_here : (xs : List X) (p : ℕ) → p < length xs → ((i : ℕ) → i < p → test (get_or xs i d) ≡ false) → test (get_or xs p d) ≡ true
        → find test xs ≡ Some (get_or xs p d)
    find_here [] p inside fails passes = absurd (omega (arith, inside))
    find_here (x ∷ xs) zero inside fails passes = rw passes refl
    find_here (x ∷ xs) (suc p) inside fails passes =
        rw (fails 0 (omega arith)) (find_here xs p (omega (arith, inside)) (λ i less. fails (suc i) (omega (arith, less))) passes)

    set_here : (xs : List X) (p : ℕ) (y : X) → p < length xs → ((i : ℕ) → i < p → test (get_or xs i d) ≡ false) → test y ≡ true
        → find test (slice_set xs p y) ≡ Some y
    set_here [] p y inside fails passes = absurd (omega (arith, inside))
    set_here (x ∷ xs) zero y inside fails passes = rw passes refl
    set_here (x ∷ xs) (suc p) y inside fails passes =
        rw (fails 0 (omega arith)) (set_here xs p y (omega (arith, inside)) (λ i less. fails (suc i) (omega (arith, less))) passes)

    set_apart : (xs : List X) (p : ℕ) (y : X) → test y ≡ false → test (get_or xs p d) ≡ false → find test (slice_set xs p y) ≡ find test xs
    set_apart [] p y fails fails2 = refl
    set_apart (x ∷ xs) zero y fails fails2 = rw (fails, fails2) refl
    set_apart (x ∷ xs) (suc p) y fails fails2 = ap (cond (test x) (Some x)) (set_apart xs p y fails fails2)

    put_here : (xs : List X) (p : ℕ) (y : X) → ((i : ℕ) → i < p → test (get_or xs i d) ≡ false) → p ≤ length xs → test y ≡ true
        → find test (insert xs p y) ≡ Some y
    put_here xs zero y fails inside passes = rw passes refl
    put_here [] (suc p) y fails inside passes = absurd (omega (arith, inside))
    put_here (x ∷ xs) (suc p) y fails inside passes =
        rw (fails 0 (omega arith)) (put_here xs p y (λ i less. fails (suc i) (omega (arith, less))) (omega (arith, inside)) passes)

    put_apart : (xs : List X) (p : ℕ) (y : X) → test y ≡ false → find test (insert xs p y) ≡ find test xs
    put_apart xs zero y fails = rw fails refl
    put_apart [] (suc p) y fails = rw fails refl
    put_apart (x ∷ xs) (suc p) y fails = ap (cond (test x) (Some x)) (put_apart xs p y fails)

    gone_apart : (xs : List X) (p : ℕ) → test (get_or xs p d) ≡ false → find test (take p xs ++ drop (suc p) xs) ≡ find test xs
    gone_apart [] zero fails = refl
    gone_apart [] (suc p) fails = refl
    gone_apart (x ∷ xs) zero fails = rw fails refl
    gone_apart (x ∷ xs) (suc p) fails = ap (cond (test x) (Some x)) (gone_apart xs p fails)

-- ---- the groups in order

-- at the koid none is seen less
abbrev pub SeesMore : List Group → List Group → ℕ → Type 0
SeesMore list list2 j =
    (signals : ℕ) (packets : Bool) → sees_found signals packets (group_at list2 j) ≡ false → sees_found signals packets (group_at list j) ≡ false

-- the groups at the koid are the same
same_sees : (list list2 : List Group) (j : ℕ) → group_at list2 j ≡ group_at list j → SeesMore list list2 j
same_sees list list2 j same signals packets h = ap (sees_found signals packets) (sym same) ∙ h

pub joined_koid : (a : Awaited) (g : Group) → (joined a g).koid ≡ g.koid
joined_koid (awaits.SignalOf k mask) g = refl
joined_koid (awaits.PacketAt k) g = refl

module _ (k : ℕ) (list : List Group) (place : ℕ) (is : IsGroupPlace k list place) where
  apart_before : (d : Group) (i : ℕ) → i < place → ((get_or list i d).koid == k) ≡ false
  apart_before d i less = ne_eqb _ k (λ same. absurd (omega (arith, same, is.before i d less)))

  -- the group at the koid stands at the place
  module _ (here : is_group_at k (slice_get list place) ≡ true) where
    inside : place < length list
    inside = by_group (slice_get list place) refl here
      where
        by_group : (o : Option Group) → slice_get list place ≡ o → is_group_at k o ≡ true → place < length list
        by_group None at_place h = absurd (false≢true h)
        by_group (Some g) at_place h = slice_get_within list place g at_place

    is_here : (d : Group) → ((get_or list place d).koid == k) ≡ true
    is_here d = subst (λ o. is_group_at k o ≡ true) (slice_get-get_or list place d inside) here

    its_koid : (d : Group) → (get_or list place d).koid ≡ k
    its_koid d = eqb-true _ k (is_here d)

    found : (d : Group) → group_at list k ≡ Some (get_or list place d)
    found d = find_here (λ x. x.koid == k) d list place inside (apart_before d) (is_here d)

    -- it goes
    gone_sees : (j : ℕ) → (j == k) ≡ false → SeesMore list (remove list place) j
    gone_sees j apart = same_sees list (remove list place) j (gone_apart (λ x. x.koid == j) (empty_group 0) list place
        (ne_eqb _ j (λ same. false≢true (sym apart ∙ eq-eqb j k (sym same ∙ its_koid (empty_group 0))))))

    -- another stands there in its place
    module _ (y : Group) (its : y.koid ≡ k) where
      set_found : group_at (slice_set list place y) k ≡ Some y
      set_found = set_here (λ x. x.koid == k) y list place y inside (apart_before y) (eq-eqb _ k its)

      set_other : (j : ℕ) → (j == k) ≡ false → SeesMore list (slice_set list place y) j
      set_other j apart =
          same_sees list (slice_set list place y) j (set_apart (λ x. x.koid == j) y list place y (other y its) (other (get_or list place y) (its_koid y)))
        where
          other : (x : Group) → x.koid ≡ k → (x.koid == j) ≡ false
          other x is_k = ne_eqb _ j (λ same. false≢true (sym apart ∙ eq-eqb j k (sym same ∙ is_k)))

    -- one joins it
    module _ (a : Awaited) (g : Group) (was : g ≡ get_or list place g) where
      joined_its : (joined a g).koid ≡ k
      joined_its = joined_koid a g ∙ (ap (λ (x : Group). x.koid) was ∙ its_koid g)

      set_one : (signals : ℕ) (packets : Bool) → sees_found signals packets (group_at (slice_set list place (joined a g)) k) ≡ false
          → is_given signals packets a ≡ false
      set_one signals packets h = joined_one signals packets g a (rw (set_found (joined a g) joined_its) at h)

      set_sees : (j : ℕ) → SeesMore list (slice_set list place (joined a g)) j
      set_sees j = elim (cases_Bool (j == k)) as (λ _. SeesMore list (slice_set list place (joined a g)) j) [
        | inl same ↦ subst (SeesMore list (slice_set list place (joined a g))) (sym (eqb-true j k same)) (λ signals packets h.
            rw (found g, ← was) (joined_more signals packets g a (rw (set_found (joined a g) joined_its) at h)))
        | inr apart ↦ set_other (joined a g) joined_its j apart
      ]

  -- no group is at the koid
  module _ (out : is_group_at k (slice_get list place) ≡ false) (up : IsNonDecreasingBy (λ (x : Group). x.koid) list) where
    none : group_at list k ≡ None
    none = find_none (λ x. x.koid == k) list (λ i d within. elim (cases_lt i place) as (λ _. ((get_or list i d).koid == k) ≡ false) [
      | inl less ↦ apart_before d i less
      | inr more ↦
          let apart : (get_or list place d).koid ≢ k = λ same. false≢true (sym (subst (λ o. is_group_at k o ≡ false)
          (slice_get-get_or list place d (omega (arith, more, within))) out) ∙ eq-eqb _ k same) in
          ne_eqb _ k (λ same. apart (omega (arith, same, up place i d more within, is.behind place d (omega arith) (omega (arith, more, within)))))
    ])

    module _ (a : Awaited) where
      abbrev new : Group
      new = joined a (empty_group k)

      put_one : (signals : ℕ) (packets : Bool) → sees_found signals packets (group_at (insert list place new) k) ≡ false
          → is_given signals packets a ≡ false
      put_one signals packets h = joined_one signals packets (empty_group k) a (rw (put_here (λ x. x.koid == k) new list place new
          (apart_before new) is.within (eq-eqb _ k (joined_koid a (empty_group k)))) at h)

      put_sees : (j : ℕ) → SeesMore list (insert list place new) j
      put_sees j = elim (cases_Bool (j == k)) as (λ _. SeesMore list (insert list place new) j) [
        | inl same ↦ λ signals packets h. rw (eqb-true j k same, none) refl
        | inr apart ↦ same_sees list (insert list place new) j (put_apart (λ x. x.koid == j) new list place new
            (ne_eqb _ j (λ same. false≢true (sym apart ∙ eq-eqb j k (sym same ∙ joined_koid a (empty_group k))))))
      ]

      put_in_order : IsNonDecreasingBy (λ (x : Group). x.koid) (insert list place new)
      put_in_order = IsNonDecreasingBy-insert (λ (x : Group). x.koid) list place new up is.within
          (λ i d low. let less = is.before i d low in omega (arith, less, joined_koid a (empty_group k)))
          (λ i d high within. let more = is.behind i d high within in omega (arith, more, joined_koid a (empty_group k)))

      pub if_in_order : (b : Bool) (list2 : List Group) → list2 ≡ (if b then insert list place new else list)
          → IsNonDecreasingBy (λ (x : Group). x.koid) list2
      if_in_order true list2 put = rw put put_in_order
      if_in_order false list2 same = rw same up

-- ---- who counts

module _ (crowded : Bool) (list list2 : List Group) (a : Awaited) where
  counts_more : SeesMore list list2 (koid_of a) → Counts crowded list a → Counts crowded list2 a
  counts_more more counts signals packets h =
      let both = or_parts crowded (sees_found signals packets (group_at list2 (koid_of a))) h in
      counts signals packets (rw (both.0, more signals packets both.1) refl)

-- one that just joined
counts_one : (crowded : Bool) (list : List Group) (a : Awaited)
    → ((signals : ℕ) (packets : Bool) → sees_found signals packets (group_at list (koid_of a)) ≡ false → is_given signals packets a ≡ false)
    → Counts crowded list a
counts_one crowded list a one signals packets h =
    one signals packets (or_parts crowded (sees_found signals packets (group_at list (koid_of a))) h).1

-- where there was no room for a group, all do
pub all_count : (list : List Group) (a : Awaited) → Counts true list a
all_count list a signals packets h = absurd (false≢true (sym h))

-- the groups where it is known which is at the koid
module _ (crowded : Bool) (k : ℕ) (list : List Group) (place : ℕ) (is : IsGroupPlace k list place) where
  module _ (here : is_group_at k (slice_get list place) ≡ true) where
    pub wakes_here : (signals : ℕ) (packets : Bool) (g : Group) → crowded ≡ false → g ≡ get_or list place g
        → sees signals packets g ≡ may_wake crowded list k signals packets
    wakes_here signals packets g room was = rw (room, found k list place is here g, ← was) refl

    pub gone_counts : (a : Awaited) → (koid_of a == k) ≡ false → Counts crowded list a → Counts crowded (remove list place) a
    gone_counts a apart = counts_more crowded list (remove list place) a (gone_sees k list place is here (koid_of a) apart)

    -- the group is made anew
    pub replaced_counts : (y : Group) → y.koid ≡ k → (a : Awaited) → Counts crowded list a → (koid_of a ≡ k → Covers y a)
        → Counts crowded (slice_set list place y) a
    replaced_counts y its a counts covers = elim (cases_Bool (koid_of a == k)) as (λ _. Counts crowded (slice_set list place y) a) [
      | inl same ↦ counts_one crowded (slice_set list place y) a (rw (eqb-true (koid_of a) k same) (λ signals packets h.
          covers (eqb-true (koid_of a) k same) signals packets (rw (set_found k list place is here y its) at h)))
      | inr apart ↦ counts_more crowded list (slice_set list place y) a (set_other k list place is here y its (koid_of a) apart) counts
    ]

    module _ (a : Awaited) (at_koid : k ≡ koid_of a) (g y : Group) (was : g ≡ get_or list place g) (joins : y ≡ joined a g) where
      pub set_counts : Counts crowded (slice_set list place y) a
      set_counts = rw joins (counts_one crowded (slice_set list place (joined a g)) a (rw (← at_koid) (set_one k list place is here a g was)))

      pub set_others : (b : Awaited) → Counts crowded list b → Counts crowded (slice_set list place y) b
      set_others b counts = rw joins (counts_more crowded list (slice_set list place (joined a g)) b (set_sees k list place is here a g was (koid_of b)) counts)

  module _ (out : is_group_at k (slice_get list place) ≡ false) (up : IsNonDecreasingBy (λ (x : Group). x.koid) list) where
    pub wakes_nowhere : (signals : ℕ) (packets : Bool) → crowded ≡ false → false ≡ may_wake crowded list k signals packets
    wakes_nowhere signals packets room = rw (room, none k list place is out up) refl

    module _ (a : Awaited) (at_koid : k ≡ koid_of a) (list2 : List Group) (put : list2 ≡ insert list place (joined a (empty_group k))) where
      pub put_counts : Counts crowded list2 a
      put_counts = rw put (counts_one crowded (insert list place (joined a (empty_group k))) a (rw (← at_koid) (put_one k list place is out up a)))

      pub put_others : (b : Awaited) → Counts crowded list b → Counts crowded list2 b
      put_others b counts =
          rw put (counts_more crowded list (insert list place (joined a (empty_group k))) b (put_sees k list place is out up a (koid_of b)) counts)

-- ---- a walk over those at one koid

-- those before the place that wait at the koid are in the group
abbrev pub AreJoined : Group → ℕ → List Sleeper → ℕ → Type 0
AreJoined g k list place = (i : ℕ) (d : Sleeper) → i < place → koid_of (get_or list i d).awaited ≡ k → Covers g (get_or list i d).awaited

module _ (g : Group) (k : ℕ) (list : List Sleeper) (place : ℕ) where
  pub none_joined : IsPlace (λ j. j < k) (λ j. k ≤ j) list place → AreJoined g k list place
  none_joined is i d less here = absurd (omega (arith, here, is.before i d less))

  module _ (are : AreJoined g k list place) where
    pub one_joined : (x : Sleeper) → place < length list → x ≡ get_or list place x → AreJoined (joined x.awaited g) k list (place + 1)
    one_joined x inside was i d less here signals packets h = elim (cases_lt i place) as (λ _. is_given signals packets (get_or list i d).awaited ≡ false) [
      | inl before ↦ are i d before here signals packets (joined_more signals packets g x.awaited h)
      | inr behind ↦
          let same : place ≡ i = omega (arith, less, behind) in
          subst (λ (n : ℕ). is_given signals packets (get_or list n d).awaited ≡ false) same
          (subst (λ (y : Sleeper). is_given signals packets y.awaited ≡ false) (was ∙ get_or_default list place x d inside)
          (joined_one signals packets g x.awaited h))
    ]

    pub all_joined : (end : ℕ) → IsPlace (λ j. j ≤ k) (λ j. k < j) list end → end ≤ place → (i : ℕ) (d : Sleeper) → i < length list
        → koid_of (get_or list i d).awaited ≡ k → Covers g (get_or list i d).awaited
    all_joined end ends past i d inside here = elim (cases_lt i place) as (λ _. Covers g (get_or list i d).awaited) [
      | inl before ↦ are i d before here
      | inr behind ↦ absurd (omega (arith, here, ends.behind i d (omega (arith, behind, past)) inside))
    ]
