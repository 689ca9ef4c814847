-- Who is listed as blocked, as one is listed, or taken off the list as what it waits for is there.
use Rattle.zl_objects.proofs.Common.{All, All-append, All-cons, All-drop, All-take, All-weaker, Awaited, Bool, Contains, Contains-append_cases}
use Rattle.zl_objects.proofs.Common.{Contains-append_left, Contains-append_right, IsAtRest, IsCalm, IsFirstDue, IsListed, IsNonDecreasingBy, IsPlace, IsPut}
use Rattle.zl_objects.proofs.Common.{IsTrue, IsUnlisted, List, ListsLast, Map, NoneDueAt, Object, Objects, Sleeper, Some, TakesDue, ap, arith, cases_Bool}
use Rattle.zl_objects.proofs.Common.{cases_lt, drop, eq-eqb, eqb-true, false, false≢true, filter, filter-append, get, get_or, if◌then◌else◌, inl, inr, insert}
use Rattle.zl_objects.proofs.Common.{is_due, is_for, has_packet, is_given, signals_at, koid_of, length, list_any, listed_for, ltb-false, ltb-true, map-append}
use Rattle.zl_objects.proofs.Common.{refl, remove, slept, subst, suc, sym, take, true, update, zero, ℕ, ◌++◌, ◌+◌, ◌<◌, ◌==◌, ◌∙◌, ◌∷◌, ◌≡◌, ◌≤◌, ◌⊎◌, []}
use Rattle.std.proofs.lemmas.List.{append-nil, length-append, get_or_append_left, get_or-append-add, get_or-take, get_or_default}
use Rattle.std.proofs.lemmas.List.{length-take, length-drop, get_or-drop, take-append-drop, drop_more}
use Rattle.std.proofs.Math.Dec.{ltb}
use Rattle.std.proofs.lemmas.List.Sorted.{IsNonDecreasingBy-insert}
use Rattle.std.proofs.lemmas.List.Edits.{length-remove}
use Rattle.zl_objects.specs.declared.awaited.Awaited.TheVariants as awaits
use Rattle.zl_objects.proofs.Bodies.{Changed, changed}
use Rattle.zl_objects.proofs.CalmChanges.{remarked_calm, unless_wanted}
use Rattle.zl_objects.proofs.CalmMade.{slept_calm}

-- ---- lists

module _ {X : Type 0} (P : X → Type 0) (xs ys : List X) (h : All P (xs ++ ys)) where
  left_of : All P xs
  left_of k d within = subst P (get_or_append_left xs ys d k within) (h k d (let long = length-append xs ys in omega (arith, within, long)))

  right_of : All P ys
  right_of k d within = subst P (get_or-append-add xs ys k d) (h (length xs + k) d (let long = length-append xs ys in omega (arith, within, long)))

none_pass : {X : Type 0} (test : X → Bool) (xs : List X) → All (λ x. test x ≡ false) xs → filter test xs ≡ []
none_pass test [] h = refl
none_pass test (x ∷ xs) h = rw (h 0 x (omega arith)) (none_pass test xs (λ i d inside. h (suc i) d (omega (arith, inside))))

-- ---- a walk over those at one koid

-- what is waited for at the port is waited for there
pub at_port : (port : ℕ) (a : Awaited) → is_for port a ≡ true → a ≡ awaits.PacketAt port
at_port port (awaits.SignalOf k mask) its = absurd (false≢true its)
at_port port (awaits.PacketAt k) its = ap awaits.PacketAt (eqb-true k port its)

-- of those before the place none at this koid passes, and all others wait there or at higher ones
pub record HasLooked (test : Sleeper → Bool) (k : ℕ) (list : List Sleeper) (place : ℕ) : Type 0 where
  pub passed : (i : ℕ) (d : Sleeper) → i < place → koid_of (get_or list i d).awaited ≡ k → test (get_or list i d) ≡ false
  pub above : (i : ℕ) (d : Sleeper) → place ≤ i → i < length list → k ≤ koid_of (get_or list i d).awaited

module _ (test : Sleeper → Bool) (k : ℕ) (list : List Sleeper) where
  module _ (place : ℕ) (looked : HasLooked test k list place) where
    pub look_ends : (end : ℕ) → IsPlace (λ j. j ≤ k) (λ j. k < j) list end → end ≤ place → (i : ℕ) (d : Sleeper) → i < length list
        → koid_of (get_or list i d).awaited ≡ k → test (get_or list i d) ≡ false
    look_ends end ends past i d inside here = elim (cases_Bool (ltb i place)) as (λ _. test (get_or list i d) ≡ false) [
      | inl less ↦ looked.passed i d (ltb-true i place less) here
      | inr more ↦ absurd (let high : place ≤ i = ltb-false i place more in omega (arith, here, ends.behind i d (omega (arith, high, past)) inside))
    ]

    -- one more was looked at
    pub look_more : (x : Sleeper) → place < length list → x ≡ get_or list place x → (koid_of x.awaited ≡ k → test x ≡ false)
        → HasLooked test k list (place + 1)
    look_more x inside was fails = record {
      passed = λ i d less here. elim (cases_lt i place) as (λ _. test (get_or list i d) ≡ false) [
        | inl before ↦ looked.passed i d before here
        | inr behind ↦
            let same : i ≡ place = omega (arith, less, behind) in
            let is : get_or list i d ≡ x =
            ap (λ (n : ℕ). get_or list n d) same ∙ (sym (get_or_default list place x d inside) ∙ sym was) in
            ap test is ∙ fails (sym (ap (λ (s : Sleeper). koid_of s.awaited) is) ∙ here)
      ];
      above = λ i d more within. looked.above i d (omega (arith, more)) within;
    }

-- what one waits for isn't there
pub not_due : (m : Map Object) (k : ℕ) (a : Awaited) → koid_of a ≡ k → is_given (signals_at m k) (has_packet (get m k)) a ≡ false → is_due m a ≡ false
not_due m k a here fails = subst (λ (j : ℕ). is_given (signals_at m j) (has_packet (get m j)) a ≡ false) (sym here) fails

-- the one at the place has what it waits for
pub first_due : (m : Map Object) (k : ℕ) (list : List Sleeper) (place end : ℕ) → HasLooked (λ s. is_due m s.awaited) k list place
    → IsPlace (λ j. j ≤ k) (λ j. k < j) list end → place < end → (x : Sleeper) → x ≡ get_or list place x
    → IsTrue (is_given (signals_at m k) (has_packet (get m k)) x.awaited) → IsFirstDue m list place
first_due m k list place end looked ends less x was given = record {
  inside = inside;
  due = λ d. subst (λ (y : Sleeper). IsTrue (is_due m y.awaited)) (was ∙ get_or_default list place x d inside) its;
  first = λ i d before here. looked.passed i d before (here ∙ at_koid d);
}
  where
    inside : place < length list
    inside = omega (arith, less, ends.within)

    at_koid : (d : Sleeper) → koid_of (get_or list place d).awaited ≡ k
    at_koid d = omega (arith, looked.above place d (omega arith) inside, ends.before place d less)

    its : IsTrue (is_due m x.awaited)
    its = subst (λ (j : ℕ). IsTrue (is_given (signals_at m j) (has_packet (get m j)) x.awaited))
        (sym (ap (λ (y : Sleeper). koid_of y.awaited) was ∙ at_koid x)) given

pub none_listed : (pid port : ℕ) (list : List Sleeper)
    → ((i : ℕ) (d : Sleeper) → i < length list → koid_of (get_or list i d).awaited ≡ port → ((get_or list i d).pid == pid) ≡ false)
    → list_any (λ q. q == pid) (listed_for list port) ≡ false
none_listed pid port [] none = refl
none_listed pid port (s ∷ list) none =
    let rest = none_listed pid port list (λ i d inside. none (suc i) d (omega (arith, inside))) in
    elim (cases_Bool (is_for port s.awaited)) as (λ _. list_any (λ q. q == pid) (listed_for (s ∷ list) port) ≡ false) [
      | inl its ↦ rw (its, none 0 s (omega arith) (ap koid_of (at_port port s.awaited its))) rest
      | inr other ↦ rw other rest
    ]

-- ---- one is listed

module _ (s : Sleeper) (list : List Sleeper) (place : ℕ) (behind : IsPlace (λ k. k ≤ koid_of s.awaited) (λ k. koid_of s.awaited < k) list place) where
  pub insert_in_order : IsNonDecreasingBy (λ (x : Sleeper). koid_of x.awaited) list → (b : Bool) (list2 : List Sleeper)
      → list2 ≡ (if b then insert list place s else list) → IsNonDecreasingBy (λ (x : Sleeper). koid_of x.awaited) list2
  insert_in_order up true list2 is = rw is (IsNonDecreasingBy-insert (λ (x : Sleeper). koid_of x.awaited) list place s up behind.within
      (λ k d low. behind.before k d low) (λ k d high inside. let above = behind.behind k d high inside in omega (arith, above)))
  insert_in_order up false list2 is = rw is up

  pub insert_all : (P : Sleeper → Type 0) → All P list → P s → (b : Bool) (list2 : List Sleeper)
      → list2 ≡ (if b then insert list place s else list) → All P list2
  insert_all P all one true list2 is = rw is (All-append P (take place list) (s ∷ drop place list) (All-take P place list all)
      (All-cons P s (drop place list) one (All-drop P place list all)))
  insert_all P all one false list2 is = rw is all

  pub insert_listed : (list2 : List Sleeper) → list2 ≡ insert list place s → IsUnlisted s.pid s.awaited list → IsListed s list list2
  insert_listed list2 is unlisted = record {
    front = take place list;
    rest = drop place list;
    old = sym (take-append-drop place list);
    new = is;
    behind = λ i d within. rw (get_or-drop place list i d)
        (behind.behind (place + i) d (omega arith) (let long = length-drop place list in omega (arith, within, long, behind.within)));
    unlisted = unlisted;
  }

module _ (s : Sleeper) (list list2 : List Sleeper) (crowded crowded2 : Bool) where
  pub put_there : IsPut s list crowded list2 crowded2 → IsTrue crowded2 ⊎ Contains list2 s
  put_there (inl room) = inr (rw room.1.new (Contains-append_right room.1.front (s ∷ room.1.rest) s (0, omega arith, refl)))
  put_there (inr full) = inl full.0

  -- who was listed still is
  pub put_others : IsPut s list crowded list2 crowded2 → (x : Sleeper) → IsTrue crowded ⊎ Contains list x → IsTrue crowded2 ⊎ Contains list2 x
  put_others (inr full) x there = inl full.0
  put_others (inl room) x (inl h) = inl (room.0 ∙ h)
  put_others (inl room) x (inr there) = inr (rw room.1.new (by_part (Contains-append_cases room.1.front room.1.rest x (rw room.1.old at there))))
    where
      by_part : Contains room.1.front x ⊎ Contains room.1.rest x → Contains (room.1.front ++ s ∷ room.1.rest) x
      by_part (inl early) = Contains-append_left room.1.front (s ∷ room.1.rest) x early
      by_part (inr late) = Contains-append_right room.1.front (s ∷ room.1.rest) x (Contains-append_right (s ∷ []) room.1.rest x late)

  -- it is the last for its port
  pub put_order : IsPut s list crowded list2 crowded2
      → IsTrue crowded2 ⊎ ((crowded2 ≡ crowded) × IsUnlisted s.pid s.awaited list × ListsLast s.pid s.awaited list list2)
  put_order (inr full) = inl full.0
  put_order (inl room) = inr (room.0, room.1.unlisted, last)
    where
      front : List Sleeper
      front = room.1.front

      rest : List Sleeper
      rest = room.1.rest

      later : (port : ℕ) → is_for port s.awaited ≡ true → filter (λ x. is_for port x.awaited) rest ≡ []
      later port its = none_pass (λ x. is_for port x.awaited) rest (All-weaker (λ x. koid_of s.awaited < koid_of x.awaited) (λ x. is_for port x.awaited ≡ false)
          (λ x apart. at_others s.awaited x.awaited its apart) rest room.1.behind)
        where
          at_others : (a b : Awaited) → is_for port a ≡ true → koid_of a < koid_of b → is_for port b ≡ false
          at_others (awaits.SignalOf k mask) b its apart = absurd (false≢true its)
          at_others (awaits.PacketAt k) (awaits.SignalOf j mask) its apart = refl
          at_others (awaits.PacketAt k) (awaits.PacketAt j) its apart = elim (cases_Bool (j == port)) as (λ _. (j == port) ≡ false) [
            | inl here ↦ absurd (omega (arith, apart, eqb-true k port its, eqb-true j port here))
            | inr other ↦ other
          ]

      last : ListsLast s.pid s.awaited list list2
      last port = rw (room.1.new, room.1.old) (elim (cases_Bool (is_for port s.awaited)) as
          (λ _. listed_for (front ++ s ∷ rest) port
          ≡ (if is_for port s.awaited then listed_for (front ++ rest) port ++ s.pid ∷ [] else listed_for (front ++ rest) port)) [
            | inl its ↦ rw (
              its,
              filter-append (λ x. is_for port x.awaited) front (s ∷ rest),
              filter-append (λ x. is_for port x.awaited) front rest,
              its,
              later port its,
              append-nil (filter (λ x. is_for port x.awaited) front),
            )
                (map-append (λ (x : Sleeper). x.pid) (filter (λ x. is_for port x.awaited) front) (s ∷ []))
            | inr other ↦ rw (
              other,
              filter-append (λ x. is_for port x.awaited) front (s ∷ rest),
              filter-append (λ x. is_for port x.awaited) front rest,
              other,
            ) refl
          ])

-- its object is marked if it is due
pub put_calm : {marked marked2 : ℕ → Bool} {next : ℕ} → ((j : ℕ) → IsTrue (marked j) → IsTrue (marked2 j)) → (m n : Map Object) (s : Sleeper)
    (list list2 : List Sleeper) (crowded crowded2 b : Bool) → koid_of s.awaited < next → n ≡ update m (koid_of s.awaited) slept → b ≡ is_due n s.awaited
    → (b ≡ true → IsTrue (marked2 (koid_of s.awaited))) → IsPut s list crowded list2 crowded2 → IsCalm marked m next list → IsCalm marked2 n next list2
put_calm {marked} {marked2} {next} more m n s list list2 crowded crowded2 b given is due wanted put calm = by_put put
  where
    after : IsCalm marked2 n next list
    after = remarked_calm more n n refl (slept_calm m n (koid_of s.awaited) is calm)

    known : (o : Object) → get n (koid_of s.awaited) ≡ Some o → IsTrue o.asleep
    known o at =
        let c : Changed slept m (koid_of s.awaited) (koid_of s.awaited) o = changed slept m (koid_of s.awaited) (koid_of s.awaited) o (rw is at at) in
        ap (λ (x : Object). x.asleep) c.is ∙ rw (eq-eqb (koid_of s.awaited) (koid_of s.awaited) refl) refl

    rests : IsAtRest marked2 n next s
    rests = record { given = given; known = known; calm = λ unmarked. unless_wanted _ b wanted unmarked _ due }

    by_put : IsPut s list crowded list2 crowded2 → IsCalm marked2 n next list2
    by_put (inr full) = rw full.1 after
    by_put (inl room) =
        let old : All (IsAtRest marked2 n next) (room.1.front ++ room.1.rest) = rw room.1.old at after.resting in
        rw room.1.new (record {
          waits = after.waits;
          resting = All-append (IsAtRest marked2 n next) room.1.front (s ∷ room.1.rest) (left_of (IsAtRest marked2 n next) room.1.front room.1.rest old)
              (All-cons (IsAtRest marked2 n next) s room.1.rest rests (right_of (IsAtRest marked2 n next) room.1.front room.1.rest old));
        })

-- ---- one is taken off

module _ (m : Map Object) (list : List Sleeper) (place : ℕ) (is_first : IsFirstDue m list place) (s : Sleeper) (value : s ≡ get_or list place s) where
  parts : list ≡ take place list ++ s ∷ drop (suc place) list
  parts =
      let next : place + 1 ≡ suc place = omega arith in
      sym (take-append-drop place list)
      ∙ (λ i. take place list ++ drop_more list place s is_first.inside i)
      ∙ (λ i. take place list ++ (sym value i) ∷ drop (next i) list)

  same_place : (d : Sleeper) → get_or list place s ≡ get_or list place d
  same_place d = get_or_default list place s d is_first.inside

  taken_due : IsTrue (is_due m s.awaited)
  taken_due = subst (λ (x : Sleeper). IsTrue (is_due m x.awaited)) (sym value) (is_first.due s)

  taken_others : (x : Sleeper) → (x ≡ s → ⊥) → Contains list x → Contains (remove list place) x
  taken_others x apart there =
      by_part (Contains-append_cases (take place list) (s ∷ drop (suc place) list) x (subst (λ (xs : List Sleeper). Contains xs x) parts there))
    where
      behind : Contains (s ∷ drop (suc place) list) x → Contains (drop (suc place) list) x
      behind (zero, within, is) = absurd (apart (sym is))
      behind (suc k, within, is) = (k, omega (arith, within), is)

      by_part : Contains (take place list) x ⊎ Contains (s ∷ drop (suc place) list) x → Contains (remove list place) x
      by_part (inl early) = Contains-append_left (take place list) (drop (suc place) list) x early
      by_part (inr late) = Contains-append_right (take place list) (drop (suc place) list) x (behind late)

  taken_order : (port : ℕ)
      → listed_for list port ≡ (if is_for port s.awaited then s.pid ∷ listed_for (remove list place) port else listed_for (remove list place) port)
  taken_order port =
      ap (λ (xs : List Sleeper). listed_for xs port) parts
      ∙ elim (cases_Bool (is_for port s.awaited)) as (λ _. listed_for (take place list ++ s ∷ drop (suc place) list) port
      ≡ (if is_for port s.awaited then s.pid ∷ listed_for (remove list place) port else listed_for (remove list place) port)) [
        | inl its ↦ rw (
          its,
          filter-append test (take place list) (s ∷ drop (suc place) list),
          filter-append test (take place list) (drop (suc place) list),
          none_before its,
          its,
        ) refl
        | inr other ↦ rw (
          other,
          filter-append test (take place list) (s ∷ drop (suc place) list),
          filter-append test (take place list) (drop (suc place) list),
          other,
        ) refl
      ]
    where
      test : Sleeper → Bool
      test x = is_for port x.awaited

      none_before : is_for port s.awaited ≡ true → filter test (take place list) ≡ []
      none_before its = none_pass test (take place list) (λ i d within. rw (get_or-take place list i d (omega (arith, within, length-take place list)))
          (fails i d (omega (arith, within, length-take place list))))
        where
          fails : (i : ℕ) (d : Sleeper) → i < place → is_for port (get_or list i d).awaited ≡ false
          fails i d within = elim (cases_Bool (is_for port (get_or list i d).awaited)) as (λ _. is_for port (get_or list i d).awaited ≡ false) [
            | inl too ↦
                let here : (get_or list i d).awaited ≡ (get_or list place d).awaited = at_port port _ too
                ∙ sym (at_port port _ (subst (λ (x : Sleeper). is_for port x.awaited ≡ true) (value ∙ same_place d) its)) in
                absurd (false≢true (sym (is_first.first i d within (ap koid_of here)) ∙ (ap (is_due m) here ∙ is_first.due d)))
            | inr out ↦ out
          ]

  pub takes_due : (r r2 : Objects) → r.objects ≡ m → r.sleepers ≡ list → r2.sleepers ≡ remove list place → record r2 { sleepers = r.sleepers } ≡ r
      → TakesDue r s r2
  takes_due r r2 objects before after same = record {
    due = subst (λ (n : Map Object). IsTrue (is_due n s.awaited)) (sym objects ∙ sym (ap (λ (x : Objects). x.objects) same)) taken_due;
    others = λ x apart there. rw after (taken_others x apart (rw before at there));
    order = λ port. rw (before, after) (taken_order port);
    fewer = let short = length-remove list place is_first.inside in omega (arith, ap length before, ap length after, short);
    same = same;
  }

-- who was left is at rest as before
pub taken_calm : {marked : ℕ → Bool} {next : ℕ} (m : Map Object) (list : List Sleeper) (place : ℕ) → IsCalm marked m next list
    → IsCalm marked m next (remove list place)
taken_calm {marked} {next} m list place calm = record {
  waits = calm.waits;
  resting = All-append (IsAtRest marked m next) (take place list) (drop (suc place) list) (All-take (IsAtRest marked m next) place list calm.resting)
      (All-drop (IsAtRest marked m next) (suc place) list calm.resting);
}

-- ---- none is due

among_all : (P : ℕ → Type 0) (ks : List ℕ) (k : ℕ) → IsTrue (list_any (λ j. j == k) ks) → All P ks → P k
among_all P [] k there all = absurd (false≢true there)
among_all P (j ∷ ks) k there all = elim (cases_Bool (j == k)) [
  | inl here ↦ subst P (eqb-true j k here) (all 0 j (omega arith))
  | inr apart ↦ among_all P ks k (rw apart at there) (λ i d inside. all (suc i) d (omega (arith, inside)))
]

-- where none is at the marked objects
pub none_due : {marked : ℕ → Bool} {next : ℕ} (m : Map Object) (list : List Sleeper) (koids : List ℕ) → ((k : ℕ) → marked k ≡ list_any (λ j. j == k) koids)
    → All (λ k. NoneDueAt m k list) koids → IsCalm marked m next list → All (λ s. is_due m s.awaited ≡ false) list
none_due {marked} m list koids same none calm i d inside = by_test (marked (koid_of (get_or list i d).awaited)) refl
  where
    by_test : (b : Bool) → marked (koid_of (get_or list i d).awaited) ≡ b → is_due m (get_or list i d).awaited ≡ false
    by_test false is = (calm.resting i d inside).calm is
    by_test true is =
        among_all (λ k. NoneDueAt m k list) koids (koid_of (get_or list i d).awaited) (sym (same (koid_of (get_or list i d).awaited)) ∙ is) none i d inside refl
