-- Waits end by the handles that a call took: object by object those that its caller made by a handle that is gone.
use Rattle.zl_calls.proofs.Common.{All, All-head, All-tail, AreBeside, AreKnown, Bool, EndsUnheld, EndsWaits, IsConsistent, IsKnown, IsTrue, KeepSleepers, List}
use Rattle.zl_calls.proofs.Common.{None, Objects, Process, Some, Taken, Wait, Watch, World, [], and-false, and_from, and_parts, ap, arith, cases_Bool, cond}
use Rattle.zl_calls.proofs.Common.{eq-eqb, eqb-true, false, false≢true, filter, find, first_out, get, get_or, has_handle, has_noted, if◌then◌else◌, inl, inr}
use Rattle.zl_calls.proofs.Common.{is_empty, is_gone, is_left, is_made_at, is_made_by_handle, is_over_by, length, list_any, list_any-append, list_any_none, map}
use Rattle.zl_calls.proofs.Common.{none-some, none_any, not, process_entry, refl, slice_index_or, subst, suc, sym, take, take_all, take_more, true, unlisting}
use Rattle.zl_calls.proofs.Common.{unwatching, without_first, world_blocked, world_left, world_value, ℕ, ◌&&◌, ◌+◌, ◌<◌, ◌==◌, ◌||◌, ◌∙◌, ◌∷◌, ◌≡◌, ◌≤◌}
use Rattle.zl_calls.specs.declared.step.taken.TakenHandle.{TakenHandle}
use Rattle.zl_calls.proofs.waits.WaitsLost.{filter_within}
use Rattle.zl_calls.proofs.objects.SameButWaits.{beside_consistent, beside_same, beside_then, beside_world, unwatching_beside}
use Rattle.zl_objects.proofs.Unlisted.{rest_same}

-- ---- lists

module _ {X : Type 0} (test : X → Bool) where
  none_first : (xs : List X) → find test xs ≡ None → without_first test xs ≡ filter (λ x. not (test x)) xs
  none_first [] none = refl
  none_first (x ∷ xs) none = elim (cases_Bool (test x)) as (λ _. without_first test (x ∷ xs) ≡ filter (λ y. not (test y)) (x ∷ xs)) [
    | inl here ↦ absurd (none-some x (sym (rw here at none)))
    | inr apart ↦ rw (first_out test x xs, apart) (ap (λ (ys : List X). x ∷ ys) (none_first xs (rw apart at none)))
  ]

  some_first : (xs : List X) (y : X) → find test xs ≡ Some y → length xs ≡ suc (length (without_first test xs))
  some_first [] y some = absurd (none-some y some)
  some_first (x ∷ xs) y some = elim (cases_Bool (test x)) as (λ _. length (x ∷ xs) ≡ suc (length (without_first test (x ∷ xs)))) [
    | inl here ↦ rw (first_out test x xs, here) refl
    | inr apart ↦ rw (first_out test x xs, apart) (ap suc (some_first xs y (rw apart at some)))
  ]

-- what passes neither of two tests is left by both
filter_twice : {X : Type 0} (p q : X → Bool) (xs : List X) → filter (λ x. not (q x)) (filter (λ x. not (p x)) xs) ≡ filter (λ x. not (p x || q x)) xs
filter_twice p q [] = refl
filter_twice {X} p q (x ∷ xs) =
    elim (cases_Bool (p x)) as (λ _. filter (λ y. not (q y)) (filter (λ y. not (p y)) (x ∷ xs)) ≡ filter (λ y. not (p y || q y)) (x ∷ xs)) [
      | inl here ↦ rw here (filter_twice p q xs)
      | inr apart ↦ rw apart (ap (λ (ys : List X). if not (q x) then x ∷ ys else ys) (filter_twice p q xs))
    ]

-- tests that agree leave the same
filter_alike : {X : Type 0} (p q : X → Bool) (xs : List X) → All (λ x. p x ≡ q x) xs → filter p xs ≡ filter q xs
filter_alike p q [] all = refl
filter_alike {X} p q (x ∷ xs) all =
    (λ i. if All-head (λ y. p y ≡ q y) x xs all i then x ∷ filter p xs else filter p xs)
    ∙ ap (λ (ys : List X). if q x then x ∷ ys else ys) (filter_alike p q xs (All-tail (λ y. p y ≡ q y) x xs all))

any_alike : {X : Type 0} (p q : X → Bool) (xs : List X) → All (λ x. p x ≡ q x) xs → list_any p xs ≡ list_any q xs
any_alike p q [] all = refl
any_alike {X} p q (x ∷ xs) all = (λ i. All-head (λ y. p y ≡ q y) x xs all i || any_alike p q xs (All-tail (λ y. p y ≡ q y) x xs all) i)

some_passes : {X : Type 0} (p : X → Bool) (xs : List X) (y : X) → find p xs ≡ Some y → list_any p xs ≡ true
some_passes p [] y some = absurd (none-some y some)
some_passes {X} p (x ∷ xs) y some = by_test (p x) some (λ rest. some_passes p xs y rest)
  where
    by_test : (b : Bool) → cond b (Some x) (find p xs) ≡ Some y → (find p xs ≡ Some y → list_any p xs ≡ true) → (b || list_any p xs) ≡ true
    by_test true h later = refl
    by_test false h later = later h

any_too : {X : Type 0} (p q : X → Bool) (xs : List X) → ((x : X) → p x ≡ true → q x ≡ true) → list_any p xs ≡ true → list_any q xs ≡ true
any_too p q [] wider any = any
any_too p q (x ∷ xs) wider any = elim (cases_Bool (p x)) as (λ _. list_any q (x ∷ xs) ≡ true) [
  | inl here ↦ rw (wider x here) refl
  | inr apart ↦ later (q x) (any_too p q xs wider (rw apart at any))
]
  where
    later : (b : Bool) → list_any q xs ≡ true → (b || list_any q xs) ≡ true
    later true rest = refl
    later false rest = rest

-- ---- waits end by one test after another

pub ends_none : (r : Objects) → EndsWaits (λ x. false) r r
ends_none r = record { beside = beside_same r; waits = sym (all r.waits); made = refl; asleep = (refl, refl) }
  where
    all : (ws : List Wait) → filter (λ x. true) ws ≡ ws
    all [] = refl
    all (x ∷ ws) = ap (λ (ys : List Wait). x ∷ ys) (all ws)

ends_alike : (p q : Wait → Bool) (r r2 : Objects) → ((x : Wait) → p x ≡ q x) → EndsWaits p r r2 → EndsWaits q r r2
ends_alike p q r r2 same ends = record {
  beside = ends.beside;
  waits = ends.waits ∙ (λ i. filter (λ x. not (same x i)) r.waits);
  made = ends.made;
  asleep = ends.asleep;
}

ends_then : (p q : Wait → Bool) (r mid r2 : Objects) → EndsWaits p r mid → EndsWaits q mid r2 → EndsWaits (λ x. p x || q x) r r2
ends_then p q r mid r2 first later = record {
  beside = beside_then r mid r2 first.beside later.beside;
  waits = later.waits ∙ (ap (filter (λ x. not (q x))) first.waits ∙ filter_twice p q r.waits);
  made = later.made ∙ first.made;
  asleep = (later.asleep.0 ∙ first.asleep.0, later.asleep.1 ∙ first.asleep.1);
}

-- ---- the waits at one object, one after another

-- so far some have ended that pass the test
pub record IsTaking (test : Wait → Bool) (old now : Objects) : Type 0 where
  pub beside : AreBeside old now
  pub made : now.waits_made ≡ old.waits_made
  pub asleep : KeepSleepers old now
  pub left : filter (λ x. not (test x)) now.waits ≡ filter (λ x. not (test x)) old.waits

module _ (test : Wait → Bool) (old : Objects) where
  module _ (now : Objects) (so_far : IsTaking test old now) (k : ℕ) (watch : Watch → Bool) (after : Objects)
      (is : after ≡ unwatching (unlisting test now) k watch) where
    beside : AreBeside old (unwatching (unlisting test now) k watch)
    beside = beside_then old (unlisting test now) (unwatching (unlisting test now) k watch)
        (record { objects = so_far.beside.objects; koids = so_far.beside.koids }) (unwatching_beside (unlisting test now) k watch)

    pub one_taken : IsTaking test old after
    one_taken = subst (λ (r : Objects). IsTaking test old r) (sym is)
        (record { beside = beside; made = so_far.made; asleep = so_far.asleep; left = rest_same test now.waits ∙ so_far.left })

    pub all_taken : find test now.waits ≡ None → EndsWaits test old after
    all_taken none = subst (λ (r : Objects). EndsWaits test old r) (sym is)
        (record { beside = beside; made = so_far.made; asleep = so_far.asleep; waits = none_first test now.waits none ∙ so_far.left })

    pub fewer_taken : (x : Wait) → find test now.waits ≡ Some x → length after.waits < length now.waits
    fewer_taken x some =
        let less : length after.waits ≡ length (without_first test now.waits) = ap (λ (r : Objects). length r.waits) is in
        omega (arith, less, some_first test now.waits x some)

-- where each wait that passes is at one object
module _ (k : ℕ) (test : Wait → Bool) (r : Objects) (own : All (λ x. IsTrue (test x) → x.object ≡ k) r.waits) where
  same_at : All (λ x. ((x.object == k) && test x) ≡ test x) r.waits
  same_at i d inside = one (slice_index_or r.waits i d) (own i d inside)
    where
      one : (x : Wait) → (IsTrue (test x) → x.object ≡ k) → ((x.object == k) && test x) ≡ test x
      one x at = elim (cases_Bool (test x)) as (λ _. ((x.object == k) && test x) ≡ test x) [
        | inl by ↦ rw (by, eq-eqb x.object k (at by)) refl
        | inr other ↦ rw other (and-false (x.object == k))
      ]

  -- all have ended with those there
  pub all_at : (r2 : Objects) → EndsWaits (λ x. (x.object == k) && test x) r r2 → EndsWaits test r r2
  all_at r2 ends = record {
    beside = ends.beside;
    waits = ends.waits ∙ filter_alike (λ x. not ((x.object == k) && test x)) (λ x. not (test x)) r.waits (λ i d inside. ap not (same_at i d inside));
    made = ends.made;
    asleep = ends.asleep;
  }

  any_at : list_any (λ x. (x.object == k) && test x) r.waits ≡ list_any test r.waits
  any_at = any_alike (λ x. (x.object == k) && test x) test r.waits same_at

-- ---- those that are cancelled, one after another

-- so far one has ended just where one was there that passes, and else nothing has changed
pub record IsCancelling (test : Wait → Bool) (old : Objects) (any : Bool) (now : Objects) : Type 0 where
  pub taking : IsTaking test old now
  pub found : any ≡ true → list_any test old.waits ≡ true
  pub same : any ≡ false → now ≡ old

module _ (test : Wait → Bool) (old : Objects) where
  module _ (any : Bool) (now : Objects) (so_far : IsCancelling test old any now) where
    pub one_cancelled : (k : ℕ) (watch : Watch → Bool) (after : Objects) → after ≡ unwatching (unlisting test now) k watch → (x : Wait)
        → find test now.waits ≡ Some x → IsCancelling test old true after
    one_cancelled k watch after is x some = record {
      taking = one_taken test old now so_far.taking k watch after is;
      found = λ h. by_any any refl;
      same = λ h. absurd (false≢true (sym h));
    }
      where
        by_any : (b : Bool) → any ≡ b → list_any test old.waits ≡ true
        by_any true was = so_far.found was
        by_any false was = some_passes test old.waits x (ap (λ (r : Objects). find test r.waits) (sym (so_far.same was)) ∙ some)

    pub any_cancelled : find test now.waits ≡ None → any ≡ list_any test old.waits
    any_cancelled none = by_any any refl
      where
        by_any : (b : Bool) → any ≡ b → any ≡ list_any test old.waits
        by_any true was = was ∙ sym (so_far.found was)
        by_any false was = was ∙ sym (none_any test old.waits (ap (λ (r : Objects). find test r.waits) (sym (so_far.same was)) ∙ none))

    -- where all are at one object
    pub any_ended : (k : ℕ) (wide : Wait → Bool) → test ≡ (λ x. (x.object == k) && wide x) → All (λ x. IsTrue (wide x) → x.object ≡ k) old.waits
        → find test now.waits ≡ None → any ≡ list_any wide old.waits
    any_ended k wide is own none = any_cancelled none ∙ (ap (λ (t : Wait → Bool). list_any t old.waits) is ∙ any_at k wide old own)

-- ---- handle by handle

module _ (ps : List Process) (pid : ℕ) where
  -- one of the handles is gone, and the wait was made by it
  abbrev pub is_over : List TakenHandle → Wait → Bool
  is_over hs x = list_any (λ h. is_over_by ps pid h x) hs

  pub gone_ends : (h : TakenHandle) (r r2 : Objects) → has_handle (get (map process_entry ps) pid) h.value ≡ false
      → EndsWaits (is_made_at h.koid pid h.value) r r2 → EndsWaits (is_over_by ps pid h) r r2
  gone_ends h r r2 gone ends = ends_alike (is_made_at h.koid pid h.value) (is_over_by ps pid h) r r2 (λ x. rw gone refl) ends

  pub there_ends : (h : TakenHandle) (r : Objects) → has_handle (get (map process_entry ps) pid) h.value ≡ true → EndsWaits (is_over_by ps pid h) r r
  there_ends h r there = ends_alike (λ x. false) (is_over_by ps pid h) r r (λ x. rw there refl) (ends_none r)

  pub one_more_over : (hs : List TakenHandle) (i : ℕ) (h : TakenHandle) → i < length hs → (r mid r2 : Objects) → EndsWaits (is_over (take i hs)) r mid
      → EndsWaits (is_over_by ps pid (get_or hs i h)) mid r2 → EndsWaits (is_over (take (i + 1) hs)) r r2
  one_more_over hs i h within r mid r2 before last =
      ends_alike (λ x. is_over (take i hs) x || is_over_by ps pid (get_or hs i h) x) (is_over (take (i + 1) hs)) r r2 same
      (ends_then (is_over (take i hs)) (is_over_by ps pid (get_or hs i h)) r mid r2 before last)
    where
      unless : (a b : Bool) → (a || b) ≡ (a || (b || false))
      unless a true = refl
      unless a false = refl

      same : (x : Wait) → (is_over (take i hs) x || is_over_by ps pid (get_or hs i h) x) ≡ is_over (take (i + 1) hs) x
      same x = rw (take_more hs i h within, list_any-append (λ j. is_over_by ps pid j x) (take i hs) (get_or hs i h ∷ []))
          (unless (is_over (take i hs) x) (is_over_by ps pid (get_or hs i h) x))

  pub all_over : (hs : List TakenHandle) (i : ℕ) → length hs ≤ i → (r r2 : Objects) → EndsWaits (is_over (take i hs)) r r2 → EndsWaits (is_over hs) r r2
  all_over hs i past r r2 ends = subst (λ js. EndsWaits (is_over js) r r2) (take_all i hs past) ends

  -- ---- of known waits just those that aren't left

  module _ (r : Objects) (t : Taken) (some : t.all ≡ false) where
    left_stays : (x : Wait) → IsTrue (is_left (world_value ps r) x) → (h : TakenHandle) → is_over_by ps pid h x ≡ false
    unfolding is_made_by_handle
    left_stays x left h = elim (cases_Bool (is_over_by ps pid h x)) as (λ _. is_over_by ps pid h x ≡ false) [
      | inr apart ↦ apart
      | inl over ↦
          let both = and_parts (is_gone ps pid h.value) _ over in
          let by = and_parts (x.pid == pid) _ (and_parts (x.object == h.koid) _ both.1).1 in
          let has : has_handle (get (map process_entry ps) x.pid) x.value ≡ true = (and_parts _ _ left).0 in
          absurd (false≢true (ap not (sym (rw (eqb-true x.pid pid by.0, eqb-true x.value h.value by.1) at has)) ∙ both.0))
    ]

    over_goes : (x : Wait) → x.pid ≡ pid → IsTrue (is_gone ps pid x.value) → IsTrue (has_noted t x.value x.object) → is_over t.handles.items x ≡ true
    over_goes x own gone noted =
        any_too (λ h. (h.value == x.value) && (h.koid == x.object)) (λ h. is_over_by ps pid h x) t.handles.items each (rw some at noted)
      where
        each : (h : TakenHandle) → ((h.value == x.value) && (h.koid == x.object)) ≡ true → is_over_by ps pid h x ≡ true
        each h is =
            let parts = and_parts (h.value == x.value) _ is in
            let value : h.value ≡ x.value = eqb-true h.value x.value parts.0 in
            rw (value, eqb-true h.koid x.object parts.1)
            (and_from _ _ gone (and_from _ _ (eq-eqb x.object x.object refl) (and_from _ _ (eq-eqb x.pid pid own) (eq-eqb x.value x.value refl))))

    alike : (x : Wait) → IsKnown ps r t pid x → not (is_over t.handles.items x) ≡ is_left (world_value ps r) x
    unfolding is_made_by_handle
    alike x (inl left) = rw (list_any_none (λ h. is_over_by ps pid h x) t.handles.items (λ i d inside. left_stays x left _)) (sym left)
    alike x (inr (own, gone, noted)) = rw (over_goes x own gone noted, own) (sym (not_left gone))
      where
        not_left : IsTrue (is_gone ps pid x.value) → is_left (world_value ps r) (record x { pid = pid }) ≡ false
        not_left gone = elim (cases_Bool (has_handle (get (map process_entry ps) pid) x.value))
            as (λ _. is_left (world_value ps r) (record x { pid = pid }) ≡ false) [
              | inl there ↦ absurd (false≢true (ap not (sym there) ∙ gone))
              | inr none ↦ rw none refl
            ]

    pub known_end : (r2 : Objects) → IsConsistent ps r → AreKnown ps r t pid → EndsWaits (is_over t.handles.items) r r2 → EndsUnheld ps r r2
    known_end r2 consistent known over = record {
      world = λ blocked.
          λ i. record (beside_world ps r r2 over.beside i) { waits = (over.waits ∙ left_is) i; waits_made = over.made i; blocked = blocked };
      consistent = beside_consistent ps r r2 over.beside consistent;
      asleep = over.asleep;
    }
      where
        left_is : filter (λ x. not (is_over t.handles.items x)) r.waits ≡ filter (is_left (world_value ps r)) r.waits
        left_is = filter_alike (λ x. not (is_over t.handles.items x)) (is_left (world_value ps r)) r.waits (λ i d inside. alike _ (known i d inside))

-- ---- where the waits have ended

pub unless_empty : (ws : List Wait) → not (is_empty ws) ≡ false → is_empty ws ≡ true
unless_empty [] some = refl
unless_empty (x ∷ ws) some = absurd (false≢true (sym some))

module _ (ps : List Process) where
  -- where no wait is registered none is to end
  pub no_waits_end : (r : Objects) → IsConsistent ps r → is_empty r.waits ≡ true → EndsUnheld ps r r
  no_waits_end r consistent none = record {
    world = λ blocked. λ i. record (world_blocked ps r blocked) { waits = nothing r.waits none i };
    consistent = consistent;
    asleep = (refl, refl);
  }
    where
      nothing : (ws : List Wait) → is_empty ws ≡ true → ws ≡ filter (is_left (world_value ps r)) ws
      nothing [] none = refl
      nothing (x ∷ ws) none = absurd (false≢true none)

  module _ (r r2 : Objects) (unheld : EndsUnheld ps r r2) where
    -- what is left is left again
    pub ended_left : (blocked : List ℕ) → world_left ps r2 blocked ≡ world_left ps r blocked
    unfolding is_made_by_handle
    ended_left blocked =
        ap (λ (w : World). record w { waits = filter (is_left w) w.waits }) (unheld.world blocked)
        ∙ (λ i. record (world_left ps r blocked) { waits = filter_within (is_left (world_value ps r)) (is_left (world_value ps r)) r.waits (λ x t. t) i })

    pub ended_again : EndsUnheld ps r2 r2
    ended_again = record { world = λ blocked. unheld.world blocked ∙ sym (ended_left blocked); consistent = unheld.consistent; asleep = (refl, refl) }
