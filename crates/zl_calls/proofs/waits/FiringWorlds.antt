-- Registered waits fire one after another, in the order of the list.
use Rattle.zl_calls.proofs.Common.{AreBeside, Body, Bool, FiresWaits, IsConsistent, KeepSleepers, List, Map, None, Object, Objects, Option, Packet, Port}
use Rattle.zl_calls.proofs.Common.{Process, Some, Wait, Watch, World, [], active, active_of-same, and_from, and_parts, ap, arith, at_port, at_port_of}
use Rattle.zl_calls.proofs.Common.{cases_Bool, changed_port, changing_port, cond, eq-eqb, eqb-true, false, false≢true, find, fired, fired-same, firing}
use Rattle.zl_calls.proofs.Common.{first_out, get, has_child_job, has_child_process, holds, holds_at, holds_now, inl, inr, is_process, length, length-append}
use Rattle.zl_calls.proofs.Common.{list_any, map, meets, none-some, none_any, object_entry, object_value, option_map, or_parts, packet_of, refl, repacked}
use Rattle.zl_calls.proofs.Common.{same_Some, signals_at, subst, suc, sym, take, true, unlisting, unwatched, unwatching, update, wait_at, waits_in, with_packet}
use Rattle.zl_calls.proofs.Common.{without_first, without_place, world_blocked, world_value, zero, ℕ, ◌&&◌, ◌++◌, ◌<◌, ◌==◌, ◌∙◌, ◌∷◌, ◌≡◌}
use Rattle.zl_signals.specs.Waits.{watch_holds}
use Rattle.zl_objects.specs.declared.object.Body.TheVariants as body
use Rattle.zl_objects.specs.Waits.{packet_here}
use Rattle.zl_calls.proofs.objects.Active.{signals_active}
use Rattle.zl_calls.proofs.objects.SameButWaits.{beside_consistent, beside_seen, unwatching_beside}
use Rattle.zl_calls.proofs.waits.Firing.{after_one, fired_one, one_holds}
use Rattle.zl_calls.proofs.objects.Packed.{packed_consistent, packed_seen}
use Rattle.zl_calls.proofs.lists.Updates.{sorted_seen, update_seen, update_twice}

-- those before the place in the list don't hold; all fire to the same world as from the objects that were first
pub record IsFiring (ps : List Process) (first : Objects) (place : ℕ) (r : Objects) : Type 0 where
  pub before : list_any (holds_now r.objects) (take place r.waits) ≡ false
  pub consistent : IsConsistent ps r
  pub so_far : (blocked : List ℕ) → fired (world_blocked ps r blocked) ≡ fired (world_blocked ps first blocked)
  pub asleep : KeepSleepers first r

-- ---- the first that passes

module _ {X : Type 0} (p q : X → Bool) where
  -- x is the first of the list that passes p, and passes q too
  record IsFirst (xs : List X) (x : X) : Type 0 where
    before : List X
    behind : List X
    list : xs ≡ before ++ x ∷ behind
    none : list_any p before ≡ false
    passes : p x ≡ true
    found : find q xs ≡ Some x
    out : without_first q xs ≡ before ++ behind

  first_split : (xs : List X) (x : X) → ((y : X) → q y ≡ true → p y ≡ true) → (p x ≡ true → q x ≡ true) → find p xs ≡ Some x → IsFirst xs x
  first_split [] x only too found = absurd (none-some x found)
  first_split (y ∷ ys) x only too found = by_test (p y) refl found (λ rest. first_split ys x only too rest)
    where
      by_test : (b : Bool) → p y ≡ b → cond b (Some y) (find p ys) ≡ Some x → (find p ys ≡ Some x → IsFirst ys x) → IsFirst (y ∷ ys) x
      by_test true is same later =
          let one : y ≡ x = same_Some y x same in
          let passes : p x ≡ true = ap p (sym one) ∙ is in
          let also : q y ≡ true = ap q one ∙ too passes in
          record {
            before = [];
            behind = ys;
            list = ap (λ (z : X). z ∷ ys) one;
            none = refl;
            passes = passes;
            found = rw also same;
            out = first_out q y ys ∙ rw also refl;
          }
      by_test false is rest later =
          let split : IsFirst ys x = later rest in
          let other : q y ≡ false = elim (cases_Bool (q y)) as (λ _. q y ≡ false) [
            | inl here ↦ absurd (false≢true (sym is ∙ only y here))
            | inr apart ↦ apart
          ] in
          record {
            before = y ∷ split.before;
            behind = split.behind;
            list = ap (λ (zs : List X). y ∷ zs) split.list;
            none = rw is split.none;
            passes = split.passes;
            found = rw other split.found;
            out = first_out q y ys ∙ rw other (ap (λ (zs : List X). y ∷ zs) split.out);
          }

-- nothing passes so far, also where one that passes has gone
still_none : {X : Type 0} (p : X → Bool) (n : ℕ) (xs ys : List X) (x : X) → p x ≡ true → list_any p (take n (xs ++ x ∷ ys)) ≡ false
    → list_any p (take n (xs ++ ys)) ≡ false
still_none p zero xs ys x passes none = refl
still_none p (suc n) [] ys x passes none = absurd (false≢true (sym (or_parts (p x) (list_any p (take n ys)) none).0 ∙ passes))
still_none p (suc n) (z ∷ zs) ys x passes none =
    let both = or_parts (p z) (list_any p (take n (zs ++ x ∷ ys))) none in
    rw both.0 (still_none p n zs ys x passes both.1)

-- ---- the waits that hold

-- which processes block changes no signal
module _ (ps : List Process) (r : Objects) (blocked : List ℕ) where
  active_blocked : (k : ℕ) → active (world_blocked ps r blocked) k ≡ active (world_value ps r) k
  unfolding active has_child_job has_child_process is_process
  active_blocked k =
      active_of-same (world_value ps r) (world_blocked ps r blocked) (record { keys = λ j. refl; jobs = λ j. refl; processes = λ j. refl; ended = λ j. refl }) k
      (get (map object_entry r.objects) k)

  holds_blocked : holds (world_blocked ps r blocked) ≡ holds (world_value ps r)
  unfolding holds
  holds_blocked = λ i. λ x. meets (active_blocked x.object i) x.mask

-- those at one object
at_object : (w : World) (k : ℕ) → holds_at k (active w k) ≡ (λ x. (x.object == k) && holds w x)
unfolding holds
at_object w k = λ i. λ (x : Wait). by_key x.object x.mask i
  where
    by_key : (j mask : ℕ) → ((j == k) && meets (active w k) mask) ≡ ((j == k) && meets (active w j) mask)
    by_key j mask = elim (cases_Bool (j == k)) as (λ _. ((j == k) && meets (active w k) mask) ≡ ((j == k) && meets (active w j) mask)) [
      | inl here ↦ ap (λ (n : ℕ). (j == k) && meets (active w n) mask) (sym (eqb-true j k here))
      | inr apart ↦ rw apart refl
    ]

-- ---- the loop

-- the objects alone tell which hold
told_by_objects : (ps : List Process) (r : Objects) → IsConsistent ps r → holds (world_value ps r) ≡ holds_now r.objects
unfolding holds
told_by_objects ps r consistent = λ i. λ (x : Wait). meets (sym (signals_active ps r consistent x.object) i) x.mask

module _ (ps : List Process) (first : Objects) (place : ℕ) (r : Objects) (so_far : IsFiring ps first place r) where
  abbrev is_held : Wait → Bool
  is_held = holds (world_value ps r)

  -- signals of the object k
  module _ (k a : ℕ) (is : a ≡ signals_at r.objects k) where
    active_here : a ≡ active (world_value ps r) k
    active_here = is ∙ signals_active ps r so_far.consistent k

    held_here : (x : Wait) → holds_at k a x ≡ ((x.object == k) && is_held x)
    held_here x = ap (λ (n : ℕ). holds_at k n x) active_here ∙ ap (λ (test : Wait → Bool). test x) (at_object (world_value ps r) k)

    abbrev fired_here : Objects
    fired_here = firing (unlisting (holds_at k a) r) k a

    -- the wait is the earliest of all that holds
    module _ (y : Watch) (split : IsFirst is_held (holds_at k a) r.waits (wait_at k y))
        (earliest : find (watch_holds a) (waits_in (get r.objects k)) ≡ Some y) where
      -- the place is given back first, and then the packet comes
      abbrev without_it : Objects
      without_it = unwatching (unlisting (holds_at k a) r) k (watch_holds a)

      abbrev with_it : Port → Port
      with_it p = with_packet p (packet_here k a y)

      at_port_twice : (o : Object) → at_port with_it (at_port without_place o) ≡ at_port (λ p. with_it (without_place p)) o
      at_port_twice o = λ i. record o { body = by_body o.body i }
        where
          by_body : (b : Body) → changed_port with_it (changed_port without_place b) ≡ changed_port (λ p. with_it (without_place p)) b
          by_body (body.Port port) = refl
          by_body _ = refl

      abbrev unwatched_it : Map Object
      unwatched_it = update r.objects k (unwatched (watch_holds a))

      objects_are : fired_here.objects ≡ update without_it.objects y.port (at_port with_it)
      objects_are = ap (λ (o : Option Watch). at_port_of o (λ x port. with_packet (without_place port) (packet_here k a x)) unwatched_it) earliest
          ∙ (sym (update_twice unwatched_it y.port (at_port without_place) (at_port with_it) ∙ (λ i. update unwatched_it y.port (λ o. at_port_twice o i)))
          ∙ ap (λ (o : Option Watch). update (at_port_of o (λ x. without_place) unwatched_it) y.port (at_port with_it)) (sym earliest))

      fired_is : fired_here ≡ changing_port without_it y.port with_it
      fired_is = λ i. record (unlisting (holds_at k a) r) { objects = objects_are i }

      beside_it : AreBeside r without_it
      beside_it = record { objects = (unwatching_beside (unlisting (holds_at k a) r) k (watch_holds a)).objects; koids = refl }

      fired_consistent : IsConsistent ps fired_here
      fired_consistent = subst (IsConsistent ps) (sym fired_is)
          (packed_consistent with_it ps without_it y.port (beside_consistent ps r without_it beside_it so_far.consistent))

      -- ---- the world after it

      module _ (blocked : List ℕ) where
        abbrev w : World
        w = world_blocked ps r blocked

        packet_same : packet_here k a y ≡ packet_of w (wait_at k y)
        packet_same = λ i. record {
          kind = 1;
          key = y.key;
          trigger = y.mask.0;
          observed = (active_here ∙ sym (active_blocked ps r blocked k)) i;
          source = Some (record { pid = y.pid; value = y.value; object = k });
        }

        seen : map object_entry fired_here.objects
            ≡ update (map object_entry r.objects) y.port (repacked (λ (qs : List Packet). qs ++ packet_of w (wait_at k y) ∷ []))
        seen = ap (map object_entry) objects_are
            ∙ (update_seen object_value without_it.objects y.port (at_port with_it) (repacked (λ (qs : List Packet). qs ++ packet_here k a y ∷ []))
            (packed_seen with_it (λ qs. qs ++ packet_here k a y ∷ []) (λ x. refl))
            ∙ (λ i. update (beside_seen ps r without_it beside_it i) y.port (repacked (λ (qs : List Packet). qs ++ packet_same i ∷ []))))

        world_is : world_blocked ps fired_here blocked ≡ after_one w split.before split.behind (wait_at k y)
        world_is = λ i. record w { objects = seen i; waits = split.out i }

        now_held : holds w (wait_at k y) ≡ true
        now_held = ap (λ (test : Wait → Bool). test (wait_at k y)) (holds_blocked ps r blocked) ∙ split.passes

        same_fired : fired (world_blocked ps fired_here blocked) ≡ fired (world_blocked ps first blocked)
        same_fired = ap fired world_is
            ∙ (fired_one w split.before split.behind (wait_at k y) split.list
            (ap (λ (test : Wait → Bool). list_any test split.before) (holds_blocked ps r blocked) ∙ split.none) now_held
            (sorted_seen object_value r.objects ∙ so_far.consistent.kept.in_order)
            ∙ so_far.so_far blocked)

      same_holds : holds_now fired_here.objects ≡ holds_now r.objects
      same_holds =
          sym (told_by_objects ps fired_here fired_consistent) ∙ (sym (holds_blocked ps fired_here [])
          ∙ (ap holds (world_is []) ∙ (one_holds (world_blocked ps r []) split.before split.behind (wait_at k y)
          ∙ (holds_blocked ps r [] ∙ told_by_objects ps r so_far.consistent))))

      fired_turn : (next : ℕ) → list_any (holds_now r.objects) (take next r.waits) ≡ false → IsFiring ps first next fired_here
      fired_turn next none = record {
        before = (λ i. list_any (same_holds i) (take next (split.out i)))
            ∙ still_none (holds_now r.objects) next split.before split.behind (wait_at k y)
            (ap (λ (test : Wait → Bool). test (wait_at k y)) (sym (told_by_objects ps r so_far.consistent)) ∙ split.passes)
            (ap (λ (ws : List Wait). list_any (holds_now r.objects) (take next ws)) (sym split.list) ∙ none);
        consistent = fired_consistent;
        so_far = same_fired;
        asleep = so_far.asleep;
      }

    -- ---- a turn

    module _ (due : Some k ≡ option_map (λ (x : Wait). x.object) (find (holds_now r.objects) r.waits)) where
      next : (x : Wait) × IsFirst is_held (holds_at k a) r.waits x
      next = by_found (find (holds_now r.objects) r.waits) refl due
        where
          by_found : (o : Option Wait) → find (holds_now r.objects) r.waits ≡ o → Some k ≡ option_map (λ (x : Wait). x.object) o
              → (x : Wait) × IsFirst is_held (holds_at k a) r.waits x
          by_found None none same = absurd (none-some k (sym same))
          by_found (Some x) found same = (
            x,
            first_split is_held (holds_at k a) r.waits x (λ y here. (and_parts (y.object == k) (is_held y) (sym (held_here y) ∙ here)).1)
                (λ passes. held_here x ∙ and_from (x.object == k) (is_held x) (eq-eqb x.object k (sym (same_Some k x.object same))) passes)
                (ap (λ (test : Wait → Bool). find test r.waits) (told_by_objects ps r so_far.consistent) ∙ found),
          )

      pub turn_fired : (taken : Option Watch) → taken ≡ find (watch_holds a) (waits_in (get r.objects k))
          → option_map (wait_at k) taken ≡ find (holds_at k a) r.waits → (place2 : ℕ)
          → list_any (holds_now r.objects) (take place2 r.waits) ≡ false → IsFiring ps first place2 fired_here
      turn_fired taken earliest listed place2 none = by_taken taken earliest (listed ∙ next.1.found)
        where
          by_taken : (o : Option Watch) → o ≡ find (watch_holds a) (waits_in (get r.objects k)) → option_map (wait_at k) o ≡ Some next.0
              → IsFiring ps first place2 fired_here
          by_taken None none some = absurd (none-some next.0 some)
          by_taken (Some y) earliest some =
              fired_turn y (subst (IsFirst is_held (holds_at k a) r.waits) (sym (same_Some (wait_at k y) next.0 some)) next.1) (sym earliest) place2 none

      pub fewer_left : length fired_here.waits < length r.waits
      fewer_left = omega (
        arith,
        ap (λ (xs : List Wait). length xs) next.1.out,
        ap (λ (xs : List Wait). length xs) next.1.list,
        length-append next.1.before next.1.behind,
        length-append next.1.before (next.0 ∷ next.1.behind),
      )

  -- none holds any more
  pub all_fired : None ≡ option_map (λ (x : Wait). x.object) (find (holds_now r.objects) r.waits) → FiresWaits ps first r
  all_fired none = record {
    world = λ blocked. sym (fired-same (world_blocked ps r blocked) (ap (λ (test : Wait → Bool). list_any test r.waits) (holds_blocked ps r blocked)
        ∙ none_any is_held r.waits (ap (λ (test : Wait → Bool). find test r.waits) (told_by_objects ps r so_far.consistent)
        ∙ by_found (find (holds_now r.objects) r.waits) none)))
        ∙ so_far.so_far blocked;
    consistent = so_far.consistent;
    asleep = so_far.asleep;
  }
    where
      by_found : (o : Option Wait) → None ≡ option_map (λ (x : Wait). x.object) o → o ≡ None
      by_found None h = refl
      by_found (Some x) h = absurd (none-some x.object h)
