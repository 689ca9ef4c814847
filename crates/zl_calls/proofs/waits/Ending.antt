-- Waits end one after another: the objects stay the same but for waits, and of the list just what isn't to end is left.
use Rattle.zl_calls.proofs.Common.{AreBeside, Bool, EndsUnheld, EndsWaits, IsConsistent, IsPlaceOf, KeepSleepers, List, Map, None, Object, Objects, Option}
use Rattle.zl_calls.proofs.Common.{Process, Some, Wait, Watch, World, and_parts, ap, arith, eq-eqb, eqb-true, false, filter, get, get_or, has_handle, has_key}
use Rattle.zl_calls.proofs.Common.{has_seen, is_keyed_at, is_left, is_made_by_handle, is_some, kind_here, kind_in, length, map, not, object_entry, option_map}
use Rattle.zl_calls.proofs.Common.{process_entry, process_value, refl, slice_get, slice_get-get_or, slice_get_within, subst, sym, true, unlisting, unwatching}
use Rattle.zl_calls.proofs.Common.{world_value, ℕ, ◌&&◌, ◌*◌, ◌+◌, ◌-◌, ◌<◌, ◌==◌, ◌∙◌, ◌≡◌}
use Rattle.zl_calls.proofs.objects.SameButWaits.{beside_consistent, beside_then, beside_world, unwatching_beside}
use Rattle.zl_calls.proofs.lists.FilterByFirst.{IsSifting, one_less, sifting_ends, sifting_stays, sifting_takes}

-- ---- what is left

-- the kind of an object tells whether it is there
pub kind_there : (m : Map Object) (k : ℕ) → is_some (kind_here m k) ≡ has_key (map object_entry m) k
kind_there m k = by_object (get m k) ∙ sym (has_seen m k)
  where
    by_object : (o : Option Object) → is_some (option_map (λ (x : Object). kind_in x.body) o) ≡ is_some o
    by_object None = refl
    by_object (Some o) = refl

-- the table of the process at this place tells which handles the process has
pub has_at : (ps : List Process) (pid place value : ℕ) (p : Process) → IsPlaceOf ps pid place → p ≡ get_or ps place p
    → has_key p.table.entries value ≡ has_handle (get (map process_entry ps) pid) value
has_at ps pid place value p found is =
    sym (ap (λ o. has_handle o value)
    (found.holds ∙ ap (option_map process_value) (slice_get-get_or ps place p found.within ∙ ap (λ (q : Process). Some q) (sym is))))

-- ---- a walk along all waits

-- so far the waits before the place were looked at, and those have ended that pass the test
pub record IsEnding (test : Wait → Bool) (old : Objects) (place : ℕ) (now : Objects) : Type 0 where
  pub beside : AreBeside old now
  pub made : now.waits_made ≡ old.waits_made
  pub asleep : KeepSleepers old now
  pub list : IsSifting test old.waits place now.waits

module _ (test : Wait → Bool) (old : Objects) where
  module _ (place : ℕ) (now : Objects) (so_far : IsEnding test old place now) where
    pub ends_all : slice_get now.waits place ≡ None → EndsWaits test old now
    ends_all none = record {
      beside = so_far.beside;
      waits = sifting_ends test old.waits place now.waits none so_far.list;
      made = so_far.made;
      asleep = so_far.asleep;
    }

    module _ (x : Wait) (at : slice_get now.waits place ≡ Some x) where
      pub one_stays : test x ≡ false → IsEnding test old (place + 1) now
      one_stays fail = record {
        beside = so_far.beside;
        made = so_far.made;
        asleep = so_far.asleep;
        list = sifting_stays test old.waits place now.waits x at
            fail so_far.list;
      }

      -- the operation takes the earliest out of those that a narrower test asks for
      module _ (narrow : Wait → Bool) (wider : (y : Wait) → narrow y ≡ true → test y ≡ true) (asked : narrow x ≡ true) (k : ℕ) (watch : Watch → Bool)
          (after : Objects) (is : after ≡ unwatching (unlisting narrow now) k watch) where
        still_beside : AreBeside old (unwatching (unlisting narrow now) k watch)
        still_beside = beside_then old (unlisting narrow now) (unwatching (unlisting narrow now) k watch)
            (record { objects = so_far.beside.objects; koids = so_far.beside.koids }) (unwatching_beside (unlisting narrow now) k watch)

        pub narrow_ends : IsEnding test old place after
        narrow_ends = subst (λ (r : Objects). IsEnding test old place r) (sym is) (record {
          beside = still_beside;
          made = so_far.made;
          asleep = so_far.asleep;
          list = sifting_takes test narrow wider old.waits place now.waits x at asked so_far.list;
        })

        pub narrow_fewer : length after.waits * 2 - place < length now.waits * 2 - place
        narrow_fewer =
            let less : length after.waits ≡ length (unwatching (unlisting narrow now) k watch).waits = ap (λ (r : Objects). length r.waits) is in
            omega (arith, less, one_less test narrow wider old.waits place now.waits x at asked so_far.list, slice_get_within now.waits place x at)

-- ---- the waits whose handle, object or port is gone

module _ (ps : List Process) (old : Objects) where
  abbrev pub is_over : Wait → Bool
  is_over x = not (is_left (world_value ps old) x)

  -- what is left is asked of the objects as they are now
  pub still_left : (now : Objects) → AreBeside old now → (x : Wait) → is_left (world_value ps now) x ≡ is_left (world_value ps old) x
  still_left now beside x = ap (λ (w : World). is_left w x) (beside_world ps old now beside)

  -- a wait that is the same but for its mask is over as well
  pub over_too : (x y : Wait) → is_over x ≡ true → is_keyed_at x.object x.pid x.value x.port x.key y ≡ true → is_over y ≡ true
  unfolding is_made_by_handle
  over_too x y over same =
      let at = and_parts (y.object == x.object) _ same in
      let by = and_parts ((y.pid == x.pid) && (y.value == x.value)) _ at.1 in
      let who = and_parts (y.pid == x.pid) _ by.0 in
      let to = and_parts (y.port == x.port) _ by.1 in
      let object : y.object ≡ x.object = eqb-true y.object x.object at.0 in
      let pid : y.pid ≡ x.pid = eqb-true y.pid x.pid who.0 in
      let value : y.value ≡ x.value = eqb-true y.value x.value who.1 in
      let port : y.port ≡ x.port = eqb-true y.port x.port to.0 in
      (λ i. is_over (record { pid = pid i; value = value i; object = object i; port = port i; key = y.key; mask = y.mask })) ∙ over

  pub asks_for_itself : (x : Wait) → is_keyed_at x.object x.pid x.value x.port x.key x ≡ true
  asks_for_itself x =
      rw (eq-eqb x.object x.object refl, eq-eqb x.pid x.pid refl, eq-eqb x.value x.value refl, eq-eqb x.port x.port refl) (eq-eqb x.key x.key refl)

  module _ (consistent : IsConsistent ps old) (place : ℕ) (now : Objects) (so_far : IsEnding is_over old place now) where
    pub unheld_ended : slice_get now.waits place ≡ None → EndsUnheld ps old now
    unheld_ended none =
        let over = ends_all is_over old place now so_far none in
        record {
          world = λ blocked.
              λ i. record (beside_world ps old now so_far.beside i) { waits = (over.waits ∙ left_is) i; waits_made = over.made i; blocked = blocked };
          consistent = beside_consistent ps old now so_far.beside consistent;
          asleep = over.asleep;
        }
      where
        left_is : filter (λ x. not (is_over x)) old.waits ≡ filter (is_left (world_value ps old)) old.waits
        left_is = λ i. filter (λ x. twice (is_left (world_value ps old) x) i) old.waits
          where
            twice : (b : Bool) → not (not b) ≡ b
            twice true = refl
            twice false = refl

    module _ (x : Wait) (at : slice_get now.waits place ≡ Some x) where
      pub held_stays : is_left (world_value ps now) x ≡ true → IsEnding is_over old (place + 1) now
      held_stays left = one_stays is_over old place now so_far x at (ap not (sym (still_left now so_far.beside x) ∙ left))

      module _ (gone : is_left (world_value ps now) x ≡ false) (watch : Watch → Bool) (after : Objects)
          (is : after ≡ unwatching (unlisting (is_keyed_at x.object x.pid x.value x.port x.key) now) x.object watch) where
        over : is_over x ≡ true
        over = ap not (sym (still_left now so_far.beside x) ∙ gone)

        pub unheld_ends : IsEnding is_over old place after
        unheld_ends =
            narrow_ends is_over old place now so_far x at (is_keyed_at x.object x.pid x.value x.port x.key) (λ y. over_too x y over)
            (asks_for_itself x) x.object watch after is

        pub unheld_fewer : length after.waits * 2 - place < length now.waits * 2 - place
        unheld_fewer =
            narrow_fewer is_over old place now so_far x at (is_keyed_at x.object x.pid x.value x.port x.key) (λ y. over_too x y over)
            (asks_for_itself x) x.object watch after is
