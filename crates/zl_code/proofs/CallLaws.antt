-- What each call says where it isn't refused: its new handles have room, and it is made of these changes.
use Rattle.zl_code.proofs.Common.{All, All-filter, Body, Entry, EventBody, HasPeer, IsSound, IsTrue, Kind, Library, List, Map, None, Object, Option}
use Rattle.zl_code.proofs.Common.{PortBody, Process, Ready, Request, Some, StandsBelow, WAIT, WRITE, World, [], and_from, ap, arith, body_of, cases_Bool}
use Rattle.zl_code.proofs.Common.{chan_create, chan_read_etc, chan_read_slots, chan_write, chan_write_slots, choosing, copy_of, drop, dup, effect}
use Rattle.zl_code.proofs.Common.{entries_at, entry_at, eq-eqb, eqb-true, event_create, eventpair_create, examined, false, false≢true, filter}
use Rattle.zl_code.proofs.Common.{filter_passes, first_bytes, first_handles, first_some, get, gets_all, handle_operands, handles_to, has_koids, has_room}
use Rattle.zl_code.proofs.Common.{inl, inr, insert_all, is_by_handle, is_dead, is_empty, is_port_there, is_some, job_create, job_set_policy, job_within}
use Rattle.zl_code.proofs.Common.{keeping, kind_of, koid_in, leb-true, length, listed, may_choose, may_get, may_get_all, message_read, nat_le, new_entry}
use Rattle.zl_code.proofs.Common.{new_handles, not, not-false, not-true, object_at, object_changed, on_object, on_process, operand, operand_of, or_parts}
use Rattle.zl_code.proofs.Common.{peer_at, policy_changed, port_cancel, port_create, port_poll, port_queue, port_wait, process_create, process_start}
use Rattle.zl_code.proofs.Common.{queue_at, queue_of, receiver_of, refl, refusal, registered, remove_all, replace, row_of, runs, same_Some, setting_of}
use Rattle.zl_code.proofs.Common.{signal, signal_peer, slots_filled, source_at, storing, subst, sym, taken_handles, takes, task_kill, true, true≢false}
use Rattle.zl_code.proofs.Common.{user_packet, wait_async, wait_of, with_effect, with_killed, with_object, without, without_keyed, without_waits, ℕ, ◌++◌}
use Rattle.zl_code.proofs.Common.{◌+◌, ◌<◌, ◌==◌, ◌^◌, ◌∙◌, ◌∷◌, ◌≡◌, ◌≤◌}
use Rattle.zl_rights.specs.declared.kind.Kind.TheVariants as kind
use Rattle.zl_rights.specs.declared.status.Status.TheVariants as status
use Rattle.zl_rights.specs.Packets.{is_from}
use Rattle.zl_code.proofs.Killing.{childless}
use Rattle.zl_code.specs.Local.{overwritten}
use Rattle.zl_code.proofs.MapKept.{changed}
use Rattle.zl_code.proofs.Changes.{AreUnmade, computes, message_comes, message_goes, signals_change, Changes, stays, changes, join, one, object_changes}
use Rattle.zl_code.proofs.Changes.{object_is_made, policy_changes, MakesEnds, channel_ends, pair_ends, ends_are_made, packets_are_changed, process_changes}
use Rattle.zl_code.proofs.Changes.{wait_begins, keyed_end, waits_end}
use Rattle.zl_code.proofs.Entering.{IsFine, HaveRoom, MayTake, IsLeft, all_enter, get_without, gone_without, copy_is_fine, one_copy, entry_is_fine}
use Rattle.zl_code.proofs.Entering.{length_without, new_is_fine, removed_last}
use Rattle.zl_code.proofs.Messages.{may_be_sent, received_are_fine, two_entries, both_are_fine}
use Rattle.zl_code.proofs.Kills.{all_are_killed}
use Rattle.zl_code.proofs.Passing.{IsGranted, first_is_none, first_none, is_granted, is_live, listed_none, may_signal, may_signal_peer, named_object, room_and}
use Rattle.zl_code.proofs.Passing.{room_or, test_fails, unmade}
use Rattle.zl_code.proofs.TaskLaws.{process_made, job_stands, process_begins, child_apart, task_is_some}

-- ---- the calls

-- what the call says in w; u is w after the handles that it takes have left the table of p, which is then that of after
pub record IsLawful (lib : Library) (w u : World) (p : ℕ) (after : Process) (r : Request) : Type 0 where
  -- there is room for the new handles that get a value, where they enter the table of p
  pub room : receiver_of w p r ≡ p → HaveRoom after (choosing w p r)
  -- it is made of changes, whichever values these get
  pub changes : (vs : List ℕ) → IsTrue (may_choose w u p r vs) → Changes w u (with_effect lib w u p r vs)

module _ (lib : Library) (w : World) (p : ℕ) (q : Process) (there : get w.processes p ≡ Some q) (ready : q.state ≡ Ready) where
  module _ (u : World) (after : Process) (left : IsLeft w u p q after) where
    -- room for n handles is room for at most n
    room_for : (n : ℕ) (es : List Entry) → has_room w p n ≡ true → length es ≤ n → HaveRoom after es
    unfolding has_room
    room_for n es room few = let below = leb-true _ 1024 (rw there at room) in omega (arith, few, below, left.shorter)

    -- the new handles enter, in a world whose processes are those of u
    enter : (v : World) → v.processes ≡ u.processes → MayTake w v.waits p after → (es : List Entry) (vs : List ℕ) → (IsSound w → HaveRoom after es)
        → IsTrue (may_get_all after es vs) → All (IsFine w v.objects) es → Changes w v (insert_all v p es vs)
    enter v same may es vs room gets fine =
        all_enter w v p after es vs (λ s. ap (λ m. get m p) same ∙ left.is_there) (ap runs (left.state ∙ ready)) gets room may fine

    -- the values that were chosen
    chosen : (es : List Entry) (vs : List ℕ) → IsTrue (gets_all (get u.processes p) es vs) → IsTrue (may_get_all after es vs)
    chosen es vs gets = rw left.is_there at gets

    -- the handles of w are fine in u too
    fine_in : (h : ℕ) (e : Entry) → entry_at w p h ≡ Some e → IsFine w u.objects e
    fine_in h e at = subst (λ (m : Map Object). IsFine w m e) (sym left.objects) (entry_is_fine w p h e at)

    -- a new object, and the first handle to it
    one_made : MayTake w u.waits p after → (b : Body) → queue_of b ≡ [] → HasPeer (with_object u b).objects (with_object u b).next_koid b
        → (IsSound w → StandsBelow (with_object u b).objects u.next_koid b) → HaveRoom after (new_entry w.next_koid (kind_of b) ∷ []) → (vs : List ℕ)
        → IsTrue (gets_all (get u.processes p) (new_entry w.next_koid (kind_of b) ∷ []) vs)
        → Changes w u (insert_all (with_object u b) p (new_entry w.next_koid (kind_of b) ∷ []) vs)
    unfolding with_object
    one_made may b quiet peer tree room vs gets =
        changes u (with_object u b) _ (object_is_made w u b quiet peer tree)
        (enter (with_object u b) refl may (new_entry w.next_koid (kind_of b) ∷ []) vs (λ s. room) (chosen _ vs gets)
        (new_is_fine w u b w.next_koid left.next_koid))

    -- two new ends of a pair, and the first handles to them
    two_made : {end_to : ℕ → Body} {kind : Kind} → MakesEnds end_to kind → MayTake w u.waits p after → HaveRoom after (two_entries w kind) → (vs : List ℕ)
        → IsTrue (gets_all (get u.processes p) (two_entries w kind) vs)
        → Changes w u (insert_all (with_object (with_object u (end_to (w.next_koid + 1))) (end_to w.next_koid)) p (two_entries w kind) vs)
    unfolding with_object
    two_made {end_to} {kind} ends may room vs gets =
        changes u both _ (ends_are_made w u w.next_koid left.next_koid ends)
        (enter both refl may (two_entries w kind) vs (λ s. room) (chosen _ vs gets)
        (both_are_fine w u (end_to (w.next_koid + 1)) (end_to w.next_koid) kind w.next_koid left.next_koid (ends.kind_is _) (ends.kind_is _)))
      where
        both : World
        both = with_object (with_object u (end_to (w.next_koid + 1))) (end_to w.next_koid)

    -- a handle enters at the value that was removed last
    enter_again : (v : World) (h : ℕ) → v.processes ≡ u.processes → MayTake w v.waits p after → (es : List Entry) → length es ≤ 1 → IsTrue (may_get after h)
        → (IsSound w → HaveRoom after es) → All (IsFine w v.objects) es → Changes w v (insert_all v p es (h ∷ []))
    unfolding insert_all
    enter_again v h same may [] few gets room fine = stays v
    enter_again v h same may (e ∷ []) few gets room fine = enter v same may (e ∷ []) (h ∷ []) room (and_from (may_get after h) true gets refl) fine
    enter_again v h same may (e ∷ f ∷ es) few gets room fine = absurd (omega arith)

    -- the bytes are stored
    store : (v : World) (address : ℕ) (bytes : List ℕ) → Changes w v (storing v p (address, bytes))
    store v address [] = stays v
    store v address (b ∷ bytes) =
        one w v _ (process_changes w v p (λ x. record x { cpu = record x.cpu { memory = overwritten x.cpu.memory address (b ∷ bytes) } })
        (λ x at. changed x _ refl refl (computes _ refl)) (λ x. refl))

    -- the values are kept
    keep : (v : World) (kept : Option (ℕ × List ℕ)) → Changes w v (keeping v p kept)
    keep v None = stays v
    keep v (Some x) =
        one w v _ (process_changes w v p (λ y. record y { cpu = record y.cpu { slots = slots_filled y.cpu.slots (Some x) } })
        (λ y at. changed y _ refl refl (computes _ refl)) (λ y. refl))

    -- the first message at the end k is read: its handles enter, its bytes are stored, and values may be kept
    received : MayTake w u.waits p after → (k address : ℕ) (es : List Entry) (bytes vs : List ℕ) (kept : Option (ℕ × List ℕ)) → HaveRoom after es
        → IsTrue (gets_all (get u.processes p) es vs) → All (IsFine w (on_object u k message_read).objects) es
        → Changes w u (keeping (storing (insert_all (on_object u k message_read) p es vs) p (address, bytes)) p kept)
    unfolding on_object
    received may k address es bytes vs kept room gets fine =
        changes u (on_object u k message_read) _ (object_changes w u k message_read (λ o at. message_goes refl))
        (join w (on_object u k message_read) (insert_all (on_object u k message_read) p es vs) _
        (enter (on_object u k message_read) refl may es vs (λ s. room) (chosen es vs gets) fine)
        (join w (insert_all (on_object u k message_read) p es vs) _ _ (store _ address bytes) (keep _ kept)))

  -- the world without the handles that the call takes
  abbrev left_by : Request → World
  left_by r = remove_all w p (taken_handles r)

  -- a call that takes no handle away leaves the table as it was
  none_left : (hs : List ℕ) → hs ≡ [] → (after : Process) → IsLeft w (remove_all w p hs) p q after → after ≡ q
  unfolding remove_all
  none_left [] none after left = same_Some after q (sym left.is_there ∙ there)
  none_left (h ∷ hs) none after left = absurd (false≢true (ap is_empty none))

  -- handles may enter where the call takes none away
  may_take : (hs : List ℕ) → hs ≡ [] → (after : Process) → IsLeft w (remove_all w p hs) p q after → MayTake w (remove_all w p hs).waits p after
  unfolding remove_all
  may_take [] none after left =
      let same = none_left [] refl after left in
      record { free = λ s v free. unmade w p q there s v (rw same at free); last = λ s v is. rw same ((s.tables p q there).free v (rw same at is)).1 }
  may_take (h ∷ hs) none after left = absurd (false≢true (ap is_empty none))

  -- the new handle enters at the value of the one that it replaces
  replaced : (h rights : ℕ) (after : Process) (left : IsLeft w (left_by (replace h rights)) p q after) → refusal lib w p (replace h rights) ≡ None
      → Changes w (left_by (replace h rights)) (insert_all (without_waits (left_by (replace h rights)) p h) p (copy_of (entry_at w p h) rights) (h ∷ []))
  unfolding taken_handles handle_operands row_of remove_all on_process
  replaced h rights after left passes =
      let live = is_live w p h rights q lib there passes in
      let same : after ≡ record q { handles = without q.handles h; last = Some h } = same_Some after _ (sym left.is_there ∙ removed_last w p h q there live) in
      let shorter : length (without q.handles h) < length q.handles = length_without q.handles h live in
      changes _ (without_waits u p h) _ (waits_end w u p h)
      (enter_again u after left (without_waits u p h) h refl (rw same (record {
        free = λ s v free. elim (cases_Bool (v == h)) as (λ _. AreUnmade (filter (λ x. not (is_by_handle p h x)) w.waits) p v) [
          | inl here ↦ subst (AreUnmade (filter (λ x. not (is_by_handle p h x)) w.waits) p) (sym (eqb-true v h here))
              (λ i d inside. not-true _ (filter_passes (λ x. not (is_by_handle p h x)) w.waits i d inside))
          | inr other ↦ All-filter (λ x. not (is_by_handle p h x)) (λ x. is_by_handle p v x ≡ false) w.waits
              (unmade w p q there s v (sym (ap is_some (get_without q.handles h v other)) ∙ free))
        ];
        last = λ s v is. rw (← same_Some h v is) (gone_without q.handles h);
      })) (copy_of (entry_at w p h) rights) (one_copy (entry_at w p h) rights) (rw same (eq-eqb h h refl))
      (λ s. let few : length q.handles ≤ 1024 = (s.tables p q there).few in let one = one_copy (entry_at w p h) rights in rw same (omega arith))
      (copy_is_fine w u.objects (entry_at w p h) rights (fine_in u after left h)))
    where
      u : World
      u = remove_all w p (h ∷ [])

  -- the port that a wait names is there
  has_port : (h port key mask : ℕ) → refusal lib w p (wait_async h port key mask) ≡ None → IsGranted (kind.Port ∷ []) WRITE (entry_at w p port)
  unfolding row_of refusal handle_operands examined operand
  has_port h port key mask passes =
      let first = operand_of w p [] WAIT (entry_at w p h) in
      let second = operand_of w p (kind.Port ∷ []) WRITE (entry_at w p port) in
      let both : first_some (first ∷ first_some (second ∷ None ∷ []) ∷ []) ≡ None = first_is_none _ _ passes in
      is_granted w p (kind.Port ∷ []) WRITE (entry_at w p port)
      (first_is_none second (None ∷ []) (first_is_none (first_some (second ∷ None ∷ [])) [] (first_none first (first_some (second ∷ None ∷ []) ∷ []) both)))

  port_there : (b : Body) → IsTrue (takes (kind.Port ∷ []) (kind_of b)) → IsTrue (is_port_there (Some b))
  port_there (PortBody packets) fits = refl
  port_there _ fits = absurd (false≢true fits)

  -- a wait is registered
  wait_registered : (h port key mask : ℕ) → refusal lib w p (wait_async h port key mask) ≡ None
      → Changes w (left_by (wait_async h port key mask)) (registered (left_by (wait_async h port key mask)) (wait_of w p h port key mask))
  unfolding taken_handles handle_operands row_of remove_all
  wait_registered h port key mask passes =
      one w w _ (wait_begins w w (wait_of w p h port key mask) (λ s. record { handle = λ e at. sym (ap koid_in at); port = port_is s }))
    where
      port_is : IsSound w → IsTrue (is_port_there (body_of w (object_at w p port)))
      port_is s = let (o, at, fits) = named_object w p port (kind.Port ∷ []) WRITE (has_port h port key mask passes) s.named in rw at (port_there o.body fits)

  pub laws : (r : Request) (after : Process) (left : IsLeft w (left_by r) p q after) → refusal lib w p r ≡ None → IsLawful lib w (left_by r) p after r
  unfolding effect new_handles insert_all may_choose listed with_object taken_handles handle_operands row_of remove_all
  laws (dup h rights) after left passes =
      let u = left_by (dup h rights) in
      let may = may_take (taken_handles (dup h rights)) refl after left in
      let some_room = room_or w p 1 (nat_le (2 ^ 62) (handles_to w (object_at w p h))) (listed_none lib w p (dup h rights) passes).1.0 in
      let room = room_for u after left 1 (copy_of (entry_at w p h) rights) some_room (one_copy (entry_at w p h) rights) in
      record {
        room = λ e. room;
        changes = λ vs gets. enter u after left u refl may _ vs (λ s. room) (chosen u after left _ vs gets)
            (copy_is_fine w u.objects (entry_at w p h) rights (fine_in u after left h));
      }
  laws (replace h rights) after left passes = record { room = λ e. omega arith; changes = λ vs gets. replaced h rights after left passes }
  laws chan_create after left passes =
      let u = left_by chan_create in
      let some_room = room_and w p 2 (has_koids w 2) (listed_none lib w p chan_create passes).0 in
      let room = room_for u after left 2 (two_entries w kind.Channel) some_room (omega arith) in
      record { room = λ e. room; changes = two_made u after left channel_ends (may_take (taken_handles chan_create) refl after left) room }
  laws (chan_write c bytes hs) after left passes =
      let u = left_by (chan_write c bytes hs) in
      record {
        room = λ e. omega arith;
        changes = λ vs gets. one w u _ (object_changes w u (peer_at w p c) _
            (λ o at. message_comes (record { bytes = bytes; handles = entries_at w p hs }) refl (may_be_sent w u p (peer_at w p c) bytes hs left.objects)));
      }
  laws (chan_read_etc c address room places) after left passes =
      let u = left_by (chan_read_etc c address room places) in
      let some_room = not-false _ (test_fails _ status.NoResources (listed_none lib w p (chan_read_etc c address room places) passes).1.1.1.0) in
      let enough = room_for u after left (length (first_handles (queue_at w p c))) (first_handles (queue_at w p c)) some_room (omega arith) in
      record {
        room = λ e. enough;
        changes = λ vs gets. received u after left (may_take (taken_handles (chan_read_etc c address room places)) refl after left) (object_at w p c) address _
            (first_bytes (queue_at w p c)) vs None enough gets (received_are_fine w u p c left.objects);
      }
  laws (chan_write_slots c bytes hs) after left passes =
      let u = left_by (chan_write_slots c bytes hs) in
      record {
        room = λ e. omega arith;
        changes = λ vs gets. one w u _ (object_changes w u (peer_at w p c) _
            (λ o at. message_comes (record { bytes = bytes; handles = entries_at w p hs }) refl (may_be_sent w u p (peer_at w p c) bytes hs left.objects)));
      }
  laws (chan_read_slots c address room array places) after left passes =
      let r = chan_read_slots c address room array places in
      let some_room = not-false _ (test_fails _ status.NoResources (listed_none lib w p r passes).1.1.1.0) in
      let enough = room_for (left_by r) after left (length (first_handles (queue_at w p c))) (first_handles (queue_at w p c)) some_room (omega arith) in
      record {
        room = λ e. enough;
        changes = λ vs gets. received (left_by r) after left (may_take (taken_handles r) refl after left) (object_at w p c) address _
            (first_bytes (queue_at w p c)) vs (Some (array, vs)) enough gets (received_are_fine w (left_by r) p c left.objects);
      }
  laws event_create after left passes =
      let u = left_by event_create in
      let some_room = room_and w p 1 (has_koids w 1) (listed_none lib w p event_create passes).0 in
      let room = room_for u after left 1 (new_entry w.next_koid kind.Event ∷ []) some_room (omega arith) in
      record { room = λ e. room; changes = one_made u after left (may_take (taken_handles event_create) refl after left) EventBody refl tt (λ s. tt) room }
  laws (signal_peer h clear set) after left passes =
      let u = left_by (signal_peer h clear set) in
      record {
        room = λ e. omega arith;
        changes = λ vs gets. one w u _ (object_changes w u (peer_at w p h) (object_changed clear set)
            (λ o at. signals_change clear set refl
            (may_signal_peer w p h clear set lib passes o (subst (λ (m : Map Object). get m (peer_at w p h) ≡ Some o) left.objects at))));
      }
  laws (wait_async h port key mask) after left passes = record { room = λ e. omega arith; changes = λ vs gets. wait_registered h port key mask passes }
  laws port_create after left passes =
      let u = left_by port_create in
      let some_room = room_and w p 1 (has_koids w 1) (listed_none lib w p port_create passes).0 in
      let room = room_for u after left 1 (new_entry w.next_koid kind.Port ∷ []) some_room (omega arith) in
      record { room = λ e. room; changes = one_made u after left (may_take (taken_handles port_create) refl after left) (PortBody []) refl tt (λ s. tt) room }
  laws (port_queue port key value) after left passes =
      let u = left_by (port_queue port key value) in
      record {
        room = λ e. omega arith;
        changes = λ vs gets. one w u _ (packets_are_changed w u (object_at w p port) (λ xs. xs ++ (user_packet key value ∷ [])));
      }
  laws (port_wait port) after left passes =
      let u = left_by (port_wait port) in
      record { room = λ e. omega arith; changes = λ vs gets. one w u _ (packets_are_changed w u (object_at w p port) (drop 1)) }
  laws (port_poll port) after left passes =
      let u = left_by (port_poll port) in
      record { room = λ e. omega arith; changes = λ vs gets. one w u _ (packets_are_changed w u (object_at w p port) (drop 1)) }
  laws (port_cancel port source key) after left passes =
      let u = left_by (port_cancel port source key) in
      let k = object_at w p port in
      record {
        room = λ e. omega arith;
        changes = λ vs gets. changes u (without_keyed u p source k key) _ (keyed_end w u p source k key)
            (one w (without_keyed u p source k key) _
            (packets_are_changed w (without_keyed u p source k key) k (filter (λ x. not (is_from (source_at w p source) key x)))));
      }
  laws (process_create job program) after left passes =
      let u = left_by (process_create job program) in
      let some_room = room_and w p 1 (has_koids w 1) (listed_none lib w p (process_create job program) passes).1.1.1.0 in
      let room = room_for u after left 1 (new_entry w.next_koid kind.Process ∷ []) some_room (omega arith) in
      let same : after ≡ q = none_left (taken_handles (process_create job program)) refl after left in
      record {
        room = λ e. room;
        changes = λ vs gets. process_made lib w p q there ready job program vs passes
            (subst (λ (x : Process). HaveRoom x (new_entry w.next_koid kind.Process ∷ [])) same room) gets;
      }
  laws (process_start process h word) after left passes = record {
    room = λ e. absurd (true≢false (sym (eq-eqb p (object_at w p process) (sym e)) ∙ child_apart lib w p q there ready process h word passes));
    changes = λ vs gets. process_begins lib w p q there ready process h word vs passes gets;
  }
  laws (task_kill task) after left passes = record {
    room = λ e. omega arith;
    changes = λ vs gets. one w w (with_killed w (object_at w p task)) (all_are_killed w w (object_at w p task)
        (λ k s inside. childless w s (object_at w p task) (task_is_some lib w p q there ready task passes s) k inside));
  }
  laws (job_set_policy j mode condition action) after left passes =
      let u = left_by (job_set_policy j mode condition action) in
      record {
        room = λ e. omega arith;
        changes = λ vs gets. one w u _ (object_changes w u (object_at w p j) (policy_changed (setting_of mode condition action))
            (λ o at. policy_changes (setting_of mode condition action) refl
            (λ s. (or_parts (is_dead (body_of w (object_at w p j))) _
            (test_fails _ status.BadState (listed_none lib w p (job_set_policy j mode condition action) passes).1.0)).1)));
      }
  laws (job_create j) after left passes =
      let u = left_by (job_create j) in
      let some_room = room_and w p 1 (has_koids w 1) (listed_none lib w p (job_create j) passes).1.1.0 in
      let room = room_for u after left 1 (new_entry w.next_koid kind.Job ∷ []) some_room (omega arith) in
      record {
        room = λ e. room;
        changes = one_made u after left (may_take (taken_handles (job_create j)) refl after left)
            (job_within (object_at w p j) (body_of w (object_at w p j))) refl tt (job_stands lib w p q there ready j passes) room;
      }
  laws (signal h clear set) after left passes =
      let u = left_by (signal h clear set) in
      record {
        room = λ e. omega arith;
        changes = λ vs gets. one w u _ (object_changes w u (object_at w p h) (object_changed clear set)
            (λ o at. signals_change clear set refl
            (may_signal w p h clear set lib passes o (subst (λ (m : Map Object). get m (object_at w p h) ≡ Some o) left.objects at))));
      }
  laws eventpair_create after left passes =
      let u = left_by eventpair_create in
      let some_room = room_and w p 2 (has_koids w 2) (listed_none lib w p eventpair_create passes).0 in
      let room = room_for u after left 2 (two_entries w kind.Eventpair) some_room (omega arith) in
      record { room = λ e. room; changes = two_made u after left pair_ends (may_take (taken_handles eventpair_create) refl after left) room }
  laws _ after left passes = record { room = λ e. omega arith; changes = λ vs gets. stays _ }
