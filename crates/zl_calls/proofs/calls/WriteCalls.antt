-- The calls chan_write and chan_write_slots, from their table and objects to a step.
use Rattle.zl_calls.proofs.Common.{All, All-append, All-cons, All-nil, AreNamed, AreSound, Body, Bool, ChanWriteDoes, Entry, Handles, IsConsistent, IsNamed}
use Rattle.zl_calls.proofs.Common.{IsTrue, Library, List, Map, Message, None, Object, ObjectValue, Objects, Ok, Operand, Option, Process, Replies, Site, Some}
use Rattle.zl_calls.proofs.Common.{Status, TRANSFER, Values, WRITE, World, WritesMessage, [], answer_if, any, ap, arith, body_in, body_value, body_with_message}
use Rattle.zl_calls.proofs.Common.{cases_Bool, chan_write, chan_write_slots, cond, consumes, contains, count_by, effect, eq-eqb, false, false≢true, fault_of}
use Rattle.zl_calls.proofs.Common.{filter, first_some, flat_map, get, get-update, get-without, get_seen, given_back, gives_ok, gives_refused, handle_operands}
use Rattle.zl_calls.proofs.Common.{handles_to, has_key, has_seen, if◌then◌else◌, inl, inr, insert_all, is_some, kind_of, koids_in, length, list_any-append}
use Rattle.zl_calls.proofs.Common.{list_refusal, listed, looked_up, map, may_choose, message_sent, new_handles, no_value, none-some, not, object_entry}
use Rattle.zl_calls.proofs.Common.{object_value, on_object, on_process, operand_by, operands_fault, option_map, option_or, option_to_list, or_parts, peer_at}
use Rattle.zl_calls.proofs.Common.{peer_here, plain_refusal, process_entry, process_value, queue_held, queued_to, refl, remove_all, replied, result_err}
use Rattle.zl_calls.proofs.Common.{same_Some, sum_by-append, sum_by-cons, sym, taken, taken_from, taken_handles, takes, then_some, told_by, true, update}
use Rattle.zl_calls.proofs.Common.{wants_memory, with_effect, without, without_handle, without_handles, world_value, write_refusal, ℕ, ◌++◌, ◌+◌, ◌<◌, ◌==◌}
use Rattle.zl_calls.proofs.Common.{◌||◌, ◌∙◌, ◌∷◌, ◌≡◌, ◌⊎◌}
use Rattle.zl_rights.specs.declared.kind.Kind.TheVariants as kind
use Rattle.zl_rights.specs.declared.status.Status.TheVariants as status
use Rattle.zl_code.specs.declared.history.Outcome.TheVariants as outcome
use Rattle.zl_code.specs.Tests.{entries_at, is_too_large, peer_in}
use Rattle.zl_objects.specs.declared.object.Body.TheVariants as body
use Rattle.zl_objects.specs.Objects.{if_there, is_channel_body, is_channel_in, peer_found, peer_of, reader_at, reader_of, sending, sent, sent_body}
use Rattle.zl_calls.proofs.calls.Owned.{own_entered}
use Rattle.zl_calls.proofs.calls.Answered.{IsWrite, asking, table_is}
use Rattle.zl_calls.proofs.objects.Counting.{queues, sum_update}
use Rattle.zl_calls.proofs.calls.DoneCalls.{IsCalled, IsDoneBy}
use Rattle.zl_calls.proofs.objects.Queued.{requeued, requeued_body, more_queued, requeued_kept, requeued_named, requeued_sound}
use Rattle.zl_calls.proofs.policy.Examining.{list_fault}
use Rattle.zl_calls.proofs.calls.Refused.{answers, first_looked_up, is_found, is_of_kind, three_tests}
use Rattle.zl_calls.proofs.calls.TakenCalls.{left_one, named_before, process_without_all, removed, replied_taking, same_koids, taken_map, taken_sound}
use Rattle.zl_calls.proofs.calls.TakenCalls.{taking_done}
use Rattle.zl_calls.proofs.objects.SameBodies.{still_named}
use Rattle.zl_calls.proofs.lists.Updates.{update_seen}
use Rattle.zl_calls.proofs.objects.Settled.{consistent_of}

-- ---- the peer of an end

module _ (r : Objects) (no_zero : (k : ℕ) → IsTrue (has_key r.objects k) → 0 < k) where
  no_object : has_key r.objects 0 ≡ false
  no_object = by_key (cases_Bool (has_key r.objects 0))
    where
      by_key : IsTrue (has_key r.objects 0) ⊎ (has_key r.objects 0 ≡ false) → has_key r.objects 0 ≡ false
      by_key (inl there) = absurd (omega (arith, no_zero 0 there))
      by_key (inr none) = none

  there_or_not : (b : Bool) (k : ℕ) → b ≡ is_some (if b then Some k else None)
  there_or_not true k = refl
  there_or_not false k = refl

  -- the peer of an end is there for the definitions where it is here
  pub peer_there : (k : ℕ) → has_key (map object_entry r.objects) (peer_in (body_in (get (map object_entry r.objects) k))) ≡ is_some (peer_here r.objects k)
  peer_there k = rw (has_seen r.objects (peer_in (body_in (get (map object_entry r.objects) k))), get_seen r.objects k) (by_object (get r.objects k))
    where
      by_body : (b : Body) → has_key r.objects (peer_in (Some (body_value b))) ≡ is_some (if_there r.objects (peer_of b))
      by_body (body.ChannelEnd peer queue) = there_or_not (has_key r.objects peer) peer
      by_body (body.PairEnd peer) = there_or_not (has_key r.objects peer) peer
      by_body _ = no_object

      by_object : (o : Option Object) → has_key r.objects (peer_in (body_in (option_map object_value o))) ≡ is_some (if_there r.objects (peer_found o))
      by_object None = no_object
      by_object (Some o) = by_body o.body

  -- which it is
  pub peer_is : (k n : ℕ) → peer_here r.objects k ≡ Some n → peer_in (body_in (get (map object_entry r.objects) k)) ≡ n
  peer_is k n at = rw (get_seen r.objects k) (by_object (get r.objects k) at)
    where
      by_key : (b : Bool) (peer : ℕ) → (if b then Some peer else None) ≡ Some n → peer ≡ n
      by_key true peer read = same_Some peer n read
      by_key false peer read = absurd (none-some n read)

      by_body : (b : Body) → if_there r.objects (peer_of b) ≡ Some n → peer_in (Some (body_value b)) ≡ n
      by_body (body.ChannelEnd peer queue) read = by_key (has_key r.objects peer) peer read
      by_body (body.PairEnd peer) read = by_key (has_key r.objects peer) peer read
      by_body _ read = absurd (none-some n read)

      by_object : (o : Option Object) → if_there r.objects (peer_found o) ≡ Some n → peer_in (body_in (option_map object_value o)) ≡ n
      by_object None read = absurd (none-some n read)
      by_object (Some o) read = by_body o.body read

-- of an end of a channel the reader is the peer
reader_is : (os : Map Object) (e : Entry) → IsNamed os e → takes (kind.Channel ∷ []) e.kind ≡ true → reader_at os e.koid ≡ peer_here os e.koid
reader_is os e named fits = rw named.there (ap (if_there os) (by_body named.object.body (rw named.kind at fits)))
  where
    by_body : (b : Body) → takes (kind.Channel ∷ []) (kind_of (body_value b)) ≡ true → reader_of b ≡ peer_of b
    by_body (body.PairEnd peer) h = absurd (false≢true h)
    by_body _ h = refl

-- ---- what holds where it isn't refused

none_first : (a b : Option Status) → option_or a b ≡ None → a ≡ None
none_first None b h = refl
none_first (Some s) b h = h

none_then : (a b : Option Status) → option_or a b ≡ None → b ≡ None
none_then None b h = h
none_then (Some s) b h = absurd (none-some s (sym h))

other_one : (t : Handles) (h v : ℕ) → (h == v) ≡ false → get (without_handle t h).entries v ≡ get t.entries v
other_one t h v apart = by_live (has_key t.entries h)
  where
    by_live : (live : Bool) → get (if live then record { entries = without t.entries h; last = Some h; free = given_back h t.free } else t).entries v
        ≡ get t.entries v
    by_live true = get-without t.entries h v ∙ rw apart refl
    by_live false = refl

-- handles of which none is listed twice leave the table as they were in it
same_taken : (m : Map Entry) (before hs : List ℕ) (t : Handles) → list_refusal m before hs ≡ None
    → ((v : ℕ) → contains before v ≡ false → get t.entries v ≡ get m v) → flat_map (λ h. option_to_list (get m h)) hs ≡ taken_from t hs
same_taken m before [] t passes same = refl
same_taken m before (h ∷ hs) t passes same =
    by_seen (contains before h) refl passes (λ later more. same_taken m (before ++ h ∷ []) hs (without_handle t h) later more)
  where
    more : (v : ℕ) → contains (before ++ h ∷ []) v ≡ false → get (without_handle t h).entries v ≡ get m v
    more v unseen =
        let parts = or_parts (contains before v) ((h == v) || false) (sym (list_any-append (λ y. y == v) before (h ∷ [])) ∙ unseen) in
        other_one t h v (or_parts (h == v) false parts.1).0 ∙ same v parts.0

    by_seen : (b : Bool) → contains before h ≡ b
        → option_or (if b then Some status.BadHandle else fault_of (looked_up m h [] TRANSFER)) (list_refusal m (before ++ h ∷ []) hs) ≡ None
        → (list_refusal m (before ++ h ∷ []) hs ≡ None → ((v : ℕ) → contains (before ++ h ∷ []) v ≡ false → get (without_handle t h).entries v ≡ get m v)
        → flat_map (λ x. option_to_list (get m x)) hs ≡ taken_from (without_handle t h) hs)
        → option_to_list (get m h) ++ flat_map (λ x. option_to_list (get m x)) hs ≡ option_to_list (get t.entries h) ++ taken_from (without_handle t h) hs
    by_seen true is read rest = absurd (none-some status.BadHandle (sym read))
    by_seen false is read rest =
        let tail : flat_map (λ x. option_to_list (get m x)) hs ≡ taken_from (without_handle t h) hs =
        rest (none_then (fault_of (looked_up m h [] TRANSFER)) (list_refusal m (before ++ h ∷ []) hs) read) more in
        λ i. option_to_list (sym (same h is) i) ++ tail i

-- the handles that leave have what each in the table has
all_taken : (P : Entry → Type 0) (hs : List ℕ) (t : Handles) → ((v : ℕ) (e : Entry) → get t.entries v ≡ Some e → P e) → All P (taken_from t hs)
all_taken P [] t each = All-nil P
all_taken P (h ∷ hs) t each = by_entry (get t.entries h) refl (all_taken P hs (without_handle t h) (λ v e at. each v e (left_one t h v e at)))
  where
    by_entry : (o : Option Entry) → get t.entries h ≡ o → All P (taken_from (without_handle t h) hs)
        → All P (option_to_list o ++ taken_from (without_handle t h) hs)
    by_entry None is rest = rest
    by_entry (Some e) is rest = All-cons P e (taken_from (without_handle t h) hs) (each h e is) rest

-- the handles of the list are those that the call takes
pub takes_listed : (c : ℕ) (bytes hs : List ℕ) → taken_handles (chan_write c bytes hs) ≡ hs
unfolding taken_handles handle_operands
takes_listed c bytes hs = of_list hs
  where
    of_list : (xs : List ℕ) → map (λ (o : Operand). o.value) (filter (λ (o : Operand). o.is_taken)
        (flat_map (operand_by (consumes any TRANSFER)) xs)) ≡ xs
    of_list [] = refl
    of_list (x ∷ xs) = ap (λ (rest : List ℕ). x ∷ rest) (of_list xs)

-- ---- a message more in a queue

module _ (m : Message) where
  -- as the definitions see it
  sent_seen : (os : Map Object) (k : ℕ) → map object_entry (update os k (sent m)) ≡ update (map object_entry os) k (message_sent m)
  sent_seen os k = update_seen object_value os k (sent m) (message_sent m) (λ o. ap (λ b. record (object_value o) { body = b }) (by_body o.body))
    where
      by_body : (b : Body) → body_value (sent_body m b) ≡ body_with_message m (body_value b)
      by_body (body.ChannelEnd peer queue) = refl
      by_body _ = refl

  queues_sent : (os : Map Object) (k j : ℕ) → IsTrue (is_channel_in (get os k))
      → queues (update os k (sent m)) j ≡ queues os j + count_by (λ (e : Entry). e.koid == j) m.handles
  queues_sent os k j is_end = by_object (get os k) refl is_end
    where
      by_body : (b : Body) → IsTrue (is_channel_body b)
          → queued_to j (body_with_message m (body_value b)) ≡ queued_to j (body_value b) + count_by (λ (e : Entry). e.koid == j) m.handles
      by_body (body.ChannelEnd peer queue) h =
          omega (
            arith,
            sum_by-append (λ (x : Message). count_by (λ (e : Entry). e.koid == j) x.handles) queue (m ∷ []),
            sum_by-cons (λ (x : Message). count_by (λ (e : Entry). e.koid == j) x.handles) m [],
          )
      by_body _ h = absurd (false≢true h)

      by_object : (o : Option Object) → get os k ≡ o → IsTrue (is_channel_in o)
          → queues (update os k (sent m)) j ≡ queues os j + count_by (λ (e : Entry). e.koid == j) m.handles
      by_object None is h = absurd (false≢true h)
      by_object (Some o) is h = rw (sent_seen os k)
          (sum_update (λ x. queued_to j x.1.body) (map object_entry os) k (count_by (λ (e : Entry). e.koid == j) m.handles) (object_value o) (message_sent m)
          (get_seen os k ∙ rw is refl) (by_body o.body h))

  abbrev sent_last : List Message → List Message
  sent_last queue = queue ++ m ∷ []

  same_sending : (r : Objects) (k : ℕ) → sending r k m ≡ record r { objects = update r.objects k (requeued sent_last) }
  same_sending r k = ap (λ (f : Object → Object). record r { objects = update r.objects k f }) (λ i o. same o i)
    where
      by_body : (b : Body) → sent_body m b ≡ requeued_body sent_last b
      by_body (body.ChannelEnd peer queue) = refl
      by_body _ = refl

      same : (o : Object) → sent m o ≡ requeued sent_last o
      same o = ap (λ (b : Body). record o { body = b }) (by_body o.body)

count_koids : (j : ℕ) (es : List Entry) → count_by (λ (e : Entry). e.koid == j) es ≡ count_by (λ i. i == j) (koids_in es)
count_koids j [] = refl
count_koids j (e ∷ es) =
    omega (arith, count_koids j es, sum_by-cons (λ (x : Entry). cond (x.koid == j) 1 0) e es, sum_by-cons (λ (i : ℕ). cond (i == j) 1 0) e.koid (koids_in es))

-- ---- the step

-- a process of the world, before and after its call
module _ {before after : List Process} {r : Objects} {p p2 : Process} (lib : Library) (r2 : Objects) (consistent : IsConsistent before r)
    (write : IsWrite before after p p2)
    (c : ℕ) (bytes hs : List ℕ) (base : Site) where
  abbrev w : World
  w = world_value before r

  abbrev write_site : Site
  write_site = asking (chan_write c bytes hs) base

  -- the end at the value c is one of a channel
  reader_here : (e : Entry) → looked_up p.table.entries c (kind.Channel ∷ []) WRITE ≡ Ok e → get p.table.entries c ≡ Some e
      → reader_at r.objects e.koid ≡ peer_here r.objects e.koid
  reader_here e is at =
      reader_is r.objects e (consistent.named p.pid (process_value p) c e write.there at) (is_of_kind (get p.table.entries c) (kind.Channel ∷ []) WRITE e is)

  abbrev refused_by : Option Status
  refused_by = write_refusal p.table.entries r.objects c (length bytes) hs

  refused : plain_refusal lib w p.pid (chan_write c bytes hs) ≡ answers refused_by
  unfolding handle_operands operands_fault listed
  refused =
      first_looked_up lib w p.pid p.table.entries (table_is write r) (chan_write c bytes hs) refused_by
      c (kind.Channel ∷ []) WRITE (list_refusal p.table.entries [] hs)
      (ap (option_or (result_err (looked_up p.table.entries c (kind.Channel ∷ []) WRITE))) (sym (list_fault p.table.entries [] [] hs (λ v. refl))))
      (λ s is. rw is refl)
      (λ e is at. rw (is, table_is write r, at, reader_here e is at, peer_there r consistent.no_zero e.koid)
      (by_tests (list_refusal p.table.entries [] hs) (not (is_some (peer_here r.objects e.koid)))))
    where
      by_tests : (o : Option Status) (closed : Bool)
          → first_some (answers o ∷ answer_if (contains hs c) status.NotSupported ∷ answer_if (is_too_large bytes hs) status.OutOfRange
          ∷ answer_if closed status.PeerClosed ∷ [])
          ≡ answers (option_or o (option_or (then_some (contains hs c) status.NotSupported) (option_or (then_some (is_too_large bytes hs) status.OutOfRange)
          (then_some closed status.PeerClosed))))
      by_tests None closed = three_tests (contains hs c) (is_too_large bytes hs) closed status.NotSupported status.OutOfRange status.PeerClosed
      by_tests (Some s) closed = refl

  module _ (writes : WritesMessage p.table r c bytes hs p2.table r2) (replies : Replies write_site status.Ok [] p p2) where
    abbrev message : Message
    message = record { bytes = bytes; handles = taken_from p.table hs }

    state_same : p2.state ≡ p.state
    state_same = ap (λ (q : Process). q.state) replies

    -- ---- the relation of calls

    peer_same : peer_at w p.pid c ≡ writes.peer
    peer_same =
        rw (table_is write r, is_found (get p.table.entries c) (kind.Channel ∷ []) WRITE writes.end writes.is_end)
        (peer_is r consistent.no_zero writes.end.koid writes.peer
        (sym (reader_here writes.end writes.is_end (is_found (get p.table.entries c) (kind.Channel ∷ []) WRITE writes.end writes.is_end)) ∙ writes.is_peer))

    handles_same : entries_at w p.pid hs ≡ taken_from p.table hs
    handles_same =
        rw (table_is write r) (same_taken p.table.entries [] hs p.table
        (none_first (list_refusal p.table.entries [] hs) _ (none_then (fault_of (looked_up p.table.entries c (kind.Channel ∷ []) WRITE)) _ writes.unrefused))
        (λ v unseen. refl))

    abbrev middle : World
    middle = on_object (remove_all w p.pid hs) writes.peer (message_sent message)

    write_rest : (record middle { processes = map process_entry after }) ≡ world_value after r2
    unfolding on_object on_process
    write_rest =
        rw (removed hs w p.pid, writes.objects)
        (ap (λ (os : Map ObjectValue). record w { processes = map process_entry after; objects = os }) (sym (sent_seen message r.objects writes.peer)))

    so_far : middle.processes ≡ (remove_all w p.pid hs).processes
    unfolding on_object
    so_far = refl

    write_ends : world_value after r2 ≡ replied (with_effect lib w (taken w p.pid write_site) p.pid (chan_write c bytes hs) []) p.pid write_site status.Ok []
    unfolding effect new_handles insert_all
    write_ends =
        rw (takes_listed c bytes hs, peer_same, handles_same)
        (replied_taking write hs writes.table w r2 write_site status.Ok [] middle refl so_far write_rest replies)

    write_chosen : IsTrue (may_choose w (taken w p.pid write_site) p.pid (chan_write c bytes hs) [])
    unfolding may_choose new_handles on_process
    write_chosen =
        rw (takes_listed c bytes hs, removed hs w p.pid, get-update w.processes p.pid (process_without_all hs) p.pid, eq-eqb p.pid p.pid refl, write.there) refl

    -- ---- the invariant

    abbrev changed : Objects
    changed = record r { objects = update r.objects writes.peer (requeued (sent_last message)) }

    named_now : (e : Entry) → IsNamed r.objects e → IsNamed changed.objects e
    named_now = requeued_named (sent_last message) r.objects writes.peer

    queue_named : (b : Body) → AreNamed r.objects (queue_held b) → AreNamed changed.objects (queue_held (requeued_body (sent_last message) b))
    queue_named (body.ChannelEnd peer queue) old =
        All-append (λ (x : Message). All (IsNamed changed.objects) x.handles) queue (message ∷ []) (still_named r.objects changed.objects named_now queue old)
        (All-cons (λ (x : Message). All (IsNamed changed.objects) x.handles) message [] (all_taken (IsNamed changed.objects) hs p.table (λ v e at. named_now e
        (named_before write hs writes.table r consistent state_same v e at))) (All-nil (λ (x : Message). All (IsNamed changed.objects) x.handles)))
    queue_named _ old = All-nil (λ (x : Message). All (IsNamed changed.objects) x.handles)

    -- the handles have left the table, and count still; then they are in the queue
    left : AreSound after (taken_map p.table hs) r
    left = taken_sound write hs writes.table r consistent state_same

    write_counts : (j : ℕ) → handles_to (world_value after changed) j + count_by (λ (h : ℕ × Entry). h.1.koid == j) []
        ≡ handles_to (world_value after r) j + count_by (λ h. h.1.koid == j) (taken_map p.table hs)
    write_counts j =
        let more : handles_to (world_value after (sending r writes.peer message)) j
        ≡ handles_to (world_value after r) j + count_by (λ (x : ℕ × Entry). x.1.koid == j) (taken_map p.table hs)
        = more_queued after r (sending r writes.peer message) j _ (queues_sent message r.objects writes.peer j writes.there
        ∙ ap (λ n. queues r.objects j + n) (count_koids j (taken_from p.table hs) ∙ same_koids j hs p.table)) in
        omega (arith, more, ap (λ (x : Objects). handles_to (world_value after x) j) (same_sending message r writes.peer))

    write_kept : IsConsistent after changed
    write_kept = consistent_of after changed
        (requeued_sound (sent_last message) after r writes.peer (taken_map p.table hs) [] left
        (λ o at. queue_named o.body (left.queued writes.peer o at)) write_counts)
        (requeued_kept (sent_last message) after r writes.peer consistent.kept)

    write_called : IsCalled lib before after r r2 p.pid write_site (outcome.Answered status.Ok)
    unfolding gives_ok new_handles
    write_called = record {
      calls = (Values [], rw (refused, writes.unrefused) (write_chosen, refl, write_ends));
      own = λ living. own_entered write r living write_site.request [] []
          (writes.table ∙ ap (without_handles p.table) (sym (takes_listed c bytes hs))) refl refl refl;
      keeps = rw (writes.objects, same_sending message r writes.peer) write_kept;
    }

  pub write_done : IsDoneBy lib before after r r2 p p2 write_site (told_by no_value) (ChanWriteDoes c bytes hs)
  unfolding gives_refused
  write_done ready call next o acts =
      taking_done lib r2 consistent write ready call write_site next hs (takes_listed c bytes hs) no_value
      (λ _. WritesMessage p.table r c bytes hs) wants_memory refused_by
      refused refl (λ answer. refl) (λ _. write_called) o acts.answer acts.acts acts.replied acts.ends

  -- ---- the same of handles in slots, of which the definitions say the same

  abbrev slots_site : Site
  slots_site = asking (chan_write_slots c bytes hs) base

  slots_called : WritesMessage p.table r c bytes hs p2.table r2 → Replies slots_site status.Ok [] p p2
      → IsCalled lib before after r r2 p.pid slots_site (outcome.Answered status.Ok)
  unfolding handle_operands taken_handles listed effect new_handles may_choose gives_ok gives_refused replied plain_refusal
  slots_called writes replies =
      let called = write_called writes replies in
      record { calls = called.calls; own = called.own; keeps = called.keeps }

  pub slots_done : IsDoneBy lib before after r r2 p p2 slots_site (told_by no_value) (ChanWriteDoes c bytes hs)
  unfolding handle_operands taken_handles listed gives_refused plain_refusal
  slots_done ready call next o acts =
      taking_done lib r2 consistent write ready call slots_site next hs (takes_listed c bytes hs) no_value
      (λ _. WritesMessage p.table r c bytes hs) wants_memory refused_by
      refused refl (λ answer. refl) (λ _. slots_called) o acts.answer acts.acts acts.replied acts.ends
