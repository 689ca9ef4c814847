-- Any call that reads a message, from its table and objects to the relation of calls.
use Rattle.zl_calls.proofs.Common.{All, All-head, All-nil, All-tail, AreNamed, AreSound, Body, Bool, Entry, Err, FreeBy, IsConsistent, IsFaultBy, IsNamed}
use Rattle.zl_calls.proofs.Common.{IsTold, IsTrue, Library, List, Map, Message, None, Object, ObjectValue, Objects, Ok, Option, Process, ProcessValue, READ}
use Rattle.zl_calls.proofs.Common.{ReadFault, ReadsMessage, Received, Refused, Result, Site, Some, Status, Told, Values, Wants, World, [], and_parts, answer_if}
use Rattle.zl_calls.proofs.Common.{ap, arith, bits, body_after_read, body_in, body_of, body_value, count_by, cpu_answered, drop, false, false≢true}
use Rattle.zl_calls.proofs.Common.{first_handles, first_some, front_at, front_by, front_in, get, get_seen, gets_all, gives_ok, gives_refused, granted}
use Rattle.zl_calls.proofs.Common.{handle_operands, handles_to, has_room, if◌then◌else◌, insert_all, is_empty, is_process, is_some, keeping, left_free, length}
use Rattle.zl_calls.proofs.Common.{listed, lives, looked_up, map, may_choose, may_want, message_read, nat_le, nat_tests, none-some, not, object_at}
use Rattle.zl_calls.proofs.Common.{object_entry, object_value, ok_outcome, on_object, on_process, operands_fault, option_map, option_or, peer_here}
use Rattle.zl_calls.proofs.Common.{plain_refusal, process_entry, process_value, process_with, process_with_all, queue_at, queue_found, queue_held, queued_to}
use Rattle.zl_calls.proofs.Common.{read_refused, refl, replied, result_err, sizes_of, slice_get, storing, subst, sum_by, sum_by-cons, sum_fewer, sym, taken}
use Rattle.zl_calls.proofs.Common.{takes, told_unread, true, update, wants_memory, with_effect, with_kept, with_stored, within, without_handles, world_value, ℕ}
use Rattle.zl_calls.proofs.Common.{◌&&◌, ◌++◌, ◌+◌, ◌==◌, ◌∙◌, ◌∷◌, ◌≡◌, ◌≤◌}
use Rattle.zl_rights.specs.declared.kind.Kind.TheVariants as kind
use Rattle.zl_rights.specs.declared.status.Status.TheVariants as status
use Rattle.zl_code.specs.declared.history.Outcome.TheVariants as outcome
use Rattle.zl_code.specs.Tests.{first_bytes, has_place_for, queue_in}
use Rattle.zl_rights.proofs.Common.{leb-true}
use Rattle.zl_table.specs.Table.{Handles}
use Rattle.zl_channel.specs.Queue.{front_handles}
use Rattle.zl_objects.specs.declared.object.Body.TheVariants as body
use Rattle.zl_objects.specs.Objects.{received, received_body, receiving}
use Rattle.zl_calls.specs.declared.calls.channel.reading.ReadFault.TheVariants as fault
use Rattle.zl_calls.proofs.calls.Owned.{IsMaker, own_in, own_plain, own_refused}
use Rattle.zl_calls.proofs.calls.Answered.{IsWrite, replied_with, same_world, table_is}
use Rattle.zl_calls.proofs.objects.Counted.{queue_seen}
use Rattle.zl_calls.proofs.objects.Counting.{counts_written, queues, naming, numbered, numbered_naming}
use Rattle.zl_calls.proofs.calls.DoneCalls.{IsCalled}
use Rattle.zl_calls.proofs.tables.Entered.{values_count}
use Rattle.zl_calls.proofs.tables.EnteredTables.{all_chosen, all_given, counts_entered, each_entered, tables_entered}
use Rattle.zl_calls.proofs.objects.Queued.{requeued, requeued_body, more_queued, requeued_kept, requeued_named, requeued_sound}
use Rattle.zl_calls.proofs.calls.Refused.{answers, first_looked_up}
use Rattle.zl_calls.proofs.objects.SameBodies.{still_named}
use Rattle.zl_calls.proofs.lists.Updates.{update_itself, update_seen, update_twice}
use Rattle.zl_calls.proofs.calls.WriteCalls.{peer_there}
use Rattle.zl_calls.proofs.processes.Written.{refusal_keeps, entered, same_agrees}
use Rattle.zl_calls.proofs.objects.Settled.{sound_of}

-- ---- the refusal

-- the status of a fault, if there is one
abbrev why : Result ℕ ReadFault → Option Status
why (Ok end) = None
why (Err (fault.TooSmall bytes handles)) = Some status.BufferTooSmall
why (Err (fault.Refused s)) = Some s

-- what is to be read is the same for the definitions
queue_there : (os : Map Object) (k : ℕ) → queue_in (body_in (get (map object_entry os) k)) ≡ queue_found (get os k)
queue_there os k = rw (get_seen os k) (by_object (get os k))
  where
    by_object : (o : Option Object) → queue_in (body_in (option_map object_value o)) ≡ queue_found o
    by_object None = refl
    by_object (Some o) = queue_seen o.body

by_queue : (count room places k : ℕ) (there : Bool) (queue : List Message) → first_some (answer_if (is_empty queue && not there) status.PeerClosed
    ∷ answer_if (is_empty queue) status.ShouldWait
    ∷ answer_if (not (has_place_for room places queue)) status.BufferTooSmall
    ∷ answer_if (not (nat_le (count + length (first_handles queue)) 1024)) status.NoResources
    ∷ []) ≡ answers (why (front_in count there room places k queue))
by_queue count room places k true [] = refl
by_queue count room places k false [] = refl
by_queue count room places k there (m ∷ ms) = by_tests (has_place_for room places (m ∷ ms)) (nat_le (count + length m.handles) 1024)
  where
    by_tests : (a b : Bool) → first_some (answer_if (not a) status.BufferTooSmall ∷ answer_if (not b) status.NoResources ∷ [])
        ≡ answers (why (if not a then Err (fault.TooSmall (length m.bytes) (length m.handles))
        else (if not b then Err (fault.Refused status.NoResources) else Ok k)))
    by_tests false b = refl
    by_tests true false = refl
    by_tests true true = refl

-- ---- what holds of the message

-- the end is named by the caller's handle, and the table and the caller have room for the handles of its first message
record IsFrontOf (entries : Map Entry) (objects : Map Object) (c places end : ℕ) : Type 0 where
  pub entry : Entry
  pub there : get entries c ≡ Some entry
  pub koid : entry.koid ≡ end
  pub room : length entries + length (front_handles (queue_found (get objects end))) ≤ 1024
  pub fits : length (front_handles (queue_found (get objects end))) ≤ places

-- the sizes that are told are those of the first message at the end that the handle names
record IsTooSmall (entries : Map Entry) (objects : Map Object) (c bytes handles : ℕ) : Type 0 where
  pub entry : Entry
  pub there : get entries c ≡ Some entry
  pub sizes : sizes_of (queue_found (get objects entry.koid)) ≡ bytes ∷ handles ∷ []

-- with this status the sizes of a message are told
abbrev pub tells_sizes : Status → Bool
tells_sizes status.BufferTooSmall = true
tells_sizes _ = false

-- what is known of the message by what was found
abbrev IsKnown : Map Entry → Map Object → (c places : ℕ) → Result ℕ ReadFault → Type 0
IsKnown entries objects c places (Ok end) = IsFrontOf entries objects c places end
IsKnown entries objects c places (Err (fault.TooSmall bytes handles)) = IsTooSmall entries objects c bytes handles
IsKnown entries objects c places (Err (fault.Refused s)) = tells_sizes s ≡ false

front_known : (entries : Map Entry) (objects : Map Object) (c room places : ℕ) → IsKnown entries objects c places (front_at entries objects c room places)
front_known entries objects c room places = by_entry (get entries c) refl
  where
    by_tests : (e : Entry) (m : Message) (ms : List Message) → get entries c ≡ Some e → queue_found (get objects e.koid) ≡ m ∷ ms
        → (a b : Bool) → has_place_for room places (m ∷ ms) ≡ a → nat_le (length entries + length m.handles) 1024 ≡ b
        → IsKnown entries objects c places (if not a then Err (fault.TooSmall (length m.bytes) (length m.handles))
        else (if not b then Err (fault.Refused status.NoResources) else Ok e.koid))
    by_tests e m ms there at false b has fits = record { entry = e; there = there; sizes = rw at refl }
    by_tests e m ms there at true false has fits = refl
    by_tests e m ms there at true true has fits = record {
      entry = e;
      there = there;
      koid = refl;
      room = rw at (grind (arith, nat_tests, fits));
      fits = rw at (leb-true (length m.handles) places (and_parts (nat_le (length m.bytes) room) _ has).1);
    }

    by_messages : (e : Entry) → get entries c ≡ Some e → (peer : Bool) (queue : List Message) → queue_found (get objects e.koid) ≡ queue
        → IsKnown entries objects c places (front_in (length entries) peer room places e.koid queue)
    by_messages e there true [] at = refl
    by_messages e there false [] at = refl
    by_messages e there peer (m ∷ ms) at =
        by_tests e m ms there at (has_place_for room places (m ∷ ms)) (nat_le (length entries + length m.handles) 1024) refl refl

    by_rights : (e : Entry) → get entries c ≡ Some e → (a b : Bool)
        → IsKnown entries objects c places
        (front_by entries objects room places (if a then (if b then Ok e else Err status.AccessDenied) else Err status.WrongType))
    by_rights e there true true = by_messages e there (is_some (peer_here objects e.koid)) (queue_found (get objects e.koid)) refl
    by_rights e there true false = refl
    by_rights e there false b = refl

    by_entry : (o : Option Entry) → get entries c ≡ o
        → IsKnown entries objects c places (front_by entries objects room places (granted o (kind.Channel ∷ []) READ))
    by_entry None there = refl
    by_entry (Some e) there = by_rights e there (takes (kind.Channel ∷ []) e.kind) (within READ (bits e.rights))

-- the message is the first at the object k
record IsFirstAt (objects : Map Object) (k : ℕ) (m : Message) : Type 0 where
  pub object : Object
  pub at : get objects k ≡ Some object
  pub queue : queue_held object.body ≡ m ∷ drop 1 (queue_held object.body)

first_at : (objects : Map Object) (k : ℕ) (m : Message) → slice_get (queue_found (get objects k)) 0 ≡ Some m → IsFirstAt objects k m
first_at objects k m is = by_object (get objects k) refl is
  where
    by_messages : (queue : List Message) → slice_get queue 0 ≡ Some m → queue ≡ m ∷ drop 1 queue
    by_messages [] read = absurd (none-some m read)
    by_messages (x ∷ xs) read = let same : x ≡ m = cc in ap (λ (y : Message). y ∷ xs) same

    by_object : (o : Option Object) → get objects k ≡ o → slice_get (queue_found o) 0 ≡ Some m → IsFirstAt objects k m
    by_object None at read = absurd (none-some m read)
    by_object (Some o) at read = record { object = o; at = at; queue = by_messages (queue_held o.body) read }

-- a message that was read has no more handles than its caller has room for
pub handles_fit : (t t2 : Handles) (r r2 : Objects) (c room places : ℕ) (x : Received) → ReadsMessage t r c room places x t2 r2
    → length x.values.items ≤ places
handles_fit t t2 r r2 c room places x reads =
    let front : IsFrontOf t.entries r.objects c places reads.end =
    subst (IsKnown t.entries r.objects c places) reads.is_end (front_known t.entries r.objects c room places) in
    let first : IsFirstAt r.objects reads.end x.message = first_at r.objects reads.end x.message reads.first in
    let has : length x.message.handles ≤ places = rw (first.at, first.queue) at front.fits in
    omega (arith, has, values_count t t2 x.message.handles x.values.items reads.inserts)

-- ---- a message less in a queue

read_seen : (os : Map Object) (k : ℕ) → map object_entry (update os k received) ≡ update (map object_entry os) k message_read
read_seen os k = update_seen object_value os k received message_read (λ o. ap (λ b. record (object_value o) { body = b }) (by_body o.body))
  where
    by_body : (b : Body) → body_value (received_body b) ≡ body_after_read (body_value b)
    by_body (body.ChannelEnd peer queue) = refl
    by_body _ = refl

same_receiving : (r : Objects) (k : ℕ) → receiving r k ≡ record r { objects = update r.objects k (requeued (drop 1)) }
same_receiving r k = ap (λ (f : Object → Object). record r { objects = update r.objects k f }) (λ i o. same o i)
  where
    by_body : (b : Body) → received_body b ≡ requeued_body (drop 1) b
    by_body (body.ChannelEnd peer queue) = refl
    by_body _ = refl

    same : (o : Object) → received o ≡ requeued (drop 1) o
    same o = ap (λ (b : Body). record o { body = b }) (by_body o.body)

module _ (os : Map Object) (k : ℕ) (m : Message) (first : IsFirstAt os k m) where
  queues_received : (j : ℕ) → queues os j ≡ queues (update os k received) j + count_by (λ (e : Entry). e.koid == j) m.handles
  queues_received j = rw (read_seen os k)
      (sum_fewer (λ x. queued_to j x.1.body) (map object_entry os) k (count_by (λ (e : Entry). e.koid == j) m.handles) (object_value first.object) message_read
      (get_seen os k ∙ rw first.at refl) (by_body first.object.body first.queue))
    where
      by_body : (b : Body) → queue_held b ≡ m ∷ drop 1 (queue_held b)
          → queued_to j (body_value b) ≡ queued_to j (body_after_read (body_value b)) + count_by (λ (e : Entry). e.koid == j) m.handles
      by_body (body.ChannelEnd peer queue) h =
          let all = ap (λ (q : List Message). sum_by (λ (x : Message). count_by (λ (e : Entry). e.koid == j) x.handles) q) h in
          omega (arith, all, sum_by-cons (λ (x : Message). count_by (λ (e : Entry). e.koid == j) x.handles) m (drop 1 queue))
      by_body _ h = absurd cc

  message_named : (named : (e : Entry) → Type 0) → All (λ (x : Message). All named x.handles) (queue_held first.object.body) → All named m.handles
  message_named named all =
      All-head (λ (x : Message). All named x.handles) m (drop 1 (queue_held first.object.body))
      (subst (λ (q : List Message). All (λ (x : Message). All named x.handles) q) first.queue all)

-- ---- a world with handles, bytes and slots more

-- the process with these bytes in its memory
abbrev stored_in : ℕ × List ℕ → ProcessValue → ProcessValue
stored_in s q = record q { cpu = with_stored s q.cpu }

-- the process with these values in its slots
abbrev kept_in : Option (ℕ × List ℕ) → ProcessValue → ProcessValue
kept_in x q = record q { cpu = with_kept x q.cpu }

keeping_is : (u : World) (p : ℕ) (x : Option (ℕ × List ℕ)) → keeping u p x ≡ on_process u p (kept_in x)
unfolding on_process
keeping_is u p None = ap (λ (ps : Map ProcessValue). record u { processes = ps }) (sym (update_itself u.processes p))
keeping_is u p (Some x) = refl

storing_is : (u : World) (p a : ℕ) (bs : List ℕ) → storing u p (a, bs) ≡ on_process u p (stored_in (a, bs))
unfolding on_process
storing_is u p a [] = ap (λ (ps : Map ProcessValue). record u { processes = ps }) (sym (update_itself u.processes p))
storing_is u p a (b ∷ bs) = refl

inserted_is : (u : World) (p : ℕ) (es : List Entry) (vs : List ℕ) → insert_all u p es vs ≡ on_process u p (process_with_all es vs)
unfolding insert_all on_process
inserted_is u p [] vs = ap (λ (ps : Map ProcessValue). record u { processes = ps }) (sym (update_itself u.processes p))
inserted_is u p (e ∷ es) [] = ap (λ (ps : Map ProcessValue). record u { processes = ps }) (sym (update_itself u.processes p))
inserted_is u p (e ∷ es) (v ∷ vs) =
    inserted_is (on_process u p (process_with v e)) p es vs
    ∙ ap (λ (ps : Map ProcessValue). record u { processes = ps }) (update_twice u.processes p (process_with v e) (process_with_all es vs))

-- ---- what makes a call one that reads

-- the call of the site reads the first message at c, if that has room in the memory and in so many places; of its handles it tells so much, and keeps so much
-- in slots
pub record IsReader (lib : Library) (w : World) (p : ℕ) (s : Site) (c address room places : ℕ) (also : List Entry → List ℕ → List ℕ)
    (kept : List ℕ → Option (ℕ × List ℕ)) : Type 0 where
  pub operand : (entries : Map Entry)
      → operands_fault entries [] (handle_operands s.request) ≡ option_or (result_err (looked_up entries c (kind.Channel ∷ []) READ)) None
  pub tests : listed lib w p s.request ≡ read_refused w p c room places
  pub wants : may_want s.request ≡ wants_memory
  pub none_taken : taken w p s ≡ w
  pub ends : ok_outcome w p s.request ≡ outcome.Answered status.Ok
  pub maker : IsMaker w p s.request (length (first_handles (queue_at w p c)))
  pub chooses : (vs : List ℕ) → may_choose w (taken w p s) p s.request vs ≡ gets_all (get w.processes p) (first_handles (queue_at w p c)) vs
  pub does : (vs : List ℕ) → with_effect lib w (taken w p s) p s.request vs
      ≡ keeping (storing (insert_all (on_object w (object_at w p c) message_read) p (first_handles (queue_at w p c)) vs) p
      (address, first_bytes (queue_at w p c))) p (kept vs)
  pub tells : (vs : List ℕ) → gives_ok w p s.request vs ≡ sizes_of (queue_at w p c) ++ also (first_handles (queue_at w p c)) vs
  pub refuses : (a : Status) → gives_refused w p s.request a ≡ (if tells_sizes a then sizes_of (queue_at w p c) else [])

-- ---- the step

-- a process of the world, before and after its call
module _ {before after : List Process} {r : Objects} {p p2 : Process} (lib : Library) (r2 : Objects) (consistent : IsConsistent before r)
    (write : IsWrite before after p p2)
    (s : Site) (c address room places : ℕ) (also : List Entry → List ℕ → List ℕ) (kept : List ℕ → Option (ℕ × List ℕ))
    (reader : IsReader lib (world_value before r) p.pid s c address room places also kept) where
  abbrev w : World
  w = world_value before r

  abbrev front_now : Result ℕ ReadFault
  front_now = front_at p.table.entries r.objects c room places

  known : (found : Result ℕ ReadFault) → front_now ≡ found → IsKnown p.table.entries r.objects c places found
  known found is = subst (IsKnown p.table.entries r.objects c places) is (front_known p.table.entries r.objects c room places)

  refused : plain_refusal lib w p.pid s.request ≡ answers (why front_now)
  unfolding has_room
  refused =
      first_looked_up lib w p.pid p.table.entries (table_is write r) s.request (why front_now)
      c (kind.Channel ∷ []) READ None (reader.operand p.table.entries) (λ st is. rw is refl)
      (λ e is at. rw (reader.tests, is, table_is write r, at, queue_there r.objects e.koid, peer_there r consistent.no_zero e.koid)
      (by_queue (length p.table.entries) room places e.koid (is_some (peer_here r.objects e.koid)) (queue_found (get r.objects e.koid))))

  -- ---- the message was read

  -- what its caller is told
  abbrev pub told_of_it : Received → Told
  told_of_it x = record {
    status = status.Ok;
    values = sizes_of (x.message ∷ []) ++ also x.message.handles x.values.items;
    stored = (address, x.message.bytes);
    kept = kept x.values.items;
  }

  module _ (message : Received) (reads : ReadsMessage p.table r c room places message p2.table r2) (told : IsTold s (told_of_it message) p p2) where
    abbrev k : ℕ
    k = reads.end

    abbrev m : Message
    m = message.message

    abbrev vs : List ℕ
    vs = message.values.items

    front : IsFrontOf p.table.entries r.objects c places k
    front = known (Ok k) reads.is_end

    first : IsFirstAt r.objects k m
    first = first_at r.objects k m reads.first

    koid_same : object_at w p.pid c ≡ k
    koid_same = rw (table_is write r, front.there) front.koid

    queue_same : queue_at w p.pid c ≡ m ∷ drop 1 (queue_held first.object.body)
    queue_same = ap (λ (j : ℕ). queue_in (body_of w j)) koid_same ∙ (queue_there r.objects k ∙ (ap queue_found first.at ∙ first.queue))

    state_same : p2.state ≡ p.state
    state_same = ap (λ (q : Process). q.state) told

    -- ---- the relation of calls

    abbrev stored : ℕ × List ℕ
    stored = (address, m.bytes)

    abbrev with_read : World
    with_read = on_object w k message_read

    abbrev middle : World
    middle = keeping (storing (insert_all with_read p.pid m.handles vs) p.pid stored) p.pid (kept vs)

    abbrev change : ProcessValue → ProcessValue
    change q = kept_in (kept vs) (stored_in stored (process_with_all m.handles vs q))

    middle_is : middle ≡ on_process (on_process (on_process with_read p.pid (process_with_all m.handles vs)) p.pid (stored_in stored)) p.pid (kept_in (kept vs))
    middle_is =
        keeping_is (storing (insert_all with_read p.pid m.handles vs) p.pid stored) p.pid (kept vs)
        ∙ ap (λ (u : World). on_process u p.pid (kept_in (kept vs)))
        (storing_is (insert_all with_read p.pid m.handles vs) p.pid address m.bytes
        ∙ ap (λ (u : World). on_process u p.pid (stored_in stored)) (inserted_is with_read p.pid m.handles vs))

    so_far : middle.processes ≡ update (map process_entry before) p.pid change
    unfolding on_process on_object
    so_far =
        ap (λ (u : World). u.processes) middle_is
        ∙ (ap (λ (ps : Map ProcessValue). update ps p.pid (kept_in (kept vs)))
        (update_twice (map process_entry before) p.pid (process_with_all m.handles vs) (stored_in stored))
        ∙ update_twice (map process_entry before) p.pid (λ q. stored_in stored (process_with_all m.handles vs q)) (kept_in (kept vs)))

    rest : (record middle { processes = map process_entry after }) ≡ world_value after r2
    unfolding on_process on_object
    rest = ap (λ (u : World). record u { processes = map process_entry after }) middle_is
        ∙ (ap (λ (os : Map ObjectValue). record w { processes = map process_entry after; objects = os }) (sym (read_seen r.objects k))
        ∙ ap (world_value after) (sym reads.objects))

    abbrev values : List ℕ
    values = length m.bytes ∷ length m.handles ∷ also m.handles vs

    is : process_value p2 ≡ record (change (process_value p)) { cpu = cpu_answered s status.Ok values (change (process_value p)).cpu }
    is =
        ap process_value told
        ∙ ap (λ (q : ProcessValue). record q { cpu = cpu_answered s status.Ok values (with_kept (kept vs) (with_stored stored q.cpu)) })
        (sym (all_given p.table p2.table m.handles vs (process_value p) reads.inserts))

    read_ends : world_value after r2
        ≡ replied (with_effect lib w (taken w p.pid s) p.pid s.request vs) p.pid s status.Ok (gives_ok w p.pid s.request vs)
    read_ends =
        replied_with write r2 s status.Ok values change middle so_far rest is
        ∙ (λ i. replied (keeping (storing (insert_all (on_object w (sym koid_same i) message_read) p.pid (first_handles (sym queue_same i)) vs) p.pid
        (address, first_bytes (sym queue_same i))) p.pid (kept vs)) p.pid s status.Ok
        (sizes_of (sym queue_same i) ++ also (first_handles (sym queue_same i)) vs))
        ∙ (λ i. replied (sym (reader.does vs) i) p.pid s status.Ok (sym (reader.tells vs) i))

    read_chosen : IsTrue (may_choose w (taken w p.pid s) p.pid s.request vs)
    read_chosen =
        rw (reader.chooses vs, queue_same, write.there) (all_chosen p.table p2.table m.handles vs (process_value p) reads.inserts)

    -- ---- the invariant

    abbrev changed : Objects
    changed = record r { objects = update r.objects k (requeued (drop 1)) }

    named_now : (e : Entry) → IsNamed r.objects e → IsNamed changed.objects e
    named_now = requeued_named (drop 1) r.objects k

    later : (queue : List Message) → AreNamed r.objects queue → AreNamed r.objects (drop 1 queue)
    later [] all = all
    later (x ∷ xs) all = All-tail (λ (y : Message). All (IsNamed r.objects) y.handles) x xs all

    queue_named : (b : Body) → AreNamed r.objects (queue_held b) → AreNamed changed.objects (queue_held (requeued_body (drop 1) b))
    queue_named (body.ChannelEnd peer queue) old = still_named r.objects changed.objects named_now (drop 1 queue) (later queue old)
    queue_named _ old = All-nil (λ (x : Message). All (IsNamed changed.objects) x.handles)

    -- the handles of the message, which are in no table yet
    abbrev moved : Map Entry
    moved = numbered 0 m.handles

    read_counts : (j : ℕ) → handles_to (world_value before changed) j + count_by (λ h. h.1.koid == j) moved
        ≡ handles_to w j + count_by (λ (h : ℕ × Entry). h.1.koid == j) []
    read_counts j =
        let less : handles_to w j ≡ handles_to (world_value before (receiving r k)) j + naming j m.handles =
        more_queued before (receiving r k) r j (naming j m.handles) (queues_received r.objects k m first j) in
        omega (arith, less, ap (λ (x : Objects). handles_to (world_value before x) j) (same_receiving r k), numbered_naming j 0 m.handles)

    sound_changed : AreSound before moved changed
    sound_changed = requeued_sound (drop 1) before r k [] moved (sound_of before r consistent)
        (λ o at. queue_named o.body (consistent.queued k o at)) read_counts

    entered_named : (v : ℕ) (e : Entry) → get p2.table.entries v ≡ Some e → IsNamed r.objects e
    entered_named =
        each_entered (IsNamed r.objects) p.table p2.table m.handles vs reads.inserts (λ v e at. consistent.named p.pid (process_value p) v e write.there at)
        (message_named r.objects k m first (IsNamed r.objects) (consistent.queued k first.object first.at))

    fits : length p.table.entries + length m.handles ≤ 1024
    fits = rw (first.at, first.queue) at front.room

    pub was_read : IsCalled lib before after r r2 p.pid s (outcome.Answered status.Ok)
    was_read = record {
      calls = (Values vs, rw (refused, reads.is_end, reader.ends) (read_chosen, refl, read_ends));
      own = λ living. own_plain write r living s.request reader.maker m.handles vs
          (sym (ap (λ (queue : List Message). length (first_handles queue)) queue_same)) reads.inserts;
      keeps = rw (reads.objects, same_receiving r k) (entered write moved changed sound_changed (requeued_kept (drop 1) before r k consistent.kept)
          (same_agrees write state_same changed)
          (tables_entered p.table p2.table m.handles vs (consistent.tables p.pid (process_value p) write.there) fits reads.inserts)
          (λ v e at. named_now e (entered_named v e at))
          (λ j. omega (
            arith,
            counts_written before after p p2 changed changed j (naming j m.handles) write refl (counts_entered j p.table p2.table m.handles vs reads.inserts),
            numbered_naming j 0 m.handles,
          )));
    }

  -- ---- no message was read

  module _ (table : p2.table ≡ p.table) (objects : r2 ≡ r) where
    told_world : (answer : Status) (values : List ℕ) → p2 ≡ record p { cpu = cpu_answered s answer values p.cpu; table = p2.table }
        → world_value after r2 ≡ replied (taken w p.pid s) p.pid s answer values
    told_world answer values told =
        same_world write r r2 s answer values table objects told ∙ ap (λ (u : World). replied u p.pid s answer values) (sym reader.none_taken)

    unread_keeps : p2.state ≡ p.state → IsConsistent after r2
    unread_keeps same = subst (IsConsistent after) (sym objects) (refusal_keeps write r consistent table same)

    unread_own : is_process w lives p.pid ≡ true → FreeBy after (left_free (own_in before r) p.pid s.request)
    unread_own living =
        own_refused write r living s.request
        (subst (λ (hs : List ℕ). p2.table ≡ without_handles p.table hs) (sym reader.maker.none) table)

    abbrev Called : ReadFault → Type 0
    Called f = IsTold s (told_unread f) p p2 → IsCalled lib before after r r2 p.pid s (outcome.Answered (told_unread f).status)

    -- with this status no size is told
    nothing_told : (a : Status) → tells_sizes a ≡ false → gives_refused w p.pid s.request a ≡ []
    nothing_told a untold = reader.refuses a ∙ rw untold refl

    wants_no_size : (a : Status) → IsTrue (wants_memory a) → tells_sizes a ≡ false
    wants_no_size status.BufferTooSmall want = absurd (false≢true want)
    wants_no_size _ want = refl

    wanting : (end : ℕ) → front_now ≡ Ok end → (a : Status) → IsTrue (wants_memory a) → Called (fault.Refused a)
    wanting end is a want told = record {
      calls = (
        Wants a,
        rw (refused, is) (
          subst (λ (f : Status → Bool). IsTrue (f a)) (sym reader.wants) want,
          refl,
          told_world a [] told ∙ ap (replied (taken w p.pid s) p.pid s a) (sym (nothing_told a (wants_no_size a want))),
        ),
      );
      own = λ living. tt;
      keeps = unread_keeps (ap (λ (q : Process). q.state) told);
    }

    sizes_same : (bytes handles : ℕ) → front_now ≡ Err (fault.TooSmall bytes handles) → sizes_of (queue_at w p.pid c) ≡ bytes ∷ handles ∷ []
    sizes_same bytes handles is =
        let small : IsTooSmall p.table.entries r.objects c bytes handles = known (Err (fault.TooSmall bytes handles)) is in
        let koid : object_at w p.pid c ≡ small.entry.koid = rw (table_is write r, small.there) refl in
        ap (λ (j : ℕ). sizes_of (queue_in (body_of w j))) koid ∙ (ap sizes_of (queue_there r.objects small.entry.koid) ∙ small.sizes)

    by_known : (f : ReadFault) → front_now ≡ Err f → Called f
    by_known (fault.TooSmall bytes handles) is told = record {
      calls = (
        Refused,
        rw (refused, is) (
          refl,
          told_world status.BufferTooSmall (bytes ∷ handles ∷ []) told
              ∙ ap (replied (taken w p.pid s) p.pid s status.BufferTooSmall)
              (sym (reader.refuses status.BufferTooSmall ∙ sizes_same bytes handles is)),
        ),
      );
      own = unread_own;
      keeps = unread_keeps (ap (λ (q : Process). q.state) told);
    }
    by_known (fault.Refused a) is told = record {
      calls = (
        Refused,
        rw (refused, is) (
          refl,
          told_world a [] told ∙ ap (replied (taken w p.pid s) p.pid s a) (sym (nothing_told a (known (Err (fault.Refused a)) is))),
        ),
      );
      own = unread_own;
      keeps = unread_keeps (ap (λ (q : Process). q.state) told);
    }

    by_front : (found : Result ℕ ReadFault) → front_now ≡ found → (f : ReadFault) → IsFaultBy r.objects found f → Called f
    by_front (Ok found) same (fault.Refused a) want = wanting found same a want
    by_front (Ok found) same (fault.TooSmall bytes handles) never = absurd never
    by_front (Err g) is f by = subst Called (sym by) (by_known g is)

    pub was_not_read : (f : ReadFault) → IsFaultBy r.objects front_now f → Called f
    was_not_read f by = by_front front_now refl f by
