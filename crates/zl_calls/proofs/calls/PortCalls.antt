-- The calls on ports, port_create, port_queue, port_poll and port_wait, each from its table and objects to a step.
use Rattle.zl_calls.proofs.Common.{Entry, IsConsistent, Library, List, None, Objects, Ok, Packet, PacketAt, Port, Process, READ, Replies, Site, Some}
use Rattle.zl_calls.proofs.Common.{TakesPacket, Values, WRITE, World, [], ap, awaited_by, body_of, drop, effect, first_values, get, gives_ok, gives_refused}
use Rattle.zl_calls.proofs.Common.{handle_operands, has_koids, has_room, insert_all, is_empty, is_full, listed, may_choose, new_handles, new_port, no_value}
use Rattle.zl_calls.proofs.Common.{none-some, object_at, on_object, one_value, operands_fault, packet_awaited, packet_taken, packet_values, packets_at}
use Rattle.zl_calls.proofs.Common.{packets_found, packets_in, plain_refusal, poll_refusal, port_at, port_create, port_poll, port_queue, port_wait, refl}
use Rattle.zl_calls.proofs.Common.{remove_all, replied, result_err, runs, same_Some, slice_get, sym, taken_handles, told_by, wants_memory, wants_nothing}
use Rattle.zl_calls.proofs.Common.{with_packet, without_front, world_value, ℕ, ⊤, ◌++◌, ◌∙◌, ◌∷◌, ◌≡◌}
use Rattle.zl_rights.specs.declared.kind.Kind.TheVariants as kind
use Rattle.zl_rights.specs.declared.status.Status.TheVariants as status
use Rattle.zl_port.specs.Packets.{user_packet}
use Rattle.zl_code.specs.declared.history.Outcome.TheVariants as outcome
use Rattle.zl_calls.specs.calls.Port.{PortCreateDoes, PortPollDoes, PortQueueDoes, PortWaitDoes, QueuesPacket, queue_refusal}
use Rattle.zl_calls.proofs.calls.Owned.{own_plain}
use Rattle.zl_calls.proofs.calls.Answered.{IsWrite, asking, table_is}
use Rattle.zl_calls.proofs.calls.DoneCalls.{IsDoneBy, IsCalled, answered_done}
use Rattle.zl_calls.proofs.calls.MakeCalls.{made_done, room_refused}
use Rattle.zl_calls.proofs.calls.Refused.{answers, is_found, first_looked_up, one_test}
use Rattle.zl_calls.proofs.calls.Repacked.{packets_there, port_ends, port_kept}

-- a process of the world, before and after its call
module _ {before after : List Process} {r : Objects} {p p2 : Process} (lib : Library) (r2 : Objects) (consistent : IsConsistent before r)
    (write : IsWrite before after p p2) where
  abbrev w : World
  w = world_value before r

  -- ---- port_create

  module _ (base : Site) where
    abbrev create_site : Site
    create_site = asking port_create base

    pub port_create_done : IsDoneBy lib before after r r2 p p2 create_site (told_by one_value) PortCreateDoes
    unfolding plain_refusal handle_operands operands_fault listed has_room has_koids taken_handles remove_all gives_refused may_choose
        new_handles effect insert_all gives_ok
    port_create_done = made_done lib r2 consistent write create_site new_port (λ not. not runs) refl refl
        (rw (table_is write r) (room_refused p.table.entries r.next_koid)) refl
        (record { none = refl; chosen = refl; made = refl; own = refl }) (λ answer. refl)
        (λ made may ends. (rw (write.there, may) refl, refl, ends))

  -- ---- port_queue

  module _ (port key value : ℕ) (base : Site) where
    abbrev queue_site : Site
    queue_site = asking (port_queue port key value) base

    refused_queue : plain_refusal lib w p.pid queue_site.request ≡ answers (queue_refusal p.table.entries r.objects port)
    unfolding handle_operands operands_fault listed
    refused_queue =
        first_looked_up lib w p.pid p.table.entries (table_is write r) queue_site.request
        (queue_refusal p.table.entries r.objects port) port (kind.Port ∷ []) WRITE None refl (λ s is. rw is refl)
        (λ e is at. rw (is, table_is write r, at, packets_there r.objects e.koid) (one_test (is_full (packets_found (get r.objects e.koid))) status.ShouldWait))

    queue_called : (done : ⊤) → QueuesPacket p.table r port key value p2.table r2 → Replies queue_site status.Ok [] p p2
        → IsCalled lib before after r r2 p.pid queue_site (outcome.Answered status.Ok)
    unfolding may_choose effect gives_ok new_handles insert_all remove_all taken_handles handle_operands
    queue_called done queued replies =
        let there : get p.table.entries port ≡ Some queued.port = is_found (get p.table.entries port) (kind.Port ∷ []) WRITE queued.port queued.is_port in
        let more : (x : Port) → (with_packet x (user_packet key value)).packets ≡ x.packets ++ user_packet key value ∷ [] = λ x. refl in
        record {
          calls = (
            Values [],
            rw (refused_queue, queued.unrefused) (
              rw write.there refl,
              refl,
              port_ends before after r r2 p p2 consistent write queued.port.koid (λ x. with_packet x (user_packet key value))
                  (λ xs. xs ++ user_packet key value ∷ [])
                  more queued.objects queued.table queue_site [] replies ∙ rw (table_is write r, there) refl,
            ),
          );
          own = λ living. own_plain write r living queue_site.request
              (record { none = refl; chosen = refl; made = refl; own = refl }) [] [] refl queued.table;
          keeps = port_kept before after r r2 p p2 consistent write queued.port.koid (λ x. with_packet x (user_packet key value))
              (λ xs. xs ++ user_packet key value ∷ []) more queued.objects queued.table queue_site [] replies;
        }

    pub port_queue_done : IsDoneBy lib before after r r2 p p2 queue_site (told_by no_value) (PortQueueDoes port key value)
    unfolding taken_handles handle_operands remove_all gives_refused
    port_queue_done =
        answered_done lib r2 consistent write queue_site no_value (PortQueueDoes port key value) (λ _. QueuesPacket p.table r port key value) wants_memory
        (queue_refusal p.table.entries r.objects port) (λ answer acts. acts) refused_queue refl refl (λ answer. refl) queue_called

  -- ---- the first packet leaves the port

  module _ (port : ℕ) (packet : Packet) (takes_one : TakesPacket p.table r port packet p2.table r2) where
    abbrev k : ℕ
    k = takes_one.port.koid

    koid_same : object_at w p.pid port ≡ k
    koid_same = rw (table_is write r, is_found (get p.table.entries port) (kind.Port ∷ []) READ takes_one.port takes_one.is_port) refl

    packets_same : packets_at w p.pid port ≡ packets_found (get r.objects k)
    packets_same = ap (λ (j : ℕ). packets_in (body_of w j)) koid_same ∙ packets_there r.objects k

    first_told : first_values (packets_at w p.pid port) ≡ packet_values packet
    first_told = ap first_values packets_same ∙ by_packets (packets_found (get r.objects k)) takes_one.first
      where
        by_packets : (xs : List Packet) → slice_get xs 0 ≡ Some packet → first_values xs ≡ packet_values packet
        by_packets [] is = absurd (none-some packet is)
        by_packets (x ∷ xs) is = ap packet_values (same_Some x packet is)

    -- there is nothing to wait for
    none_awaited : packet_awaited (object_at w p.pid port) (packets_at w p.pid port) ≡ None
    none_awaited = ap (packet_awaited (object_at w p.pid port)) packets_same ∙ by_packets (packets_found (get r.objects k)) takes_one.first
      where
        by_packets : (xs : List Packet) → slice_get xs 0 ≡ Some packet → packet_awaited (object_at w p.pid port) xs ≡ None
        by_packets [] is = absurd (none-some packet is)
        by_packets (x ∷ xs) is = refl

    module _ (s : Site) (replies : Replies s status.Ok (packet_values packet) p p2) where
      packet_ends : world_value after r2
          ≡ replied (on_object w (object_at w p.pid port) packet_taken) p.pid s status.Ok (first_values (packets_at w p.pid port))
      packet_ends =
          rw (first_told, koid_same) (port_ends before after r r2 p p2 consistent write k without_front (drop 1) (λ x. refl) takes_one.objects takes_one.table s
          (packet_values packet) replies)

      packet_kept : IsConsistent after r2
      packet_kept =
          port_kept before after r r2 p p2 consistent write k without_front (drop 1) (λ x. refl) takes_one.objects takes_one.table s
          (packet_values packet) replies

  -- ---- port_poll

  module _ (port : ℕ) (base : Site) where
    abbrev poll_site : Site
    poll_site = asking (port_poll port) base

    refused_poll : plain_refusal lib w p.pid poll_site.request ≡ answers (poll_refusal p.table.entries r.objects port)
    unfolding handle_operands operands_fault listed
    refused_poll =
        first_looked_up lib w p.pid p.table.entries (table_is write r) poll_site.request (poll_refusal p.table.entries r.objects port)
        port (kind.Port ∷ []) READ None refl (λ s is. rw is refl)
        (λ e is at. rw (is, table_is write r, at, packets_there r.objects e.koid) (one_test (is_empty (packets_found (get r.objects e.koid))) status.TimedOut))

    poll_called : (packet : Packet) → TakesPacket p.table r port packet p2.table r2 → Replies poll_site status.Ok (packet_values packet) p p2
        → IsCalled lib before after r r2 p.pid poll_site (outcome.Answered status.Ok)
    unfolding may_choose effect gives_ok new_handles insert_all remove_all taken_handles handle_operands
    poll_called packet takes_one replies = record {
      calls = (Values [], rw (refused_poll, takes_one.unrefused) (rw write.there refl, refl, packet_ends port packet takes_one poll_site replies));
      own = λ living. own_plain write r living poll_site.request
          (record { none = refl; chosen = refl; made = refl; own = refl }) [] [] refl takes_one.table;
      keeps = packet_kept port packet takes_one poll_site replies;
    }

    pub port_poll_done : IsDoneBy lib before after r r2 p p2 poll_site (told_by packet_values) (PortPollDoes port)
    unfolding taken_handles handle_operands remove_all gives_refused
    port_poll_done =
        answered_done lib r2 consistent write poll_site packet_values (PortPollDoes port) (TakesPacket p.table r port) wants_nothing
        (poll_refusal p.table.entries r.objects port) (λ answer acts. acts) refused_poll refl refl (λ answer. refl) poll_called

  -- ---- port_wait

  module _ (port : ℕ) (base : Site) where
    abbrev wait_site : Site
    wait_site = asking (port_wait port) base

    refused_wait : plain_refusal lib w p.pid wait_site.request ≡ answers (result_err (port_at p.table.entries port READ))
    unfolding handle_operands operands_fault listed
    refused_wait =
        first_looked_up lib w p.pid p.table.entries (table_is write r) wait_site.request (result_err (port_at p.table.entries port READ))
        port (kind.Port ∷ []) READ None refl (λ s is. rw is refl) (λ e is at. rw is refl)

    wait_called : (packet : Packet) → TakesPacket p.table r port packet p2.table r2 → Replies wait_site status.Ok (packet_values packet) p p2
        → IsCalled lib before after r r2 p.pid wait_site (outcome.Answered status.Ok)
    unfolding may_choose effect gives_ok new_handles insert_all remove_all taken_handles handle_operands
    wait_called packet takes_one replies = record {
      calls = (
        Values [],
        rw (refused_wait, takes_one.is_port, none_awaited port packet takes_one)
            (rw write.there refl, refl, packet_ends port packet takes_one wait_site replies),
      );
      own = λ living. own_plain write r living wait_site.request
          (record { none = refl; chosen = refl; made = refl; own = refl }) [] [] refl takes_one.table;
      keeps = packet_kept port packet takes_one wait_site replies;
    }

    pub port_wait_done : IsDoneBy lib before after r r2 p p2 wait_site (told_by packet_values) (PortWaitDoes port)
    unfolding taken_handles handle_operands remove_all gives_refused
    port_wait_done =
        answered_done lib r2 consistent write wait_site packet_values (PortWaitDoes port) (TakesPacket p.table r port) wants_nothing
        (result_err (port_at p.table.entries port READ)) (λ answer acts. acts) refused_wait refl refl (λ answer. refl) wait_called

    -- it isn't refused, where the port is there; and where that has no packet, it waits for one
    module _ (x : Entry) (is_port : port_at p.table.entries port READ ≡ Ok x) where
      pub port_passes : plain_refusal lib w p.pid wait_site.request ≡ None
      port_passes = refused_wait ∙ rw is_port refl

      pub port_waits : slice_get (packets_found (get r.objects x.koid)) 0 ≡ None → awaited_by w p.pid (port_wait port) ≡ Some (PacketAt x.koid)
      port_waits none = rw (named, packets_there r.objects x.koid) (by_packets (packets_found (get r.objects x.koid)) none)
        where
          named : object_at w p.pid port ≡ x.koid
          named = rw (table_is write r, is_found (get p.table.entries port) (kind.Port ∷ []) READ x is_port) refl

          by_packets : (xs : List Packet) → slice_get xs 0 ≡ None → packet_awaited x.koid xs ≡ Some (PacketAt x.koid)
          by_packets [] is = refl
          by_packets (y ∷ ys) is = absurd (none-some y (sym is))
