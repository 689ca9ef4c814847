-- The call event_create, and those that change signals, signal and signal_peer, each from its table and objects to a step.
use Rattle.zl_calls.proofs.Common.{Body, Entry, IsConsistent, IsNamed, Library, List, Map, None, Object, Objects, Process, Replies, SIGNAL, SIGNAL_PEER, Site}
use Rattle.zl_calls.proofs.Common.{Some, Values, World, [], ap, bits, body_in, body_of, body_value, changing, effect, event_create, get, get_seen, gives_ok}
use Rattle.zl_calls.proofs.Common.{gives_refused, handle_operands, has_koids, has_room, insert_all, is_some, kind_of, listed, map, may_choose, new_handles}
use Rattle.zl_calls.proofs.Common.{no_value, not, object_changed, object_entry, on_object, one_value, operands_fault, peer_at, peer_here, plain_refusal}
use Rattle.zl_calls.proofs.Common.{process_value, raised_changed, refl, remove_all, replied, runs, settable_at, settable_of, signal, signal_peer, sym}
use Rattle.zl_calls.proofs.Common.{taken_handles, told_by, wants_nothing, within, world_value, ℕ, ⊤, ◌∙◌, ◌∷◌, ◌≡◌}
use Rattle.zl_rights.specs.declared.kind.Kind.TheVariants as kind
use Rattle.zl_rights.specs.declared.status.Status.TheVariants as status
use Rattle.zl_code.specs.declared.history.Outcome.TheVariants as outcome
use Rattle.zl_objects.specs.declared.object.Body.TheVariants as body
use Rattle.zl_calls.specs.calls.Event.{EventCreateDoes, SignalsObject, SignalDoes, signal_refusal, SignalsPeer, SignalPeerDoes}
use Rattle.zl_calls.specs.calls.Event.{peer_signal_refusal, may_change_at}
use Rattle.zl_calls.proofs.calls.Owned.{own_plain}
use Rattle.zl_calls.proofs.calls.Answered.{IsWrite, asking, replied_changed, table_is}
use Rattle.zl_calls.proofs.calls.DoneCalls.{IsDoneBy, IsCalled, answered_done}
use Rattle.zl_calls.proofs.calls.MakeCalls.{made_done, room_refused}
use Rattle.zl_calls.proofs.calls.Refused.{answers, any_looked_up, first_looked_up, is_found, two_tests}
use Rattle.zl_calls.proofs.calls.WriteCalls.{peer_is, peer_there}
use Rattle.zl_calls.proofs.processes.Written.{refusal_keeps}
use Rattle.zl_calls.proofs.objects.Rebodied.{alike_itself, quiet_consistent}

-- what may be changed at the object follows from the kind of the handle
settable_named : (os : Map Object) (e : Entry) → IsNamed os e → settable_of (body_in (get (map object_entry os) e.koid)) ≡ settable_at e.kind
settable_named os e named = rw (get_seen os e.koid, named.there, named.kind) (by_body named.object.body)
  where
    by_body : (b : Body) → settable_of (Some (body_value b)) ≡ settable_at (kind_of (body_value b))
    by_body (body.Job own) = refl
    by_body _ = refl

-- a process of the world, before and after its call
module _ {before after : List Process} {r : Objects} {p p2 : Process} (lib : Library) (r2 : Objects) (consistent : IsConsistent before r)
    (write : IsWrite before after p p2) where
  abbrev w : World
  w = world_value before r

  -- ---- event_create

  module _ (base : Site) where
    abbrev create_site : Site
    create_site = asking event_create base

    pub event_done : IsDoneBy lib before after r r2 p p2 create_site (told_by one_value) EventCreateDoes
    unfolding plain_refusal handle_operands operands_fault listed has_room has_koids taken_handles remove_all gives_refused may_choose
        new_handles effect insert_all gives_ok
    event_done = made_done lib r2 consistent write create_site body.Event (λ not. not runs) refl refl
        (rw (table_is write r) (room_refused p.table.entries r.next_koid)) refl
        (record { none = refl; chosen = refl; made = refl; own = refl }) (λ answer. refl)
        (λ made may ends. (rw (write.there, may) refl, refl, ends))

  -- ---- the signals of the object k change, and nothing else is told

  module _ (k clear set : ℕ) (s : Site) (table : p2.table ≡ p.table) (objects : r2 ≡ changing r k clear set) (replies : Replies s status.Ok [] p p2) where
    abbrev change : Object → Object
    change = raised_changed clear set

    signal_ends : world_value after r2 ≡ replied (on_object w k (object_changed clear set)) p.pid s status.Ok []
    signal_ends = replied_changed write r r2 k change (object_changed clear set) (λ o. refl) objects table s [] replies

    signal_keeps : IsConsistent after r2
    signal_keeps = rw objects (refusal_keeps write (changing r k clear set)
        (quiet_consistent change (λ o. alike_itself o.body) (λ o. refl) before r k (λ o. refl) consistent) table (ap (λ (q : Process). q.state) replies))

  -- what may be changed at the object of a handle of the caller
  settable_here : (h : ℕ) (e : Entry) → get p.table.entries h ≡ Some e → settable_of (body_of w e.koid) ≡ settable_at e.kind
  settable_here h e at = settable_named r.objects e (consistent.named p.pid (process_value p) h e write.there at)

  -- ---- signal and signal_peer

  module _ (h clear set : ℕ) (base : Site) where
    abbrev signal_site : Site
    signal_site = asking (signal h clear set) base

    refused_signal : plain_refusal lib w p.pid signal_site.request ≡ answers (signal_refusal p.table.entries h clear set)
    unfolding handle_operands operands_fault listed
    refused_signal =
        any_looked_up lib w p.pid p.table.entries (table_is write r) signal_site.request (signal_refusal p.table.entries h clear set)
        h SIGNAL refl (λ is. rw is refl) (λ e at. rw (table_is write r, at, settable_here h e at)
        (two_tests (not (within SIGNAL (bits e.rights))) (not (may_change_at e.kind clear set)) status.AccessDenied status.InvalidArgs))

    signal_called : (done : ⊤) → SignalsObject p.table r h clear set p2.table r2 → Replies signal_site status.Ok [] p p2
        → IsCalled lib before after r r2 p.pid signal_site (outcome.Answered status.Ok)
    unfolding may_choose effect gives_ok new_handles insert_all remove_all taken_handles handle_operands
    signal_called done signals replies = record {
      calls = (
        Values [],
        rw (refused_signal, signals.unrefused) (
          rw write.there refl,
          refl,
          signal_ends signals.original.koid clear set signal_site signals.table signals.objects replies
              ∙ rw (table_is write r, signals.was) refl,
        ),
      );
      own = λ living. own_plain write r living signal_site.request
          (record { none = refl; chosen = refl; made = refl; own = refl }) [] [] refl signals.table;
      keeps = signal_keeps signals.original.koid clear set signal_site signals.table signals.objects replies;
    }

    pub signal_done : IsDoneBy lib before after r r2 p p2 signal_site (told_by no_value) (SignalDoes h clear set)
    unfolding taken_handles handle_operands remove_all gives_refused
    signal_done =
        answered_done lib r2 consistent write signal_site no_value (SignalDoes h clear set) (λ _. SignalsObject p.table r h clear set) wants_nothing
        (signal_refusal p.table.entries h clear set) (λ answer acts. acts) refused_signal refl refl (λ answer. refl) signal_called

    abbrev peer_site : Site
    peer_site = asking (signal_peer h clear set) base

    refused_peer : plain_refusal lib w p.pid peer_site.request ≡ answers (peer_signal_refusal p.table.entries r.objects h clear set)
    unfolding handle_operands operands_fault listed
    refused_peer =
        first_looked_up lib w p.pid p.table.entries (table_is write r) peer_site.request
        (peer_signal_refusal p.table.entries r.objects h clear set) h (kind.Channel ∷ kind.Eventpair ∷ []) SIGNAL_PEER None refl (λ s is. rw is refl)
        (λ e is at. rw (is, table_is write r, at, settable_here h e at, peer_there r consistent.no_zero e.koid)
        (two_tests (not (may_change_at e.kind clear set)) (not (is_some (peer_here r.objects e.koid))) status.InvalidArgs status.PeerClosed))

    peer_same : (signals : SignalsPeer p.table r h clear set p2.table r2) → peer_at w p.pid h ≡ signals.peer
    peer_same signals =
        rw (table_is write r, is_found (get p.table.entries h) (kind.Channel ∷ kind.Eventpair ∷ []) SIGNAL_PEER signals.end signals.is_end)
        (peer_is r consistent.no_zero signals.end.koid signals.peer signals.is_peer)

    peer_called : (done : ⊤) → SignalsPeer p.table r h clear set p2.table r2 → Replies peer_site status.Ok [] p p2
        → IsCalled lib before after r r2 p.pid peer_site (outcome.Answered status.Ok)
    unfolding may_choose effect gives_ok new_handles insert_all remove_all taken_handles handle_operands
    peer_called done signals replies = record {
      calls = (
        Values [],
        rw (refused_peer, signals.unrefused) (
          rw write.there refl,
          refl,
          signal_ends signals.peer clear set peer_site signals.table signals.objects replies
              ∙ ap (λ (k : ℕ). replied (on_object w k (object_changed clear set)) p.pid peer_site status.Ok []) (sym (peer_same signals)),
        ),
      );
      own = λ living. own_plain write r living peer_site.request
          (record { none = refl; chosen = refl; made = refl; own = refl }) [] [] refl signals.table;
      keeps = signal_keeps signals.peer clear set peer_site signals.table signals.objects replies;
    }

    pub peer_done : IsDoneBy lib before after r r2 p p2 peer_site (told_by no_value) (SignalPeerDoes h clear set)
    unfolding taken_handles handle_operands remove_all gives_refused
    peer_done =
        answered_done lib r2 consistent write peer_site no_value (SignalPeerDoes h clear set) (λ _. SignalsPeer p.table r h clear set) wants_nothing
        (peer_signal_refusal p.table.entries r.objects h clear set) (λ answer acts. acts) refused_peer refl refl (λ answer. refl) peer_called
