-- The call port_cancel, from its table and objects to a step beside the registered waits.
use Rattle.zl_calls.proofs.Common.{AtCall, CallName, Cancels, IsAnswered, IsConsistent, Library, List, Objects, Outcome, Packet, Port, PortCancelDoes, Process}
use Rattle.zl_calls.proofs.Common.{Ready, Replies, Site, Source, Values, WRITE, World, [], any, cancel_refusal, changing_port, effect, filter, get, gives_ok}
use Rattle.zl_calls.proofs.Common.{gives_refused, handle_operands, insert_all, is_from, is_keyed, list_any, listed, may_choose, new_handles, next_for, no_value}
use Rattle.zl_calls.proofs.Common.{not, object_at, on_object, operands_fault, packets_cancelled, packets_found, plain_refusal, port_cancel, process_value, refl}
use Rattle.zl_calls.proofs.Common.{remove_all, replied, source_at, source_of, state_value, taken_handles, told_by, wants_nothing, without_keyed}
use Rattle.zl_calls.proofs.Common.{without_packets, world_blocked, world_value, ℕ, ◌||◌, ◌∙◌, ◌∷◌, ◌≡◌}
use Rattle.zl_rights.specs.declared.kind.Kind.TheVariants as kind
use Rattle.zl_rights.specs.declared.status.Status.TheVariants as status
use Rattle.zl_code.specs.declared.history.Outcome.TheVariants as outcome
use Rattle.zl_calls.proofs.calls.AmongWaits.{answered_among, ends_among}
use Rattle.zl_calls.proofs.calls.Owned.{own_plain}
use Rattle.zl_calls.proofs.calls.Answered.{IsWrite, asking, table_is}
use Rattle.zl_calls.proofs.objects.SameButWaits.{beside_consistent, beside_world}
use Rattle.zl_calls.proofs.calls.DoneCalls.{IsCalledAmong}
use Rattle.zl_calls.proofs.calls.Refused.{answers, is_found, both_looked_up, one_test}
use Rattle.zl_calls.proofs.calls.Repacked.{packets_there, port_ends, port_kept}

-- a process of the world, before and after its call
module _ {before after : List Process} {r : Objects} {p p2 : Process} (lib : Library) (r2 : Objects) (consistent : IsConsistent before r)
    (write : IsWrite before after p p2) where
  abbrev among : List ℕ → World
  among blocked = world_blocked before r blocked

  module _ (port source key : ℕ) (base : Site) where
    abbrev cancel_site : Site
    cancel_site = asking (port_cancel port source key) base

    -- ---- the answer

    cancel_refused : (blocked : List ℕ)
        → plain_refusal lib (among blocked) p.pid (port_cancel port source key) ≡ answers (cancel_refusal p.table.entries r p.pid port source key)
    unfolding handle_operands operands_fault listed
    cancel_refused blocked =
        both_looked_up lib (among blocked) p.pid p.table.entries (table_is write r) cancel_site.request
        (cancel_refusal p.table.entries r p.pid port source key) port source (kind.Port ∷ []) any WRITE 0 refl (λ s is. rw is refl)
        (λ e s is fails. rw (is, fails) refl)
        (λ e f is are at also. rw (is, are, table_is write r, at, also, packets_there r.objects e.koid)
        (one_test (not (list_any (is_keyed p.pid source e.koid key) r.waits
        || list_any (is_from (source_of p.pid source f) key) (packets_found (get r.objects e.koid)))) status.NotFound))

    -- ---- the relation of calls

    module _ (cancels : Cancels p.pid p.table r port source key p2.table r2) (replies : Replies cancel_site status.Ok [] p p2) where
      abbrev k : ℕ
      k = cancels.receiver.koid

      abbrev from : Source
      from = source_of p.pid source cancels.named

      -- the packets that stay
      abbrev left : List Packet → List Packet
      left = filter (λ x. not (is_from from key x))

      abbrev without_them : Port → Port
      without_them x = without_packets x (is_from from key)

      -- the objects without the packets, but with the waits
      abbrev emptied : Objects
      emptied = changing_port r k without_them

      koid_same : (blocked : List ℕ) → object_at (among blocked) p.pid port ≡ k
      koid_same blocked = rw (table_is write r, is_found (get p.table.entries port) (kind.Port ∷ []) WRITE cancels.receiver cancels.is_receiver) refl

      source_same : (blocked : List ℕ) → source_at (among blocked) p.pid source ≡ from
      source_same blocked = rw (table_is write r, is_found (get p.table.entries source) [] 0 cancels.named cancels.is_named) refl

      cancel_ends : (blocked : List ℕ) → world_blocked after r2 blocked
          ≡ replied (on_object (without_keyed (among blocked) p.pid source (object_at (among blocked) p.pid port) key) (object_at (among blocked) p.pid port)
          (packets_cancelled (source_at (among blocked) p.pid source) key)) p.pid cancel_site status.Ok []
      unfolding on_object
      cancel_ends blocked = rw (koid_same blocked, source_same blocked)
          (ends_among lib r2 consistent write cancel_site blocked (on_object (world_value before r) k (packets_cancelled from key))
          (filter (λ x. not (is_keyed p.pid source k key x)) r.waits) r.waits_made status.Ok []
          (beside_world after emptied r2 cancels.ends.beside
          ∙ port_ends before after r emptied p p2 consistent write k without_them left (λ x. refl) refl cancels.table cancel_site [] replies)
          cancels.ends.waits cancels.ends.made)

      cancel_done : IsCalledAmong lib before after r r2 p.pid cancel_site (outcome.Answered status.Ok)
      unfolding may_choose effect gives_ok new_handles insert_all remove_all taken_handles handle_operands
      cancel_done = record {
        calls = λ blocked. (Values [], rw (cancel_refused blocked, cancels.unrefused) (rw write.there refl, refl, cancel_ends blocked));
        own = λ living blocked. own_plain write r living cancel_site.request
            (record { none = refl; chosen = refl; made = refl; own = refl }) [] [] refl cancels.table;
        keeps = beside_consistent after emptied r2 cancels.ends.beside
            (port_kept before after r emptied p p2 consistent write k without_them left (λ x. refl) refl cancels.table cancel_site [] replies);
      }

    -- ---- the step

    pub cancel_called : state_value p.state ≡ Ready → (call : CallName) → next_for lib (process_value p) ≡ AtCall call cancel_site → (o : Outcome)
        → IsAnswered (told_by no_value) (PortCancelDoes p.pid port source key) cancel_site p r o p2 r2 → IsCalledAmong lib before after r r2 p.pid cancel_site o
    unfolding taken_handles handle_operands remove_all gives_refused
    cancel_called ready call next o acts =
        answered_among lib r2 consistent write cancel_site no_value (λ _. Cancels p.pid p.table r port source key) wants_nothing
        (cancel_refusal p.table.entries r p.pid port source key)
        cancel_refused (λ blocked. refl) refl (λ blocked answer. refl) (λ done cancels replies. cancel_done cancels replies) o acts.answer acts.acts
        acts.replied acts.ends
