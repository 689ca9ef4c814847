-- The call wait_async, from its table and objects to a step beside the registered waits.
use Rattle.zl_calls.proofs.Common.{AtCall, CallName, IsAnswered, IsConsistent, Library, List, Objects, Outcome, Process, Ready, RegistersWait, Replies, Site}
use Rattle.zl_calls.proofs.Common.{Some, Values, WAIT, WRITE, WaitAsyncDoes, World, [], any, ap, async_refusal, effect, get, gives_ok, gives_refused}
use Rattle.zl_calls.proofs.Common.{handle_operands, insert_all, is_mask, listed, may_choose, may_register_here, new_handles, next_for, no_value, not}
use Rattle.zl_calls.proofs.Common.{operands_fault, plain_refusal, process_value, refl, remove_all, replied, state_value, subst, sym, taken_handles, told_by}
use Rattle.zl_calls.proofs.Common.{wait_async, wait_for, wait_of, wait_value, wants_memory, watching, world_blocked, world_value, ℕ, ◌++◌, ◌+◌, ◌∙◌, ◌∷◌, ◌≡◌}
use Rattle.zl_rights.specs.World.{Wait as WaitValue}
use Rattle.zl_rights.specs.declared.kind.Kind.TheVariants as kind
use Rattle.zl_rights.specs.declared.status.Status.TheVariants as status
use Rattle.zl_code.specs.declared.history.Outcome.TheVariants as outcome
use Rattle.zl_objects.specs.declared.wait.Wait.{Wait}
use Rattle.zl_calls.proofs.calls.AmongWaits.{answered_among, ends_among}
use Rattle.zl_calls.proofs.calls.Owned.{own_plain}
use Rattle.zl_calls.proofs.calls.Answered.{IsWrite, asking, same_world, table_is}
use Rattle.zl_calls.proofs.objects.SameButWaits.{beside_consistent, beside_world, watching_beside}
use Rattle.zl_calls.proofs.calls.DoneCalls.{IsCalledAmong}
use Rattle.zl_calls.proofs.calls.Refused.{answers, is_found, both_looked_up, two_tests}
use Rattle.zl_calls.proofs.processes.Written.{refusal_keeps}

-- a process of the world, before and after its call
module _ {before after : List Process} {r : Objects} {p p2 : Process} (lib : Library) (r2 : Objects) (consistent : IsConsistent before r)
    (write : IsWrite before after p p2) where
  abbrev among : List ℕ → World
  among blocked = world_blocked before r blocked

  module _ (h port key mask : ℕ) (base : Site) where
    abbrev async_site : Site
    async_site = asking (wait_async h port key mask) base

    -- ---- the answer

    async_refused : (blocked : List ℕ) → plain_refusal lib (among blocked) p.pid (wait_async h port key mask)
        ≡ answers (async_refusal p.table.entries r h port mask)
    unfolding handle_operands operands_fault listed
    async_refused blocked =
        both_looked_up lib (among blocked) p.pid p.table.entries (table_is write r) async_site.request
        (async_refusal p.table.entries r h port mask) h port any (kind.Port ∷ []) WAIT WRITE refl (λ s is. rw is refl) (λ e s is fails. rw (is, fails) refl)
        (λ e f is are at also. rw (is, are) (two_tests (not (is_mask mask)) (not (may_register_here r)) status.InvalidArgs status.NoResources))

    -- ---- the relation of calls

    module _ (registers : RegistersWait p.pid p.table r h port key mask p2.table r2) (replies : Replies async_site status.Ok [] p p2) where
      abbrev wait : Wait
      wait = wait_for p.pid h key mask registers.watched registers.receiver

      same_wait : (blocked : List ℕ) → wait_of (among blocked) p.pid h port key mask ≡ wait_value wait
      same_wait blocked =
          let there : get p.table.entries h ≡ Some registers.watched = is_found (get p.table.entries h) [] WAIT registers.watched registers.is_watched in
          let receives : get p.table.entries port ≡ Some registers.receiver =
          is_found (get p.table.entries port) (kind.Port ∷ []) WRITE registers.receiver registers.is_receiver in
          rw (table_is write r, there, receives) refl

      answered_world : world_value after r2 ≡ replied (world_value before r) p.pid async_site status.Ok []
      answered_world =
          ap (world_value after) registers.objects ∙ (beside_world after r (watching r wait) (watching_beside r wait)
          ∙ same_world write r r async_site status.Ok [] registers.table refl replies)

      async_ends : (blocked : List ℕ) → world_blocked after r2 blocked
          ≡ replied (record (among blocked) { waits = r.waits ++ (wait_of (among blocked) p.pid h port key mask ∷ []); waits_made = r.waits_made + 1 }) p.pid
          async_site status.Ok []
      async_ends blocked =
          ends_among lib r2 consistent write async_site blocked (world_value before r)
          (r.waits ++ (wait_of (among blocked) p.pid h port key mask ∷ [])) (r.waits_made + 1) status.Ok [] answered_world
          (ap (λ (x : Objects). x.waits) registers.objects ∙ ap (λ (x : WaitValue). r.waits ++ (x ∷ [])) (sym (same_wait blocked)))
          (ap (λ (x : Objects). x.waits_made) registers.objects)

      async_done : IsCalledAmong lib before after r r2 p.pid async_site (outcome.Answered status.Ok)
      unfolding may_choose effect gives_ok new_handles insert_all remove_all taken_handles handle_operands
      async_done = record {
        calls = λ blocked. (Values [], rw (async_refused blocked, registers.unrefused) (rw write.there refl, refl, async_ends blocked));
        own = λ living blocked. own_plain write r living async_site.request
            (record { none = refl; chosen = refl; made = refl; own = refl }) [] [] refl registers.table;
        keeps = subst (IsConsistent after) (sym registers.objects) (beside_consistent after r (watching r wait) (watching_beside r wait)
            (refusal_keeps write r consistent registers.table (ap (λ (q : Process). q.state) replies)));
      }

    -- ---- the step

    pub async_called : state_value p.state ≡ Ready → (call : CallName) → next_for lib (process_value p) ≡ AtCall call async_site → (o : Outcome)
        → IsAnswered (told_by no_value) (WaitAsyncDoes p.pid h port key mask) async_site p r o p2 r2 → IsCalledAmong lib before after r r2 p.pid async_site o
    unfolding taken_handles handle_operands remove_all gives_refused
    async_called ready call next o acts =
        answered_among lib r2 consistent write async_site no_value (λ _. RegistersWait p.pid p.table r h port key mask) wants_memory
        (async_refusal p.table.entries r h port mask)
        async_refused (λ blocked. refl) refl (λ blocked answer. refl) (λ done registers replies. async_done registers replies) o acts.answer acts.acts
        acts.replied acts.ends
