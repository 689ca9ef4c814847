-- A call that the policy of its process's job ends: it is a step up to where processes wake, and the invariant holds afterwards.
use Rattle.zl_calls.proofs.Common.{ActsAndSettles, AreBlocked, AtCall, BY_POLICY, CallName, Calls, EndsBy, Exits, FreeBy, IsActed, IsConsistent, IsDenied}
use Rattle.zl_calls.proofs.Common.{IsOwnDone, IsSound, KeepSleepers, Library, List, Objects, Outcome, Policed, Process, Ready, Site, Some, Verdict, World, []}
use Rattle.zl_calls.proofs.Common.{ap, ended, false, filter, is_blocked, is_blocking, is_left_at_port, is_process, is_ready, left_free, next_for, not}
use Rattle.zl_calls.proofs.Common.{own_beside, process_value, refl, refusal, replied, replied_among, settles_waiting, state_value, subst, sym, verdict_on}
use Rattle.zl_calls.proofs.Common.{with_waiters, without_handles, world_blocked, world_left, world_value, ℕ, ◌==◌, ◌∙◌, ◌≡◌}
use Rattle.zl_rights.specs.declared.status.Status.TheVariants as status
use Rattle.zl_code.proofs.Waiters.{ended_among}
use Rattle.zl_code.specs.declared.history.TraceItem.TheVariants as item
use Rattle.zl_calls.specs.declared.policy.Verdict.TheVariants as verdict
use Rattle.zl_calls.proofs.calls.Answered.{IsWrite, same_world}
use Rattle.zl_calls.proofs.waking.BlockedLists.{none_filtered}
use Rattle.zl_calls.proofs.policy.Denials.{denied_calls, denied_object, killed_calls, making_takes_none}
use Rattle.zl_calls.proofs.processes.Departed.{left_all, settled_world}
use Rattle.zl_calls.proofs.waits.EndedWaits.{over_none}
use Rattle.zl_calls.proofs.waits.LeftWaits.{left_by, lists_left}
use Rattle.zl_calls.proofs.policy.Freedom.{is_seen}
use Rattle.zl_calls.proofs.policy.Policies.{ending, policed}
use Rattle.zl_calls.proofs.calls.ProcessCalls.{ended_is, ends_keeps, over_free, settles}
use Rattle.zl_calls.proofs.calls.Owned.{own_in, own_refused}
use Rattle.zl_calls.proofs.step.OwnDone.{refused_of}
use Rattle.zl_calls.proofs.objects.Settled.{still_settles}
use Rattle.zl_calls.proofs.processes.Written.{refusal_keeps}

-- ---- the step

module _ {before after : List Process} {r : Objects} {p p2 : Process} (lib : Library) (r2 : Objects) (consistent : IsConsistent before r)
    (write : IsWrite before after p p2)
    (ready : state_value p.state ≡ Ready) (s : Site) (o : Outcome) where
  abbrev Judged : Verdict → Type 0
  Judged v = verdict_on p.table.entries r.objects p.pid s.request ≡ Some v

  unblocked : is_blocked (state_value p.state) ≡ false
  unblocked = ap is_blocked ready

  -- what it leaves of the process and the objects
  keeps_by : (v : Verdict) → EndsBy v s p r o p2 r2 → IsConsistent after r2
  keeps_by verdict.Denied ends =
      subst (IsConsistent after) (sym ends.objects) (refusal_keeps write r consistent ends.table (ap (λ (q : Process). q.state) ends.replied))
  keeps_by verdict.Killed ends = ends_keeps lib r2 consistent write BY_POLICY ends.over ready

  pub policed_keeps : Policed s p r o p2 r2 → IsConsistent after r2
  policed_keeps policed = keeps_by policed.verdict policed.ends

  still_by : (v : Verdict) → EndsBy v s p r o p2 r2 → is_blocked (state_value p2.state) ≡ false
  still_by verdict.Denied ends = ap (λ (q : Process). is_blocked (state_value q.state)) ends.replied ∙ unblocked
  still_by verdict.Killed ends = ap (λ (q : Process). is_blocked (state_value q.state)) ends.over.process

  pub policed_unblocked : Policed s p r o p2 r2 → is_blocked (state_value p2.state) ≡ false
  policed_unblocked policed = still_by policed.verdict policed.ends

  goes_by : (v : Verdict) → EndsBy v s p r o p2 r2 → is_blocking o ≡ false
  goes_by verdict.Denied ends = ap is_blocking ends.ends
  goes_by verdict.Killed ends = ap is_blocking ends.ends

  -- it doesn't block
  pub policed_goes : Policed s p r o p2 r2 → is_blocking o ≡ false
  policed_goes policed = goes_by policed.verdict policed.ends

  -- ---- beside registered waits and blocked processes

  module _ (call : CallName) (next : next_for lib (process_value p) ≡ AtCall call s) (blocked : List ℕ) (sound : IsSound (world_blocked before r blocked))
      (are : AreBlocked before blocked) where
    abbrev W : World
    W = world_blocked before r blocked

    abbrev Acts : Type 0
    Acts = IsActed lib W p.pid (item.Call p.pid call o) (world_left (left_all after r2) r2 blocked)

    pub refused : (v : Verdict) → Judged v → refusal lib W p.pid s.request ≡ Some (ending v)
    refused v is =
        policed lib W p.pid p.table.entries r.objects (is_seen lib before r consistent blocked sound p write.there (ap is_ready ready) W
        refl refl) s.request v is

    denied_acts : IsDenied s p r o p2 r2 → Judged verdict.Denied → Acts
    denied_acts denied is =
        let making = denied_object p.table.entries r.objects p.pid s.request is in
        let answered : world_value after r2 ≡ replied (world_value before r) p.pid s status.AccessDenied [] =
        same_world write r r2 s status.AccessDenied [] denied.table denied.objects denied.replied in
        let acted : with_waiters (world_value after r2) r.waits r.waits_made blocked ≡ replied W p.pid s status.AccessDenied [] =
        ap (λ (w : World). with_waiters w r.waits r.waits_made blocked) answered
        ∙ sym (replied_among p.pid r.waits r.waits_made blocked (world_value before r) s status.AccessDenied []) in
        left_by lib before (left_all after r2) r r2 p.pid (item.Call p.pid call o) blocked sound r.waits r.waits_made blocked
        (record {
          process = process_value p;
          is_there = write.there;
          is_ready = ready;
          acted = with_waiters (world_value after r2) r.waits r.waits_made blocked;
          acts = rw next (
            o,
            refl,
            subst (λ (x : Outcome). Calls lib W p.pid s x (with_waiters (world_value after r2) r.waits r.waits_made blocked)) (sym denied.ends)
                (denied_calls lib W p.pid s (with_waiters (world_value after r2) r.waits r.waits_made blocked) making.0 making.1
                (refused verdict.Denied is) acted),
          );
          settles = settles_waiting (world_value after r2) (settled_world after r2) (still_settles after r2 (keeps_by verdict.Denied denied)) r.waits
              r.waits_made blocked;
        })
        (record {
          waits = λ test there. ap (λ (x : Objects). filter test x.waits) denied.objects;
          made = ap (λ (x : Objects). x.waits_made) denied.objects;
          asleep = subst (KeepSleepers r) (sym denied.objects) (refl, refl);
        })

    killed_acts : Exits BY_POLICY p r o p2 r2 → Judged verdict.Killed → Acts
    killed_acts exits is =
        let others : List ℕ = filter (λ q. not (q == p.pid)) blocked in
        let acted : with_waiters (world_value after r) r.waits r.waits_made others ≡ ended W p.pid BY_POLICY =
        ap (λ (w : World). with_waiters w r.waits r.waits_made others) (ended_is lib r2 consistent write BY_POLICY exits.over ready)
        ∙ sym (ended_among p.pid r.waits r.waits_made blocked (world_value before r) BY_POLICY) in
        left_by lib before (left_all after r2) r r2 p.pid (item.Call p.pid call o) blocked sound r.waits r.waits_made blocked
        (subst (λ (b : List ℕ). ActsAndSettles lib W p.pid (item.Call p.pid call o)
        (with_waiters (settled_world after r2) (filter (is_left_at_port (settled_world after r2)) r.waits) r.waits_made b))
        (none_filtered p.pid blocked (are.once p.pid ∙ rw (write.there, unblocked) refl))
        (record {
          process = process_value p;
          is_there = write.there;
          is_ready = ready;
          acted = with_waiters (world_value after r) r.waits r.waits_made others;
          acts = rw next (
            o,
            refl,
            subst (λ (x : Outcome). Calls lib W p.pid s x (with_waiters (world_value after r) r.waits r.waits_made others)) (sym exits.ends)
                (killed_calls lib W p.pid s (with_waiters (world_value after r) r.waits r.waits_made others) (refused verdict.Killed is) acted),
          );
          settles = settles_waiting (world_value after r) (settled_world after r2)
              (settles lib r2 consistent write BY_POLICY exits.over ready) r.waits r.waits_made others;
        }))
        (lists_left (left_all after r2) r r2 r.waits r.waits_made (over_none write r2 exits.over.no_handle) exits.over.waits.keeps.listed)

    by_verdict : (v : Verdict) → Judged v → EndsBy v s p r o p2 r2 → Acts
    by_verdict verdict.Denied is ends = denied_acts ends is
    by_verdict verdict.Killed is ends = killed_acts ends is

    -- what a policy does of a call is a step of the definitions, up to where waits fire and processes wake
    pub policed_acts : Policed s p r o p2 r2 → Acts
    policed_acts policed = by_verdict policed.verdict policed.is_verdict policed.ends

    -- it leaves these values
    free_by : (v : Verdict) → Judged v → EndsBy v s p r o p2 r2 → FreeBy after (left_free (own_in before r) p.pid s.request)
    unfolding is_process
    free_by verdict.Denied is ends =
        let making = denied_object p.table.entries r.objects p.pid s.request is in
        own_refused write r (rw (write.there, ready) refl) s.request
        (ends.table ∙ ap (without_handles p.table) (sym (making_takes_none s.request making.0 making.1)))
    free_by verdict.Killed is ends =
        over_free lib r2 consistent write BY_POLICY ends.over ready (left_free (own_in before r) p.pid s.request) (λ k apart. rw apart refl)

    -- and so would the lab itself
    pub policed_own : Policed s p r o p2 r2
        → IsOwnDone lib (own_beside before r blocked) p.pid (AtCall call s) (item.Call p.pid call o) (world_left (left_all after r2) r2 blocked) after
    policed_own policed =
        refused_of lib before after r blocked p.pid call s (item.Call p.pid call o) _ (policed_acts policed) (process_value p) write.there next
        (ending policed.verdict) (refused policed.verdict policed.is_verdict) (free_by policed.verdict policed.is_verdict policed.ends)
