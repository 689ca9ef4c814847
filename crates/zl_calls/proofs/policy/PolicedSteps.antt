-- A call in the midst of all processes that the policy of its process's job ends.
use Rattle.zl_calls.proofs.Common.{AtCall, CallName, EndsBy, KeepSleepers, Library, List, Objects, Outcome, Reach, Policed, Process, Site, Verdict, ap, false}
use Rattle.zl_calls.proofs.Common.{is_blocking, next_for, parts, process_value, refl, set, subst, sym, ℕ, ◌≡◌}
use Rattle.zl_code.specs.declared.history.TraceItem.TheVariants as item
use Rattle.zl_calls.specs.Reaching.{IsAlone}
use Rattle.zl_calls.specs.declared.policy.Verdict.TheVariants as verdict
use Rattle.zl_calls.proofs.calls.Answered.{IsWrite}
use Rattle.zl_calls.proofs.waking.BlockedLists.{same_list, still_blocked}
use Rattle.zl_calls.proofs.processes.Departed.{left_blocked, left_keeps}
use Rattle.zl_calls.proofs.step.OwnDone.{own_so}
use Rattle.zl_calls.proofs.step.Performing.{AtTurn, HasLeft, key, left_as, ready, unblocked, write_of}
use Rattle.zl_calls.proofs.policy.Policing.{policed_acts, policed_goes, policed_own, policed_keeps, policed_unblocked}

-- a call that a policy ends leaves its process its pid
pub same_pid : (s : Site) (p p2 : Process) (r r2 : Objects) (o : Outcome) → Policed s p r o p2 r2 → p2.pid ≡ p.pid
same_pid s p p2 r r2 o judged = by_verdict judged.verdict judged.ends
  where
    by_verdict : (v : Verdict) → EndsBy v s p r o p2 r2 → p2.pid ≡ p.pid
    by_verdict verdict.Denied ends = ap (λ (q : Process). q.pid) ends.replied
    by_verdict verdict.Killed ends = ap (λ (q : Process). q.pid) ends.over.process

-- and who may be blocked as before
same_sleepers : (s : Site) (p p2 : Process) (r r2 : Objects) (o : Outcome) → Policed s p r o p2 r2 → KeepSleepers r r2
same_sleepers s p p2 r r2 o judged = by_verdict judged.verdict judged.ends
  where
    by_verdict : (v : Verdict) → EndsBy v s p r o p2 r2 → KeepSleepers r r2
    by_verdict verdict.Denied ends = subst (KeepSleepers r) (sym ends.objects) (refl, refl)
    by_verdict verdict.Killed ends = ends.over.waits.keeps.listed.asleep

-- the process p stands at the place, under the pid, and is at the call
module _ {ps : List Process} {r : Objects} {blocked : List ℕ} {pid place : ℕ} {p : Process} (turn : AtTurn ps r blocked pid place p) (lib : Library)
    (name : CallName) (s : Site) (next : next_for lib (process_value p) ≡ AtCall name s) where
  ended_by : (o : Outcome) (p2 : Process) (r2 : Objects) → Policed s p r o p2 r2
      → HasLeft lib ps (set ps place p2) r r2 blocked blocked pid (item.Call pid name o)
  ended_by o p2 r2 judged =
      let writes : IsWrite ps (set ps place p2) p p2 = write_of turn p2 (same_pid s p p2 r r2 o judged) in
      let goes : is_blocking o ≡ false = policed_goes lib r2 turn.consistent writes (ready turn) s o judged in
      rw (← key turn) (record {
        consistent = left_keeps (set ps place p2) r2 (policed_keeps lib r2 turn.consistent writes (ready turn) s o judged);
        list = rw (same_list p.pid (item.Call p.pid name o) blocked goes)
            (left_blocked (set ps place p2) r2 blocked (still_blocked writes (unblocked turn)
            (policed_unblocked lib r2 turn.consistent writes (ready turn) s o judged) blocked turn.are));
        fewer = λ test there. refl;
        asleep = same_sleepers s p p2 r r2 o judged;
        acts = record {
          pid_is = refl;
          acted = rw (same_list p.pid (item.Call p.pid name o) blocked goes)
              (policed_acts lib r2 turn.consistent writes (ready turn) s o name next blocked turn.sound turn.are judged);
        };
        own = λ q at plain. rw (same_list p.pid (item.Call p.pid name o) blocked goes)
            (own_so lib ps (set ps place p2) r r2 blocked p.pid p (item.Call p.pid name o) _ writes.there
            (rw next (policed_own lib r2 turn.consistent writes (ready turn) s o name next blocked turn.sound turn.are judged)) q at);
      })

  -- a policy ends it
  pub policed_so : (o : Outcome) (p2 : Process) (all2 : Reach) → IsAlone (parts ps r blocked) place p2 all2 → Policed s p r o p2 all2.objects
      → HasLeft lib ps all2.processes r all2.objects blocked all2.blocked pid (item.Call pid name o)
  policed_so o p2 all2 alone judged = left_as all2 (set ps place p2) all2.objects blocked alone.processes refl alone.blocked (ended_by o p2 all2.objects judged)
