-- A call whose choice is the lab's own, beside registered waits and blocked processes.
use Rattle.zl_calls.proofs.Common.{ActsAndSettles, AreBlocked, AtCall, CallBy, CallName, IsOwnDone, IsSound, KeepSleepers, Library, List, Objects, Option}
use Rattle.zl_calls.proofs.Common.{Outcome, PlainCalls, Process, ProcessValue, Ready, Settles, Site, Some, Wait, World, false, filter, get, is_blocking}
use Rattle.zl_calls.proofs.Common.{is_left_at_port, is_process, map, next_for, own_beside, plain_refusal, process_entry, refl, refusal, settles_waiting, subst}
use Rattle.zl_calls.proofs.Common.{sym, tells_want, waits_by, with_waiters, world_blocked, world_left, world_value, ℕ, ◌∙◌, ◌≡◌}
use Rattle.zl_code.proofs.StepsBeside.{next_looks}
use Rattle.zl_code.proofs.Waiters.{blocked_after, call_among, waits_after}
use Rattle.zl_code.specs.declared.history.TraceItem.TheVariants as item
use Rattle.zl_calls.proofs.calls.Owned.{IsOwn, IsOwnCall}
use Rattle.zl_calls.proofs.processes.Departed.{left_all, settled_world}
use Rattle.zl_calls.proofs.step.FromConsistent.{IsFree}
use Rattle.zl_calls.proofs.step.OwnDone.{call_own}
use Rattle.zl_calls.proofs.waits.LeftWaits.{ListsLeft, left_same}
use Rattle.zl_calls.proofs.waking.BlockedLists.{same_blocked}

module _ (lib : Library) (before after : List Process) (r r2 : Objects) (blocked : List ℕ) (pid : ℕ) (sound : IsSound (world_blocked before r blocked))
    (q : ProcessValue) (there : get (map process_entry before) pid ≡ Some q) (ready : q.state ≡ Ready) where
  abbrev W : World
  W = world_blocked before r blocked

  abbrev sw : World
  sw = settled_world after r2

  -- one that neither looks at waits nor blocks
  pub call_beside : (are : AreBlocked before blocked) (call : CallName) (ends : Outcome) (own : IsOwnCall lib before after r r2 pid call ends)
      → IsFree lib (world_value before r) pid call → next_looks (next_for lib q) ≡ false → is_blocking ends ≡ false
      → ListsLeft (left_all after r2) (waits_by (next_for lib q) (item.Call pid call ends) r.waits) r.waits_made r r2
      → tells_want (item.Call pid call ends) ≡ false
      → IsOwnDone lib (own_beside before r blocked) pid (next_for lib q) (item.Call pid call ends) (world_left (left_all after r2) r2 blocked) after
  unfolding is_process
  call_beside are call ends own free looks goes lists plain =
      let next : next_for lib q ≡ AtCall call own.at = own.next q there in
      let by = subst (λ (o : Option Outcome). CallBy lib (world_value before r) pid own.at own.calls.0 o ends own.acted)
      (sym (free q own.at there next)) own.calls.1 in
      let among = call_among lib (world_value before r) pid r.waits r.waits_made blocked own.at (rw next at looks) own.calls.0 ends own.acted goes by in
      let left : List Wait = waits_after own.at.request ends pid r.waits in
      let acted : World = with_waiters own.acted left r.waits_made (blocked_after ends pid blocked) in
      let settles : Settles acted (with_waiters sw (filter (is_left_at_port sw) left) r.waits_made (blocked_after ends pid blocked)) =
      settles_waiting own.acted sw own.settles left r.waits_made (blocked_after ends pid blocked) in
      let same = same_blocked pid (item.Call pid call ends) blocked refl (are.once pid ∙ rw (there, ready) refl) in
      let now : Settles acted (with_waiters sw (filter (is_left_at_port sw) left) r.waits_made blocked) =
      subst (λ (b : List ℕ). Settles acted (with_waiters sw (filter (is_left_at_port sw) left) r.waits_made b)) same settles in
      let steps : ActsAndSettles lib W pid (item.Call pid call ends) (with_waiters sw (filter (is_left_at_port sw) left) r.waits_made blocked) =
      record { process = q; is_there = there; is_ready = ready; acted = acted; acts = rw next (ends, refl, (own.calls.0, among)); settles = now } in
      let is_left = left_same lib before (left_all after r2) r r2 pid (item.Call pid call ends) blocked sound left r.waits_made blocked steps
      (rw next at lists) in
      rw next (call_own lib before after r blocked pid call own.at ends acted (world_left (left_all after r2) r2 blocked) own.calls.0 among
      (own.own (rw (there, ready) refl)) (subst (Settles acted) is_left now) plain)

  -- one that looks at waits, and with which nothing goes
  pub look_beside : (call : CallName) (at : Site) (ends : Outcome) → next_for lib q ≡ AtCall call at
      → refusal lib W pid at.request ≡ plain_refusal lib W pid at.request → (calls : PlainCalls lib W pid at ends (world_blocked after r2 blocked))
      → IsOwn before after r pid at.request calls.0 → KeepSleepers r r2 → Settles (world_value after r2) sw → tells_want (item.Call pid call ends) ≡ false
      → IsOwnDone lib (own_beside before r blocked) pid (AtCall call at) (item.Call pid call ends) (world_left (left_all after r2) r2 blocked) after
  look_beside call at ends next free calls own asleep settled plain =
      let by = subst (λ (o : Option Outcome). CallBy lib W pid at calls.0 o ends (world_blocked after r2 blocked)) (sym free) calls.1 in
      let settles = settles_waiting (world_value after r2) sw settled r2.waits r2.waits_made blocked in
      let steps : ActsAndSettles lib W pid (item.Call pid call ends) (with_waiters sw (filter (is_left_at_port sw) r2.waits) r2.waits_made blocked) =
      record {
        process = q;
        is_there = there;
        is_ready = ready;
        acted = world_blocked after r2 blocked;
        acts = rw next (ends, refl, (calls.0, by));
        settles = settles;
      } in
      let same = left_same lib before (left_all after r2) r r2 pid (item.Call pid call ends) blocked sound r2.waits r2.waits_made blocked steps
      (record { waits = λ test there. refl; made = refl; asleep = asleep }) in
      call_own lib before after r blocked pid call at ends (world_blocked after r2 blocked) (world_left (left_all after r2) r2 blocked) calls.0 by own
      (subst (Settles (world_blocked after r2 blocked)) same settles) plain
