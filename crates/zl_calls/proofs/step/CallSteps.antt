-- Any call of a process in the midst of all others: from what was done among them to the relation of steps, up to where processes wake.
use Rattle.zl_calls.proofs.Common.{AtCall, CallActs, CallName, CalledAmong, Ends, IsCovered, IsStuck, IsVerified, Library, List, Moves, Objects, Outcome, Reach}
use Rattle.zl_calls.proofs.Common.{Process, STUCK, Site, Some, StaysAwake, acts, ap, calls_at, get_or, is_checked, is_ready, next_for, parts, position}
use Rattle.zl_calls.proofs.Common.{process_value, refl, same_Some, set, slice_get, slice_get-get_or, state_value, subst, sym, true, world_blocked, world_left}
use Rattle.zl_calls.proofs.Common.{ℕ, ◌==◌, ◌∙◌, ◌≡◌, ◌≢◌}
use Rattle.zl_code.specs.declared.history.TraceItem.TheVariants as item
use Rattle.zl_calls.specs.Reaching.{policed, reaches}
use Rattle.zl_calls.proofs.processes.Departed.{left_all}
use Rattle.zl_calls.proofs.step.AllKnown.{over_left}
use Rattle.zl_calls.proofs.step.LocalMoves.{moved_stays}
use Rattle.zl_calls.proofs.step.Performing.{AtTurn, HasActed, HasLeft, alone_so, here, left_as, moves_so, stops_so, within}
use Rattle.zl_calls.proofs.step.SureCalls.{sure_calls}
use Rattle.zl_calls.proofs.parts.ReachSteps.{free, free_beside, reaches_so}
use Rattle.zl_calls.proofs.policy.PolicedSteps.{policed_so}
use Rattle.zl_calls.proofs.step.TakenKnown.{AreThere}
use Rattle.zl_calls.proofs.waits.Staying.{AreLeft}

-- the process p stands at the place, under the pid, and is at the call
module _ {ps : List Process} {r : Objects} {blocked : List ℕ} {pid place : ℕ} {p : Process} (turn : AtTurn ps r blocked pid place p) (lib : Library)
    (all2 : Reach) (o : Outcome) where
  by_acts : (name : CallName) (s : Site) → next_for lib (process_value p) ≡ AtCall name s → CallActs lib place p s (parts ps r blocked) o all2
      → HasLeft lib ps all2.processes r all2.objects blocked all2.blocked pid (item.Call pid name o)
  by_acts name s next (policed p2 alone ends) = policed_so turn lib name s next o p2 all2 alone ends
  by_acts name s next (reaches none does) = reaches_so turn lib name s next none o all2 does
  by_acts name s next (acts p2 none alone acted) =
      left_as all2 (set ps place p2) all2.objects blocked alone.processes refl alone.blocked
      (alone_so turn lib name o s next p2 all2.objects acted (free turn lib name s next none) (free_beside turn lib name s next none))

  pub called_so : (name : CallName) → CalledAmong lib place p (parts ps r blocked) name o all2
      → HasLeft lib ps all2.processes r all2.objects blocked all2.blocked pid (item.Call pid name o)
  called_so name called = rw called.named (by_acts called.call.name called.site (called.next ∙ ap (calls_at called.call.name) called.at_site) called.acts)

-- ---- a step that is no call, behind a look at what stands next that changed nothing

module _ (ps : List Process) (pid place : ℕ) (p : Process) (found : Some place ≡ position (λ q. q.pid == pid) ps) (read : p ≡ get_or ps place p) where
  pub caller_ready : is_ready (state_value p.state) ≡ true → (caller : Process) → slice_get ps place ≡ Some caller → is_ready (state_value caller.state) ≡ true
  caller_ready ready caller at = subst (λ (q : Process). is_ready (state_value q.state) ≡ true) (same_Some p caller (sym (here ps pid place p found read) ∙
      at)) ready

module _ {ps : List Process} {r : Objects} {blocked : List ℕ} {pid place : ℕ} {p : Process} (turn : AtTurn ps r blocked pid place p) (lib : Library)
    (ps1 : List Process) (r1 : Objects) (b1 : List ℕ) (same_list : ps1 ≡ ps) (same_objects : r1 ≡ r) (same_blocked : b1 ≡ blocked) (p1 : Process)
    (read1 : p1 ≡ get_or ps1 place p1) where
  same_process : p1 ≡ p
  same_process =
      let other : slice_get ps place ≡ Some p1 =
      slice_get-get_or ps place p1 (within ps pid place p turn.found turn.read)
      ∙ ap (λ (q : Process). Some q) (sym (read1 ∙ ap (λ (qs : List Process). get_or qs place p1) same_list)) in
      same_Some p1 p (sym other ∙ here ps pid place p turn.found turn.read)

  pub moves_from : (p2 : Process) → next_for lib (process_value p1) ≡ Moves p2.cpu → p2 ≡ record p1 { cpu = p2.cpu }
      → HasActed lib ps (set ps1 place p2) r r1 blocked b1 pid (item.Run pid 1)
  moves_from p2 next cpu = rw (same_list, same_objects, same_blocked) (moves_so turn lib p2 (rw same_process at next) (rw same_process at cpu))

  -- nothing ends, fires or wakes behind it
  pub stays_from : (p2 : Process) → p2 ≡ record p1 { cpu = p2.cpu }
      → StaysAwake (world_blocked ps r blocked) (world_left (set ps1 place p2) r1 b1) (world_blocked (set ps1 place p2) r1 b1)
  stays_from p2 cpu = rw (same_list, same_objects, same_blocked) (moved_stays turn p2 (rw same_process at cpu))

  pub stops_from : (p2 : Process) (r2 : Objects) → next_for lib (process_value p1) ≡ IsStuck → Ends STUCK p1 r1 p2 r2
      → HasLeft lib ps (set ps1 place p2) r r2 blocked b1 pid (item.Stuck pid)
  stops_from p2 r2 stuck ends = rw (same_list, same_blocked) (stops_so turn lib p2 r2 (rw same_process at stuck) (rw (same_process, same_objects) at ends))

  -- each wait is left that is listed then
  pub over_from : (p2 : Process) (r2 : Objects) → Ends STUCK p1 r1 p2 r2 → AreThere r2 → AreLeft (left_all (set ps1 place p2) r2) r2 r2.waits
  over_from p2 r2 ends present = rw same_list (over_left turn STUCK p2 r2 (rw (same_process, same_objects) at ends) present)

  -- nor is the process stuck, if its program was checked
  pub goes_from : IsVerified lib → IsCovered lib (world_blocked ps r blocked) → is_checked (slice_get lib p1.program) ≡ true
      → next_for lib (process_value p1) ≢ IsStuck
  goes_from v covered = rw same_process (λ checked. (sure_calls turn lib v covered p (here ps pid place p turn.found turn.read) checked).goes)
