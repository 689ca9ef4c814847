-- A call blocks: it is a step up to where processes wake, its process is the last of the blocked, and the invariant holds afterwards.
use Rattle.zl_calls.proofs.Common.{Agrees, AreBlocked, AtCall, Awaited, Blocked, Body, CallName, IsActed, IsConsistent, IsOwnDone, IsSound, Library, List, Map}
use Rattle.zl_calls.proofs.Common.{None, Objects, Outcome, Process, ProcessValue, Ready, Request, Settles, Site, Some, StateValue, World, [], ap, awaited_by}
use Rattle.zl_calls.proofs.Common.{blocked_in, handle_operands, has_ended, is_blocked, is_process, lives, new_handles, next_for, none-some, on_process}
use Rattle.zl_calls.proofs.Common.{own_beside, plain_refusal, port_wait, process_value, refl, runs, settles_waiting, state_value, subst, sym, taken_handles}
use Rattle.zl_calls.proofs.Common.{true, wait_one, without_handles, world_blocked, world_left, world_value, ℕ, ◌++◌, ◌<◌, ◌^◌, ◌∙◌, ◌∷◌, ◌≡◌}
use Rattle.zl_code.specs.declared.history.Outcome.TheVariants as outcome
use Rattle.zl_code.specs.declared.history.TraceItem.TheVariants as item
use Rattle.zl_code.proofs.StepsWaiting.{block_waiting}
use Rattle.zl_code.proofs.StepsBeside.{blocks_among}
use Rattle.zl_calls.proofs.calls.Owned.{IsMaker, own_plain, own_refused}
use Rattle.zl_calls.proofs.step.OwnDone.{blocked_own, same_beside}
use Rattle.zl_calls.proofs.calls.Answered.{IsWrite}
use Rattle.zl_calls.proofs.waking.BlockedLists.{one_asleep}
use Rattle.zl_calls.proofs.waits.LeftWaits.{left_by, left_same}
use Rattle.zl_calls.proofs.objects.SameBodies.{alike_agrees}
use Rattle.zl_calls.proofs.step.FromConsistent.{IsFree}
use Rattle.zl_calls.proofs.processes.Departed.{left_all, settled_world}
use Rattle.zl_calls.proofs.objects.Settled.{still_settles}
use Rattle.zl_calls.proofs.processes.Written.{alike_states, keeps_table}

-- p stands at a call that isn't refused, and there is something to wait for; it is then p2, which waits for that
pub record IsAsleep (lib : Library) (before : List Process) (r r2 : Objects) (p p2 : Process) (name : CallName) (o : Outcome) : Type 0 where
  pub at : Site
  pub next : next_for lib (process_value p) ≡ AtCall name at
  pub awaited : Awaited
  pub passes : plain_refusal lib (world_value before r) p.pid at.request ≡ None
  pub is_awaited : awaited_by (world_value before r) p.pid at.request ≡ Some awaited
  pub ends : o ≡ outcome.Blocked
  pub process : p2 ≡ record p { state = p2.state }
  pub state : state_value p2.state ≡ Blocked awaited at.destinations
  pub counter : p.cpu.counter < 2 ^ 32
  pub objects : r2 ≡ r

module _ {before after : List Process} {r : Objects} {p p2 : Process} (lib : Library) (r2 : Objects) (consistent : IsConsistent before r)
    (write : IsWrite before after p p2)
    (ready : state_value p.state ≡ Ready)
    (name : CallName) (o : Outcome) (sleeps : IsAsleep lib before r r2 p p2 name o) where
  -- ---- the invariant

  agrees : (k : ℕ) (b : Body) → Agrees (world_value before r) k b → Agrees (world_value after r) k b
  agrees k b = alike_agrees (world_value before r) (world_value after r) k b
      (alike_states write runs (ap runs sleeps.state ∙ sym (ap runs ready)) r r k)
      (alike_states write lives (ap lives sleeps.state ∙ sym (ap lives ready)) r r k)
      (alike_states write has_ended (ap has_ended sleeps.state ∙ sym (ap has_ended ready)) r r k)

  pub asleep_keeps : IsConsistent after r
  asleep_keeps = keeps_table write r consistent agrees (ap (λ (q : Process). q.table) sleeps.process)

  -- ---- the list

  pub asleep_list : (blocked : List ℕ) → AreBlocked before blocked → AreBlocked after (blocked ++ (p.pid ∷ []))
  asleep_list =
      one_asleep write (ap is_blocked ready) (ap is_blocked sleeps.state) (subst (λ (q : Process). q.cpu.counter < 2 ^ 32) (sym sleeps.process) sleeps.counter)

  -- ---- the step

  asleep_world : blocked_in (world_value before r) p.pid sleeps.awaited sleeps.at.destinations ≡ world_value after r
  unfolding on_process
  asleep_world =
      ap (λ (m : Map ProcessValue). record (world_value before r) { processes = m })
      (sym (write.writes (λ q. record q { state = Blocked sleeps.awaited sleeps.at.destinations }) is))
    where
      is : process_value p2 ≡ record (process_value p) { state = Blocked sleeps.awaited sleeps.at.destinations }
      is = ap process_value sleeps.process ∙ ap (λ (s : StateValue). record (process_value p) { state = s }) sleeps.state

  -- beside registered waits and other blocked processes
  pub asleep_acts : (blocked : List ℕ) → IsFree lib (world_value before r) p.pid name → IsSound (world_blocked before r blocked)
      → IsActed lib (world_blocked before r blocked) p.pid (item.Call p.pid name outcome.Blocked) (world_left (left_all after r) r (blocked ++ (p.pid ∷ [])))
  asleep_acts blocked free sound =
      left_by lib before (left_all after r) r r p.pid (item.Call p.pid name outcome.Blocked) blocked sound r.waits r.waits_made (blocked ++ (p.pid ∷ []))
      (block_waiting lib (world_value before r) p.pid (process_value p) write.there ready name sleeps.at sleeps.next sleeps.awaited
      (free (process_value p) sleeps.at write.there sleeps.next ∙ sleeps.passes) sleeps.is_awaited (settled_world after r)
      (subst (λ u. Settles u (settled_world after r)) (sym asleep_world) (still_settles after r asleep_keeps)) r.waits r.waits_made blocked)
      (record { waits = λ test there. refl; made = refl; asleep = (refl, refl) })

  -- what waits takes no handle, and makes none
  makes_none : (request : Request) (awaited : Awaited) → awaited_by (world_value before r) p.pid request ≡ Some awaited
      → IsMaker (world_value before r) p.pid request 0
  unfolding new_handles taken_handles handle_operands
  makes_none (wait_one h mask) awaited is = record { none = refl; chosen = refl; made = refl; own = refl }
  makes_none (port_wait port) awaited is = record { none = refl; chosen = refl; made = refl; own = refl }
  makes_none _ awaited is = absurd (none-some awaited is)

  -- and the lab does it so
  pub asleep_own : (blocked : List ℕ) → IsFree lib (world_value before r) p.pid name → IsSound (world_blocked before r blocked)
      → IsOwnDone lib (own_beside before r blocked) p.pid (next_for lib (process_value p)) (item.Call p.pid name outcome.Blocked)
      (world_left (left_all after r) r (blocked ++ (p.pid ∷ []))) after
  unfolding is_process
  asleep_own blocked free sound =
      let w : World = world_value before r in
      let passes = free (process_value p) sleeps.at write.there sleeps.next ∙ sleeps.passes in
      let calls = blocks_among lib w p.pid (process_value p) write.there r.waits r.waits_made blocked sleeps.at sleeps.awaited passes sleeps.is_awaited in
      let settled = subst (λ u. Settles u (settled_world after r)) (sym asleep_world) (still_settles after r asleep_keeps) in
      let steps = block_waiting lib w p.pid (process_value p) write.there ready name sleeps.at sleeps.next sleeps.awaited passes sleeps.is_awaited
      (settled_world after r) settled r.waits r.waits_made blocked in
      let same = left_same lib before (left_all after r) r r p.pid (item.Call p.pid name outcome.Blocked) blocked sound r.waits r.waits_made
      (blocked ++ (p.pid ∷ [])) steps (record { waits = λ test there. refl; made = refl; asleep = (refl, refl) }) in
      let maker = makes_none sleeps.at.request sleeps.awaited sleeps.is_awaited in
      let table : p2.table ≡ p.table = ap (λ (q : Process). q.table) sleeps.process in
      let living : is_process w lives p.pid ≡ true = rw (write.there, ready) refl in
      rw sleeps.next (blocked_own lib before after r blocked p.pid name sleeps.at _ _ calls.0 calls.1
      (own_refused write r living sleeps.at.request (table ∙ ap (without_handles p.table) (sym maker.none)))
      (same_beside before after r blocked p.pid sleeps.at.request (own_plain write r living sleeps.at.request maker [] [] refl table).1)
      (subst (Settles _) same (settles_waiting (blocked_in w p.pid sleeps.awaited sleeps.at.destinations) (settled_world after r) settled r.waits r.waits_made
      (blocked ++ (p.pid ∷ [])))))
