-- A process of the world acts by itself: from the list of processes to the relation of steps, up to where processes wake.
use Rattle.zl_calls.proofs.Common.{Acted, AreBlocked, AreLeft, AtCall, BodyValue, CallName, DoesNext, DoesOwn, Ends, IsActed, IsConsistent, IsOwnDone, IsSound}
use Rattle.zl_calls.proofs.Common.{IsStuck, IsTrue, KeepSleepers, Library, List, Map, Moves, None, ObjectValue, Objects, Option, Outcome, Reach, Process}
use Rattle.zl_calls.proofs.Common.{ProcessBody, ProcessValue, Ready, STUCK, Settles, Site, Some, State, TraceItem, ap, body_in, call_here, cases_Bool, false}
use Rattle.zl_calls.proofs.Common.{false≢true, free_at, free_entry, get, get_or, get_or_from_slice_get, has_key, has_seen, inl, inr, is_blocked, is_blocking}
use Rattle.zl_calls.proofs.Common.{is_process, is_ready, is_some, length, lives, map, next_for, next_looks, none-some, object_entry, on_process, own_beside}
use Rattle.zl_calls.proofs.Common.{parts, pid_of, position, process_entry, process_value, refl, same_Some, set, slice_get, slice_get-get_or, state_passes}
use Rattle.zl_calls.proofs.Common.{state_value, subst, sym, tells_blocking, tells_want, then_blocked, true, waits_by, world_blocked, world_left, world_value, ℕ}
use Rattle.zl_calls.proofs.Common.{◌<◌, ◌==◌, ◌∙◌, ◌≡◌, ◌⊎◌}
use Rattle.zl_code.specs.declared.history.Outcome.TheVariants as outcome
use Rattle.zl_code.specs.declared.history.TraceItem.TheVariants as item
use Rattle.zl_calls.specs.declared.process.State.TheVariants as state
use Rattle.zl_calls.proofs.calls.Answered.{IsWrite}
use Rattle.zl_calls.proofs.waking.BlockedLists.{still_blocked, same_list}
use Rattle.zl_calls.proofs.waits.EndedWaits.{acted_over, ended_none, over_none}
use Rattle.zl_calls.proofs.waits.LeftWaits.{ListsLeft, left_beside, left_looking, lists_left}
use Rattle.zl_calls.proofs.waits.WaitsByCall.{acted_lists}
use Rattle.zl_calls.proofs.calls.DoneCalls.{IsDone}
use Rattle.zl_calls.proofs.processes.Freed.{free_written}
use Rattle.zl_calls.proofs.calls.ProcessCalls.{ends_keeps, over_free, stuck_steps}
use Rattle.zl_calls.proofs.calls.Performed.{Looks, acted_asleep, acted_done, acted_looks, same_pid, still_unblocked}
use Rattle.zl_calls.proofs.waking.Sleeping.{IsAsleep, asleep_acts, asleep_own, asleep_keeps, asleep_list}
use Rattle.zl_calls.proofs.processes.Departed.{all_live, left_all, left_blocked, left_keeps, settled_world}
use Rattle.zl_calls.proofs.step.OwnCalls.{call_beside, look_beside}
use Rattle.zl_calls.proofs.step.OwnDone.{own_so, plain_of}
use Rattle.zl_calls.proofs.step.FromConsistent.{IsFree, freely}
use Rattle.zl_calls.proofs.objects.Settled.{still_settles}
use Rattle.zl_calls.proofs.processes.Written.{alike_states, write_at, pid_read, refusal_keeps}
use Rattle.zl_calls.proofs.lists.Positions.{first_at}

pub ready_state : (s : State) → is_ready (state_value s) ≡ true → state_value s ≡ Ready
ready_state state.Ready h = refl
ready_state _ h = absurd (false≢true h)

-- what a step did to the processes and objects, where these block, in the order in which they did before
pub record HasActed (lib : Library) (before after : List Process) (r r2 : Objects) (blocked blocked2 : List ℕ) (pid : ℕ) (x : TraceItem) : Type 0 where
  pub consistent : IsConsistent after r2
  pub list : AreBlocked after (then_blocked pid x blocked2)
  pub fewer : AreLeft blocked blocked2
  pub asleep : KeepSleepers r r2
  pub acts : DoesNext lib (world_blocked before r blocked) pid x (world_left after r2 (then_blocked pid x blocked2))
  pub own : DoesOwn lib (own_beside before r blocked) pid x (world_left after r2 (then_blocked pid x blocked2)) after

-- a step after which processes go with their objects
abbrev pub HasLeft : Library → List Process → List Process → Objects → Objects → List ℕ → List ℕ → ℕ → TraceItem → Type 0
HasLeft lib before after r r2 blocked blocked2 pid x = HasActed lib before (left_all after r2) r r2 blocked blocked2 pid x

-- each living process has its object
pub object_there : (ps : List Process) (r : Objects) (blocked : List ℕ) → IsSound (world_blocked ps r blocked) → (k : ℕ)
    → IsTrue (state_passes lives (get (map process_entry ps) k)) → IsTrue (has_key r.objects k)
object_there ps r blocked sound k living = by_process (get (map process_entry ps) k) refl living
  where
    by_object : (o : Option ObjectValue) (b : BodyValue) → body_in o ≡ Some b → IsTrue (is_some o)
    by_object None b there = absurd (none-some b there)
    by_object (Some o) b there = refl

    by_process : (o : Option ProcessValue) → get (map process_entry ps) k ≡ o → IsTrue (state_passes lives o) → IsTrue (has_key r.objects k)
    by_process None is h = absurd (false≢true h)
    by_process (Some q) is h =
        let own = sound.living k q is h in
        sym (has_seen r.objects k) ∙ by_object (get (map object_entry r.objects) k) (ProcessBody own.job) own.there

-- where the call has left these parts
pub left_as : {lib : Library} {ps : List Process} {r : Objects} {blocked : List ℕ} {pid : ℕ} {x : TraceItem} (all2 : Reach) (after : List Process)
    (r2 : Objects) (blocked2 : List ℕ) → all2.processes ≡ after → all2.objects ≡ r2 → all2.blocked ≡ blocked2
    → HasLeft lib ps after r r2 blocked blocked2 pid x → HasLeft lib ps all2.processes r all2.objects blocked all2.blocked pid x
left_as {lib} {ps} {r} {blocked} {pid} {x} all2 after r2 blocked2 processes objects list left =
    subst (λ (all : Reach). HasLeft lib ps all.processes r all.objects blocked all.blocked pid x)
    (λ i. parts (sym processes i) (sym objects i) (sym list i)) left

-- the process p stands at the place, under the pid
module _ (ps : List Process) (pid place : ℕ) (p : Process) (found : Some place ≡ position (λ q. q.pid == pid) ps) (read : p ≡ get_or ps place p) where
  pub within : place < length ps
  within = (first_at (λ (q : Process). q.pid) process_value ps pid place p (sym found)).within

  pub here : slice_get ps place ≡ Some p
  here = slice_get-get_or ps place p within ∙ ap (λ (q : Process). Some q) (sym read)

  pub stands_there : get (map process_entry ps) pid ≡ Some (process_value p)
  stands_there = rw (← pid_read ps pid place p found read) ((write_at ps pid place p p found read refl).there)

-- there it is ready, and the world is sound
pub record AtTurn (ps : List Process) (r : Objects) (blocked : List ℕ) (pid place : ℕ) (p : Process) : Type 0 where
  pub consistent : IsConsistent ps r
  pub are : AreBlocked ps blocked
  pub sound : IsSound (world_blocked ps r blocked)
  pub found : Some place ≡ position (λ q. q.pid == pid) ps
  pub read : p ≡ get_or ps place p
  pub ready : is_ready (state_value p.state) ≡ true

-- the same, by its parts
pub turn_at : (ps : List Process) (r : Objects) (blocked : List ℕ) (pid place : ℕ) (p : Process) → IsConsistent ps r → AreBlocked ps blocked
    → IsSound (world_blocked ps r blocked) → Some place ≡ position (λ q. q.pid == pid) ps → p ≡ get_or ps place p → is_ready (state_value p.state) ≡ true
    → AtTurn ps r blocked pid place p
turn_at ps r blocked pid place p consistent are sound found read ready =
    record { consistent = consistent; are = are; sound = sound; found = found; read = read; ready = ready }

module _ {ps : List Process} {r : Objects} {blocked : List ℕ} {pid place : ℕ} {p : Process} (turn : AtTurn ps r blocked pid place p) where
  pub write_of : (p2 : Process) → p2.pid ≡ p.pid → IsWrite ps (set ps place p2) p p2
  write_of p2 same = write_at ps pid place p p2 turn.found turn.read same

  pub itself : IsWrite ps (set ps place p) p p
  itself = write_of p refl

  pub is_caller : (c : Process) → slice_get ps place ≡ Some c → c ≡ p
  is_caller c at = sym (turn.read ∙ get_or_from_slice_get ps place c p at)

  pub key : p.pid ≡ pid
  key = pid_read ps pid place p turn.found turn.read

  pub there : get (map process_entry ps) pid ≡ Some (process_value p)
  there = stands_there ps pid place p turn.found turn.read

  pub ready : state_value p.state ≡ Ready
  ready = ready_state p.state turn.ready

  pub unblocked : is_blocked (state_value p.state) ≡ false
  unblocked = ap is_blocked ready

  module _ (lib : Library) where
    -- from a world in which nothing waits to one in which some do
    pub left_with : (after : List Process) (r2 : Objects) (x : TraceItem) → pid_of x ≡ pid → tells_blocking x ≡ false
        → next_looks (next_for lib (process_value p)) ≡ false → IsConsistent after r2 → AreBlocked after blocked
        → IsActed lib (world_value ps r) pid x (settled_world after r2)
        → ListsLeft (left_all after r2) (waits_by (next_for lib (process_value p)) x r.waits) r.waits_made r r2
        → (IsActed lib (world_blocked ps r blocked) pid x (world_left (left_all after r2) r2 blocked) → tells_want x ≡ false
        → IsOwnDone lib (own_beside ps r blocked) pid (next_for lib (process_value p)) x (world_left (left_all after r2) r2 blocked) after)
        → HasLeft lib ps after r r2 blocked blocked pid x
    left_with after r2 x same goes looks keeps list acts lists own = by_acted
        (left_beside lib ps (left_all after r2) r r2 pid x blocked turn.sound (process_value p) there (rw there unblocked) turn.are same goes looks acts lists)
      where
        by_acted : IsActed lib (world_blocked ps r blocked) pid x (world_left (left_all after r2) r2 blocked) → HasLeft lib ps after r r2 blocked blocked pid x
        by_acted did = record {
          consistent = left_keeps after r2 keeps;
          fewer = λ test there. refl;
          asleep = lists.asleep;
          list = rw (same_list pid x blocked goes) (left_blocked after r2 blocked list);
          acts = record { pid_is = same; acted = rw (same_list pid x blocked goes) did };
          own = λ q at plain. rw (same_list pid x blocked goes) (own_so lib ps after r r2 blocked pid p x _ there (own did plain) q at);
        }

    -- the same where of the processes only this one is written
    pub acted_so : (after : List Process) (p2 : Process) (r2 : Objects) (x : TraceItem) → IsWrite ps after p p2 → is_blocked (state_value p2.state) ≡ false
        → pid_of x ≡ pid → tells_blocking x ≡ false → next_looks (next_for lib (process_value p)) ≡ false → IsConsistent after r2
        → IsActed lib (world_value ps r) pid x (settled_world after r2)
        → ListsLeft (left_all after r2) (waits_by (next_for lib (process_value p)) x r.waits) r.waits_made r r2
        → (IsActed lib (world_blocked ps r blocked) pid x (world_left (left_all after r2) r2 blocked) → tells_want x ≡ false
        → IsOwnDone lib (own_beside ps r blocked) pid (next_for lib (process_value p)) x (world_left (left_all after r2) r2 blocked) after)
        → HasLeft lib ps after r r2 blocked blocked pid x
    acted_so after p2 r2 x write still same goes looks keeps = left_with after r2 x same goes looks keeps (still_blocked write unblocked still blocked turn.are)

    -- a call that blocks
    blocks_so : (name : CallName) (o : Outcome) (p2 : Process) (r2 : Objects) → IsWrite ps (set ps place p2) p p2 → IsFree lib (world_value ps r) p.pid name
        → IsAsleep lib ps r r2 p p2 name o → HasLeft lib ps (set ps place p2) r r2 blocked blocked pid (item.Call pid name o)
    blocks_so name o p2 r2 write free sleeps = rw (sleeps.ends, sleeps.objects, ← key) (record {
      consistent = left_keeps (set ps place p2) r (asleep_keeps lib r2 turn.consistent write ready name o sleeps);
      fewer = λ test there. refl;
      asleep = (refl, refl);
      list = left_blocked (set ps place p2) r _ (asleep_list lib r2 turn.consistent write ready name o sleeps blocked turn.are);
      acts = record { pid_is = refl; acted = asleep_acts lib r2 turn.consistent write ready name o sleeps blocked free turn.sound };
      own = λ q at plain. own_so lib ps (set ps place p2) r r blocked p.pid p (item.Call p.pid name outcome.Blocked) _ write.there
          (asleep_own lib r2 turn.consistent write ready name o sleeps blocked free turn.sound) q at;
    })

    -- a call that looks at waits
    looks_so : (name : CallName) (o : Outcome) (p2 : Process) (r2 : Objects) → IsWrite ps (set ps place p2) p p2 → is_blocked (state_value p2.state) ≡ false
        → IsFree lib (world_blocked ps r blocked) p.pid name → Looks lib ps (set ps place p2) r r2 p name o
        → HasLeft lib ps (set ps place p2) r r2 blocked blocked pid (item.Call pid name o)
    unfolding is_process
    looks_so name o p2 r2 write still free looks = rw (← key) (record {
      consistent = left_keeps (set ps place p2) r2 looks.called.keeps;
      fewer = λ test there. refl;
      asleep = looks.asleep;
      list = rw (same_list p.pid (item.Call p.pid name o) blocked looks.goes)
          (left_blocked (set ps place p2) r2 blocked (still_blocked write unblocked still blocked turn.are));
      acts = record {
        pid_is = refl;
        acted = rw (same_list p.pid (item.Call p.pid name o) blocked looks.goes)
            (left_looking lib ps (set ps place p2) r r2 p.pid (process_value p) name looks.at o blocked turn.sound looks.asleep write.there ready looks.next
            (freely lib (world_blocked ps r blocked) p.pid looks.at o (world_blocked (set ps place p2) r2 blocked)
            (free (process_value p) looks.at write.there looks.next) (looks.called.calls blocked))
            (still_settles (set ps place p2) r2 looks.called.keeps));
      };
      own = λ q at plain. rw (same_list p.pid (item.Call p.pid name o) blocked looks.goes)
          (own_so lib ps (set ps place p2) r r2 blocked p.pid p (item.Call p.pid name o) _ write.there (rw looks.next
          (look_beside lib ps (set ps place p2) r r2 blocked p.pid turn.sound (process_value p) write.there ready name looks.at o looks.next
          (free (process_value p) looks.at write.there looks.next) (looks.called.calls blocked) (looks.called.own (rw (write.there, ready) refl) blocked)
          looks.asleep (still_settles (set ps place p2) r2 looks.called.keeps) plain)) q at);
    })

    -- a call of which the policy of the process's job says nothing, and which reaches no other process
    module _ (name : CallName) (o : Outcome) (s : Site) (next : next_for lib (process_value p) ≡ AtCall name s) (p2 : Process) (r2 : Objects)
        (acted : Acted (Some s) p r o p2 r2)
        (free : IsFree lib (world_value ps r) p.pid name) (free_beside : IsFree lib (world_blocked ps r blocked) p.pid name) where
      write_so : IsWrite ps (set ps place p2) p p2
      write_so = write_of p2 (same_pid p p2 r r2 o (Some s) acted)

      by_outcome : next_looks (AtCall name s) ≡ false → (is_blocking o ≡ false) ⊎ IsAsleep lib ps r r2 p p2 name o
          → HasLeft lib ps (set ps place p2) r r2 blocked blocked pid (item.Call pid name o)
      by_outcome plain (inl goes) =
          let lists : ListsLeft (left_all (set ps place p2) r2) (waits_by (next_for lib (process_value p)) (item.Call pid name o) r.waits) r.waits_made r r2 =
          rw next (lists_left (left_all (set ps place p2) r2) r r2 _ r.waits_made (ended_none write_so r2 o pid key (acted_over p p2 r r2 o s acted))
          (acted_lists p p2 r r2 pid o name (Some s) key plain acted)) in
          let done : IsDone lib ps (set ps place p2) r r2 p.pid name o =
          acted_done lib r2 turn.consistent write_so ready name o goes (Some s) plain next acted in
          acted_so (set ps place p2) p2 r2 (item.Call pid name o) write_so (still_unblocked p p2 r r2 o (Some s) acted goes unblocked) refl goes
          (ap next_looks next ∙ plain) done.consistent
          (rw (← key) (done.step free)) lists
          (λ did no. rw (← key) (call_beside lib ps (set ps place p2) r r2 blocked p.pid turn.sound (process_value p) write_so.there ready turn.are name o
          done.own free (ap next_looks next ∙ plain) goes (rw (← key) at lists) no))
      by_outcome plain (inr sleeps) = blocks_so name o p2 r2 write_so free sleeps

      by_looks : (next_looks (AtCall name s) ≡ true) ⊎ (next_looks (AtCall name s) ≡ false)
          → HasLeft lib ps (set ps place p2) r r2 blocked blocked pid (item.Call pid name o)
      by_looks (inl looks) =
          let is : Looks lib ps (set ps place p2) r r2 p name o = acted_looks lib r2 turn.consistent write_so ready name o (Some s) looks next acted in
          looks_so name o p2 r2 write_so (still_unblocked p p2 r r2 o (Some s) acted is.goes unblocked) free_beside is
      by_looks (inr plain) = by_outcome plain (acted_asleep lib r2 turn.consistent write_so ready name o (Some s) next acted)

      pub alone_so : HasLeft lib ps (set ps place p2) r r2 blocked blocked pid (item.Call pid name o)
      alone_so = by_looks (cases_Bool (next_looks (AtCall name s)))

    -- one local instruction, which changes the Cpu alone
    pub moves_so : (p2 : Process) → next_for lib (process_value p) ≡ Moves p2.cpu → p2 ≡ record p { cpu = p2.cpu }
        → HasActed lib ps (set ps place p2) r r blocked blocked pid (item.Run pid 1)
    unfolding on_process is_process
    moves_so p2 next cpu =
        let write : IsWrite ps (set ps place p2) p p2 = write_of p2 (ap (λ (q : Process). q.pid) cpu) in
        let keeps : IsConsistent (set ps place p2) r =
        refusal_keeps write r turn.consistent (ap (λ (q : Process). q.table) cpu) (ap (λ (q : Process). q.state) cpu) in
        by_acted p2 next cpu write keeps
        (left_beside lib ps (set ps place p2) r r pid (item.Run pid 1) blocked turn.sound (process_value p) there (rw there unblocked) turn.are refl refl
        (ap next_looks next)
        (record {
          process = process_value p;
          is_there = there;
          is_ready = ready;
          acted = world_value (set ps place p2) r;
          acts = rw next (
            refl,
            ap (λ (m : Map ProcessValue). record (world_value ps r) { processes = m })
                (rw (← key) (write.writes (λ q. record q { cpu = p2.cpu }) (ap process_value cpu))),
          );
          settles = subst (Settles (world_value (set ps place p2) r)) (all_live (set ps place p2) r keeps.processes_in_order (live p2 write cpu))
              (still_settles (set ps place p2) r keeps);
        })
        (rw next (record { waits = λ test there. refl; made = refl; asleep = (refl, refl) })))
      where
        by_acted : (p2 : Process) → next_for lib (process_value p) ≡ Moves p2.cpu → p2 ≡ record p { cpu = p2.cpu } → IsWrite ps (set ps place p2) p p2
            → IsConsistent (set ps place p2) r → IsActed lib (world_blocked ps r blocked) pid (item.Run pid 1) (world_left (set ps place p2) r blocked)
            → HasActed lib ps (set ps place p2) r r blocked blocked pid (item.Run pid 1)
        by_acted p2 next cpu write keeps did = record {
          consistent = keeps;
          fewer = λ test there. refl;
          asleep = (refl, refl);
          list = still_blocked write unblocked (ap (λ (q : Process). is_blocked (state_value q.state)) cpu ∙ unblocked) blocked turn.are;
          acts = record { pid_is = refl; acted = did };
          own = λ q at plain. plain_of lib ps (set ps place p2) r blocked pid (item.Run pid 1) _ did q at
              (ap (λ (y : ProcessValue). call_here (next_for lib y)) (same_Some q (process_value p) (sym at ∙ there)) ∙ ap call_here next)
              (free_written write (free_at (map free_entry ps))
              (λ goes. ap (λ (x : Process). x.table.free) cpu ∙ rw (write.free_there, ready) refl) (λ k apart. refl));
        }

        live : (p2 : Process) → IsWrite ps (set ps place p2) p p2 → p2 ≡ record p { cpu = p2.cpu } → (k : ℕ) (q : ProcessValue)
            → get (map process_entry (set ps place p2)) k ≡ Some q → IsTrue (lives q.state) → IsTrue (has_key r.objects k)
        live p2 write cpu k q at h =
            object_there ps r blocked turn.sound k (sym (alike_states write lives (ap (λ (x : Process). lives (state_value x.state)) cpu) r r k) ∙ rw at h)

    -- the end of a stuck process
    pub stops_so : (p2 : Process) (r2 : Objects) → next_for lib (process_value p) ≡ IsStuck → Ends STUCK p r p2 r2
        → HasLeft lib ps (set ps place p2) r r2 blocked blocked pid (item.Stuck pid)
    stops_so p2 r2 next ends =
        let write : IsWrite ps (set ps place p2) p p2 = write_of p2 (ap (λ (q : Process). q.pid) ends.process) in
        acted_so (set ps place p2) p2 r2 (item.Stuck pid) write (ap (λ (q : Process). is_blocked (state_value q.state)) ends.process) refl refl
        (ap next_looks next)
        (ends_keeps lib r2 turn.consistent write STUCK ends ready) (rw (← key) (stuck_steps lib r2 turn.consistent write STUCK ends ready refl next))
        (rw next (lists_left (left_all (set ps place p2) r2) r r2 r.waits r.waits_made (over_none write r2 ends.no_handle) ends.waits.keeps.listed))
        (λ did no. plain_of lib ps (set ps place p2) r blocked pid (item.Stuck pid) _ did (process_value p) there (ap call_here next)
        (over_free lib r2 turn.consistent write STUCK ends ready (free_at (map free_entry ps)) (λ k apart. refl)))
