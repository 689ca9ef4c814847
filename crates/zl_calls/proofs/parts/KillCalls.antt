-- The call task_kill, from what it did among all processes to the relation of steps, up to where processes wake.
use Rattle.zl_calls.proofs.Common.{ActsAndSettles, AreBlocked, AreLeft, AtCall, Bool, CallName, Calls, ClosesAllEnded, ClosesEnded, Cpu, DESTROY, Ended, Entry}
use Rattle.zl_calls.proofs.Common.{Free, FreeBy, IsConsistent, IsNamed, IsSound, IsTrue, KILLED, KillsTask, Library, List, ListsWithout, Map, None, Objects, Ok}
use Rattle.zl_calls.proofs.Common.{Option, Outcome, Reach, Process, ProcessValue, Ready, Releases, Settles, Site, Some, State, StateValue, Values, World, []}
use Rattle.zl_calls.proofs.Common.{all_given, all_killed, all_koids, ap, arith, cases_Bool, coming, count_by, cpu_answered, each, effect, ended, ended_within}
use Rattle.zl_calls.proofs.Common.{entered_free, eq-eqb, eqb-true, false, false≢true, filter, free_at, free_entry, get, get-each, get-update, gives_ok}
use Rattle.zl_calls.proofs.Common.{handle_operands, has_handle, if◌then◌else◌, in_order-each, inl, inr, insert_all, is_blocked, is_blocking, is_left_at_port}
use Rattle.zl_calls.proofs.Common.{is_over, is_sorted, is_sorted-update, is_within_here, kill_refusal, killing, listed, lives, lives_on, looked_up, map}
use Rattle.zl_calls.proofs.Common.{may_choose, nat_cmp, nat_tests, new_free, new_handles, next_for, none-some, not, object_at, object_entry, object_killed}
use Rattle.zl_calls.proofs.Common.{on_process, one_more, operands_fault, option_map, parts, plain_refusal, process_ended, process_entry, process_killed}
use Rattle.zl_calls.proofs.Common.{process_value, refl, refusal, releases_then, remove_all, replied, result_err, same_Some, settles_waiting, slice_get}
use Rattle.zl_calls.proofs.Common.{slice_set, state_passes, state_value, subst, suc, sum_by, sym, table_of, taken, taken_all, taken_handles, task_kill, times}
use Rattle.zl_calls.proofs.Common.{true, update, with_waiters, world_blocked, world_value, zero, ℕ, ℤ, ◌&&◌, ◌+◌, ◌<◌, ◌==◌, ◌^◌, ◌∙◌, ◌∷◌, ◌≡◌, ◌⊎◌}
use Rattle.zl_rights.specs.declared.kind.Kind.TheVariants as kind
use Rattle.zl_rights.specs.declared.status.Status.TheVariants as status
use Rattle.zl_code.specs.Calls.{ok_outcome}
use Rattle.zl_code.specs.Jobs.{is_within, with_killed}
use Rattle.zl_code.specs.declared.history.Outcome.TheVariants as outcome
use Rattle.zl_calls.specs.declared.process.State.TheVariants as state
use Rattle.zl_calls.specs.calls.Task.{none_left}
use Rattle.zl_code.specs.declared.history.TraceItem.TheVariants as item
use Rattle.zl_calls.proofs.waking.BlockedLists.{same_list, still_blocked}
use Rattle.zl_calls.proofs.objects.Counting.{sum_update, naming, numbered, numbered_naming}
use Rattle.zl_calls.proofs.processes.Departed.{handles_left, left_all, left_blocked, left_keeps, settled_world}
use Rattle.zl_calls.proofs.parts.KillWaits.{closes_none, is_dead, killed_keeps}
use Rattle.zl_calls.proofs.waits.LeftWaits.{ListsLeft, left_by, lists_left}
use Rattle.zl_calls.proofs.waking.Ordered.{left_filtered}
use Rattle.zl_calls.proofs.step.Performing.{HasLeft}
use Rattle.zl_calls.proofs.parts.KillSound.{all_noted, tables_from, AllTables, AreAllGone, gone_of, killed_sound, killed_with, numbered_all}
use Rattle.zl_calls.proofs.parts.KillSound.{numbered_sorted, in_tables, named_killed}
use Rattle.zl_calls.proofs.processes.Idle.{are_closed}
use Rattle.zl_calls.proofs.parts.KillWorlds.{blocked_left, objects_killed, processes_killed, same_within}
use Rattle.zl_calls.proofs.calls.Refused.{answers, is_found, first_looked_up}
use Rattle.zl_calls.proofs.objects.Settled.{IsSettled, settled}
use Rattle.zl_calls.proofs.parts.StartCalls.{writes_at}
use Rattle.zl_calls.proofs.calls.Answered.{IsWrite, asking}
use Rattle.zl_calls.proofs.calls.Owned.{IsOwn, own_in}
use Rattle.zl_calls.proofs.processes.Freed.{killed_free_by, own_free, set_free_by}
use Rattle.zl_calls.proofs.step.OwnDone.{call_own, own_so}
use Rattle.zl_calls.proofs.waits.LeftWaits.{left_same}
use Rattle.zl_calls.proofs.waking.Woken.{update_fixed}
use Rattle.zl_calls.proofs.lists.Positions.{times-filter}
use Rattle.zl_calls.proofs.parts.KillParts.{ends_pid}

-- ---- the answer

module _ (lib : Library) (w : World) (pid : ℕ) (entries : Map Entry) (table : table_of w pid ≡ entries) (task : ℕ) where
  pub kill_refused : plain_refusal lib w pid (task_kill task) ≡ answers (kill_refusal entries task)
  unfolding handle_operands operands_fault listed
  kill_refused =
      first_looked_up lib w pid entries table (task_kill task) (kill_refusal entries task) task (kind.Process ∷ kind.Job ∷ []) DESTROY None refl
      (λ s is. rw is refl) (λ e is at. rw is refl)

-- ---- what went

-- who is over keeps its koid, and its state while its handles close
one_stays : (q q2 : Process) (a b : Objects) → ClosesEnded q a q2 b → (q2.pid ≡ q.pid) × (q2.state ≡ q.state)
one_stays q _ a _ (lives_on _ _ alive) = (refl, refl)
one_stays q q2 a b (is_over _ _ _ _ dead same entries last drained ends) = (ap (λ (x : Process). x.pid) same, ap (λ (x : Process). x.state) same)

states_stay : (qs qs2 : List Process) (a b : Objects) → ClosesAllEnded qs a qs2 b → (test : StateValue → Bool) (k : ℕ)
    → state_passes test (get (map process_entry qs) k) ≡ state_passes test (get (map process_entry qs2) k)
unfolding get
states_stay _ _ a b (none_left _) test k = refl
states_stay _ _ a b (one_more q q2 qs qs2 _ mid _ one rest) test k =
    let same = one_stays q q2 a mid one in
    let later = states_stay qs qs2 mid b rest test k in
    split (q.pid == k) q (get (map process_entry qs) k)
    ∙ ((λ i. if sym same.0 i == k then test (state_value (sym same.1 i)) else later i)
    ∙ sym (split (q2.pid == k) q2 (get (map process_entry qs2) k)))
  where
    split : (c : Bool) (x : Process) (o : Option ProcessValue)
        → state_passes test (if c then Some (process_value x) else o) ≡ (if c then test (state_value x.state) else state_passes test o)
    split true x o = refl
    split false x o = refl

-- the process at a place stays there
place_stays : (f : Process → Process) → ((x : Process) → (f x).pid ≡ x.pid) → (ps qs qs2 : List Process) (a b : Objects) → qs ≡ map f ps
    → ClosesAllEnded qs a qs2 b → (n : ℕ) (p c : Process) → slice_get ps n ≡ Some p → slice_get qs2 n ≡ Some c → c.pid ≡ p.pid
place_stays f same [] qs qs2 a b is all n p c here at = absurd (none-some p here)
place_stays f same (x ∷ ps) qs qs2 a b is (none_left _) n p c here at = absurd cc
place_stays f same (x ∷ ps) _ _ a b is (one_more q q2 qs qs2 _ mid _ one rest) zero p c here at =
    let first : q ≡ f x = cc in
    ap (λ (y : Process). y.pid) (same_Some c q2 (sym at))
    ∙ ((one_stays q q2 a mid one).0 ∙ (ap (λ (y : Process). y.pid) first ∙ (same x ∙ ap (λ (y : Process). y.pid) (same_Some x p here))))
place_stays f same (x ∷ ps) _ _ a b is (one_more q q2 qs qs2 _ mid _ one rest) (suc n) p c here at =
    let others : qs ≡ map f ps = cc in
    place_stays f same ps qs qs2 mid b others rest n p c here at

module _ (ps : List Process) (r : Objects) (whole : IsConsistent ps r) (blocked : List ℕ) (sound : IsSound (world_blocked ps r blocked))
    (t : ℕ) (some : (t == 0) ≡ false) where
  abbrev within : ℕ → Bool
  within = is_within_here r.objects t

  module _ (all2 : Reach) (kills : KillsTask (parts ps r blocked) t all2) where
    abbrev ps2 : List Process
    ps2 = all2.processes

    abbrev r2 : Objects
    r2 = all2.objects

    -- what the definitions see of the processes
    pub seen_killed : map process_entry ps2 ≡ each (λ k. process_killed (is_within (map object_entry r.objects) t k)) (map process_entry ps)
    seen_killed = processes_killed ps ps2 r kills.between r2 t some (are_closed ps r blocked whole.processes_in_order sound) kills.closes

    all_named : AllTables (λ e. IsNamed (all_killed r.objects t) e) ps
    all_named = tables_from (λ e. IsNamed (all_killed r.objects t) e) ps whole.processes_in_order
        (λ k q at. ((whole.tables k q at).sorted, λ v e there. named_killed r.objects t e (whole.named k q v e at there)))

    gone : AreAllGone (λ e. IsNamed (all_killed r.objects t) e) ps ps2 kills.between r2
    gone = gone_of (λ e. IsNamed (all_killed r.objects t) e) r t ps ps2 kills.between r2 all_named kills.closes

    -- the list of processes may be this one instead, in which one has another Cpu
    module _ (ps3 : List Process) (cpus : ℕ → ProcessValue → Cpu)
        (got : (k : ℕ) → get (map process_entry ps3) k ≡ option_map (killed_with within cpus k) (get (map process_entry ps) k))
        (tables : (k : ℕ) → in_tables k ps3 ≡ in_tables k ps2) (sorted : IsTrue (is_sorted nat_cmp (map process_entry ps3))) where
      pub ends_settled : IsSettled ps3 (killing r t) r2
      ends_settled =
          settled ps3 (numbered 0 gone.gone) (killing r t)
          (killed_sound ps ps3 r whole t cpus got gone.gone (λ k. gone.fewer k ∙ ap (λ (n : ℕ). n + naming k gone.gone) (sym (tables k))) sorted)
          (numbered_sorted 0 gone.gone) (numbered_all (λ e. IsNamed (all_killed r.objects t) e) 0 gone.gone gone.passing)
          gone.koids (λ k. gone.counts k ∙ sym (numbered_naming k 0 gone.gone)) r2 total.cascades
          (total.keeps [] (all_noted r.objects t whole.kept.in_order)) total.koids
        where
          total : Releases gone.koids (all_koids r.objects) (killing r t) r2
          total = releases_then [] gone.koids (all_koids r.objects) (killing r t) kills.between r2 kills.marks gone.releases

    -- the whole world after the kill
    pub killed_world : AreBlocked ps blocked
        → ◌≡◌ {A = World} (with_waiters (world_value ps2 (killing r t)) r.waits r.waits_made all2.blocked) (with_killed (world_blocked ps r blocked) t)
    unfolding with_killed
    killed_world are = λ i. record (world_blocked ps r blocked) { processes = seen_killed i; objects = objects_killed r.objects t some i; blocked = list_is i }
      where
        list_is : all2.blocked ≡ filter (λ k. not (is_within (map object_entry r.objects) t k)) blocked
        list_is =
            kills.blocked ∙ ((λ i. filter (λ k. states_stay (map (ended_within r t) ps) ps2 kills.between r2 kills.closes is_blocked k i) blocked)
            ∙ blocked_left ps r blocked t ps2 are seen_killed)

    pub still_sorted : IsTrue (is_sorted nat_cmp (map process_entry ps2))
    still_sorted =
        rw seen_killed
        (rw (in_order-each (map process_entry ps) (λ k. process_killed (is_within (map object_entry r.objects) t k))) whole.processes_in_order)

    -- what stands at each koid
    pub got_killed : (k : ℕ) → get (map process_entry ps2) k ≡ option_map (process_killed (within k)) (get (map process_entry ps) k)
    got_killed k =
        ap (λ m. get m k) seen_killed ∙ (get-each (map process_entry ps) (λ j. process_killed (is_within (map object_entry r.objects) t j)) k
        ∙ ap (λ (b : Bool). option_map (process_killed b) (get (map process_entry ps) k)) (same_within r.objects t some k))

-- ---- the end of a step

module _ (lib : Library) (ps : List Process) (r : Objects) (blocked : List ℕ) (sound : IsSound (world_blocked ps r blocked)) (p : Process)
    (there : get (map process_entry ps) p.pid ≡ Some (process_value p)) (ready : state_value p.state ≡ Ready) (name : CallName) (s : Site)
    (next : next_for lib (process_value p) ≡ AtCall name s) where
  -- a call behind which this is left, in the midst of all that waits
  pub leaves_so : (after : List Process) (r1 r2 : Objects) (blocked2 : List ℕ) (o : Outcome) → is_blocking o ≡ false → IsSettled after r1 r2
      → AreBlocked after blocked2 → AreLeft blocked blocked2
      → (calls : Calls lib (world_blocked ps r blocked) p.pid s o (with_waiters (world_value after r1) r.waits r.waits_made blocked2))
      → IsOwn ps after r p.pid s.request calls.0 → ListsLeft (left_all after r2) r.waits r.waits_made r r2
      → HasLeft lib ps after r r2 blocked blocked2 p.pid (item.Call p.pid name o)
  leaves_so after r1 r2 blocked2 o goes left list fewer calls own lists =
      let settles = settles_waiting (world_value after r1) (settled_world after r2) left.settles r.waits r.waits_made blocked2 in
      let steps : ActsAndSettles lib (world_blocked ps r blocked) p.pid (item.Call p.pid name o)
      (with_waiters (settled_world after r2) (filter (is_left_at_port (settled_world after r2)) r.waits) r.waits_made blocked2)
      = record {
        process = process_value p;
        is_there = there;
        is_ready = ready;
        acted = with_waiters (world_value after r1) r.waits r.waits_made blocked2;
        acts = rw next (o, refl, calls);
        settles = settles;
      } in
      let same = left_same lib ps (left_all after r2) r r2 p.pid (item.Call p.pid name o) blocked sound r.waits r.waits_made blocked2 steps lists in record {
        fewer = fewer;
        asleep = lists.asleep;
        consistent = left_keeps after r2 left.consistent;
        list = rw (same_list p.pid (item.Call p.pid name o) blocked2 goes) (left_blocked after r2 blocked2 list);
        acts = record {
          pid_is = refl;
          acted = rw (same_list p.pid (item.Call p.pid name o) blocked2 goes)
              (left_by lib ps (left_all after r2) r r2 p.pid (item.Call p.pid name o) blocked sound r.waits r.waits_made blocked2 steps lists);
        };
        own = λ q at plain. rw (same_list p.pid (item.Call p.pid name o) blocked2 goes)
            (own_so lib ps after r r2 blocked p.pid p (item.Call p.pid name o) _ there (rw next
            (call_own lib ps after r blocked p.pid name s o _ _ calls.0 calls.1 own (subst (Settles _) same settles) plain)) q at);
      }

-- ---- task_kill

-- whom a test leaves out anyway needs no test of its own
filter_still : (test : ℕ → Bool) (p : ℕ) → test p ≡ false → (xs : List ℕ) → filter (λ q. not (q == p)) (filter test xs) ≡ filter test xs
filter_still test p out [] = refl
filter_still test p out (x ∷ xs) = elim (cases_Bool (test x)) as (λ _. filter (λ q. not (q == p)) (filter test (x ∷ xs)) ≡ filter test (x ∷ xs)) [
  | inr fails ↦ rw fails (filter_still test p out xs)
  | inl passes ↦ elim (cases_Bool (x == p)) as (λ _. filter (λ q. not (q == p)) (filter test (x ∷ xs)) ≡ filter test (x ∷ xs)) [
    | inl here ↦ absurd (false≢true (sym out ∙ (ap test (sym (eqb-true x p here)) ∙ passes)))
    | inr apart ↦ rw (passes, apart) (ap (λ ys. x ∷ ys) (filter_still test p out xs))
  ]
]

-- a kill leaves the Cpu of a process
cpu_stays : (within : Bool) (q : ProcessValue) → process_killed within q ≡ record (process_killed within q) { cpu = q.cpu }
cpu_stays false q = refl
cpu_stays true q = by_life (lives q.state)
  where
    by_life : (alive : Bool) → (if alive then record q { state = Ended KILLED; handles = []; last = None } else q)
        ≡ record (if alive then record q { state = Ended KILLED; handles = []; last = None } else q) { cpu = q.cpu }
    by_life true = refl
    by_life false = refl

is_ended : StateValue → Bool
is_ended (Ended code) = true
is_ended _ = false

-- the code with which one has ended
code_in : StateValue → ℤ
code_in (Ended code) = code
code_in _ = KILLED

-- who is over for the definitions is over
over_so : (x : State) (code : ℤ) → state_value x ≡ Ended code → x ≡ state.Ended code
unfolding is_ended code_in
over_so (state.Ended c) code is = ap (λ (s : StateValue). state.Ended (code_in s)) is
over_so _ code is = absurd (false≢true (ap is_ended is))

-- who is blocked after a kill was blocked before
was_blocked : (within : Bool) (q : ProcessValue) → IsTrue (is_blocked (process_killed within q).state) → process_killed within q ≡ q
was_blocked false q h = refl
was_blocked true q h = elim (cases_Bool (lives q.state)) as (λ _. process_killed true q ≡ q) [
  | inl alive ↦
      absurd (false≢true (ap (λ (b : Bool). is_blocked (if b then record q { state = Ended KILLED; handles = []; last = None } else q).state) (sym alive) ∙ h))
  | inr dead ↦ rw dead refl
]

module _ (lib : Library) (ps : List Process) (r : Objects) (whole : IsConsistent ps r) (blocked : List ℕ) (are : AreBlocked ps blocked)
    (sound : IsSound (world_blocked ps r blocked)) (place : ℕ) (p : Process)
    (here : slice_get ps place ≡ Some p) (there : get (map process_entry ps) p.pid ≡ Some (process_value p)) (ready : state_value p.state ≡ Ready)
    (name : CallName) (task : ℕ) (base : Site)
    (next : next_for lib (process_value p) ≡ AtCall name (asking (task_kill task) base))
    (free : refusal lib (world_blocked ps r blocked) p.pid (task_kill task) ≡ plain_refusal lib (world_blocked ps r blocked) p.pid (task_kill task)) where
  abbrev w : World
  w = world_blocked ps r blocked

  abbrev kill_site : Site
  kill_site = asking (task_kill task) base

  module _ (all2 : Reach) (named : Entry) (is_named : looked_up p.table.entries task (kind.Process ∷ kind.Job ∷ []) DESTROY ≡ Ok named)
      (kills : KillsTask (parts ps r blocked) named.koid all2) where
    abbrev t : ℕ
    t = named.koid

    -- what a handle names isn't 0
    given : (t == 0) ≡ false
    given =
        let found : get p.table.entries task ≡ Some named = is_found (get p.table.entries task) (kind.Process ∷ kind.Job ∷ []) DESTROY named is_named in
        let names : IsNamed r.objects named = whole.named p.pid (process_value p) task named there found in
        let above : 0 < t = whole.no_zero t (rw names.there refl) in
        grind (arith, nat_tests, above)

    passes : refusal lib w p.pid (task_kill task) ≡ None
    passes = free ∙ (kill_refused lib w p.pid p.table.entries (rw there refl) task ∙ ap (λ x. answers (result_err x)) is_named)

    names_it : object_at w p.pid task ≡ t
    names_it = rw (there, is_found (get p.table.entries task) (kind.Process ∷ kind.Job ∷ []) DESTROY named is_named) refl

    after_it : ◌≡◌ {A = World} (with_waiters (world_value all2.processes (killing r t)) r.waits r.waits_made all2.blocked) (with_killed w t)
    after_it = killed_world ps r whole blocked sound t given all2 kills are

    blocked_after : AreBlocked all2.processes all2.blocked
    blocked_after = record {
      once =
          λ k. ap (times k) (kills.blocked
          ∙ (λ i. filter (λ j. states_stay (map (ended_within r t) ps) all2.processes kills.between all2.objects kills.closes is_blocked j i) blocked))
          ∙ (times-filter (λ j. state_passes is_blocked (get (map process_entry all2.processes) j)) k blocked
          ∙ by_state k (get (map process_entry ps) k) refl);
      counters = λ k q at h. by_process k (get (map process_entry ps) k) refl q (sym (got_killed ps r whole blocked sound t given all2 kills k) ∙ at) h;
    }
      where
        by_state : (k : ℕ) (o : Option ProcessValue) → get (map process_entry ps) k ≡ o
            → (if state_passes is_blocked (get (map process_entry all2.processes) k) then times k blocked else 0)
            ≡ (if state_passes is_blocked (get (map process_entry all2.processes) k) then 1 else 0)
        by_state k None at = rw (got_killed ps r whole blocked sound t given all2 kills k, at) refl
        by_state k (Some q) at =
            elim (cases_Bool (is_blocked (process_killed (is_within_here r.objects t k) q).state))
            as (λ _. (if state_passes is_blocked (get (map process_entry all2.processes) k) then times k blocked else 0)
            ≡ (if state_passes is_blocked (get (map process_entry all2.processes) k) then 1 else 0)) [
              | inl waits ↦
                  let still : is_blocked q.state ≡ true =
                  ap (λ (x : ProcessValue). is_blocked x.state) (sym (was_blocked (is_within_here r.objects t k) q waits)) ∙ waits in
                  rw (got_killed ps r whole blocked sound t given all2 kills k, at, waits) (are.once k ∙ rw (at, still) refl)
              | inr goes ↦ rw (got_killed ps r whole blocked sound t given all2 kills k, at, goes) refl
            ]

        by_process : (k : ℕ) (o : Option ProcessValue) → get (map process_entry ps) k ≡ o → (q : ProcessValue)
            → option_map (process_killed (is_within_here r.objects t k)) o ≡ Some q → IsTrue (is_blocked q.state) → q.cpu.counter < 2 ^ 32
        by_process k None at q is h = absurd (none-some q is)
        by_process k (Some x) at q is h =
            let became : process_killed (is_within_here r.objects t k) x ≡ q = same_Some (process_killed (is_within_here r.objects t k) x) q is in
            let same : x ≡ q = sym (was_blocked (is_within_here r.objects t k) x (ap (λ (y : ProcessValue). is_blocked y.state) became ∙ h)) ∙ became in
            are.counters k q (at ∙ ap Some same) h

    fewer_blocked : AreLeft blocked all2.blocked
    fewer_blocked = rw kills.blocked (left_filtered _ blocked)

    lists : ListsWithout (is_dead (map (ended_within r t) ps)) r.waits r.waits_made r all2.objects
    lists = (killed_keeps ps r whole.processes_in_order blocked t all2 kills).listed

    -- who is dead has no handle
    dead_none : (k v : ℕ) → IsTrue (is_dead (map (ended_within r t) ps) k) → has_handle (get (map process_entry all2.processes) k) v ≡ false
    dead_none = closes_none (map (ended_within r t) ps) all2.processes kills.between all2.objects kills.closes

    -- the caller is among the killed, or it isn't
    abbrev dies : Bool
    dies = is_within_here r.objects t p.pid

    stands : get (map process_entry all2.processes) p.pid ≡ Some (process_killed dies (process_value p))
    stands = got_killed ps r whole blocked sound t given all2 kills p.pid ∙ rw there refl

    abbrev within_value : ℕ → Bool
    within_value k = is_within (map object_entry r.objects) t k

    -- what is seen of the process at the place
    at_place : (c : Process) → slice_get all2.processes place ≡ Some c → (c.pid ≡ p.pid) × (process_value c ≡ process_killed dies (process_value p))
    at_place c at =
        let same : c.pid ≡ p.pid =
        place_stays (ended_within r t) (λ x. ends_pid (lives (state_value x.state) && is_within_here r.objects t x.pid) x) ps
        (map (ended_within r t) ps) all2.processes kills.between all2.objects refl kills.closes place p c here at in
        let write : IsWrite all2.processes (slice_set all2.processes place c) c c =
        writes_at all2.processes place c c (still_sorted ps r whole blocked sound t given all2 kills) at refl in (
          same,
          same_Some (process_value c) (process_killed dies (process_value p))
              (sym (subst (λ (k : ℕ). get (map process_entry all2.processes) k ≡ Some (process_value c)) same write.there) ∙ stands),
        )

    kill_chosen : IsTrue (may_choose w (taken w p.pid kill_site) p.pid (task_kill task) [])
    unfolding may_choose new_handles remove_all taken_handles handle_operands
    kill_chosen = rw there refl

    killed_ends : dies ≡ true → outcome.Ended KILLED ≡ ok_outcome w p.pid (task_kill task)
    killed_ends among = rw (names_it, same_within r.objects t given p.pid, among) refl

    killed_lives : dies ≡ false → outcome.Answered status.Ok ≡ ok_outcome w p.pid (task_kill task)
    killed_lives apart = rw (names_it, same_within r.objects t given p.pid, apart) refl

    -- who is among the killed has no more to lose
    ended_still : dies ≡ true → ◌≡◌ {A = World} (ended (with_killed w t) p.pid KILLED) (with_killed w t)
    unfolding with_killed ended on_process
    ended_still among = λ i. record w {
      processes = update_fixed (each (λ k. process_killed (within_value k)) w.processes) p.pid (process_ended KILLED)
          (λ x at. no_more x (sym (get-each w.processes (λ k. process_killed (within_value k)) p.pid ∙ rw there refl) ∙ at)) i;
      objects = each (λ k. object_killed (within_value k)) w.objects;
      blocked = filter_still (λ k. not (within_value k)) p.pid (ap not (same_within r.objects t given p.pid ∙ among)) blocked i;
    }
      where
        no_more : (x : ProcessValue) → Some (process_killed (within_value p.pid) (process_value p)) ≡ Some x → process_ended KILLED x ≡ x
        no_more x is =
            let became : process_killed true (process_value p) ≡ x = subst (λ (b : Bool). process_killed b (process_value p) ≡ x)
            (same_within r.objects t given p.pid ∙ among) (same_Some (process_killed (within_value p.pid) (process_value p)) x is) in
            subst (λ (y : ProcessValue). process_ended KILLED y ≡ y) became (rw ready refl)

    -- who lives keeps the values
    kills_own : (after : List Process) → ((f : ℕ → Free) → FreeBy all2.processes f → FreeBy after f) → IsOwn ps after r p.pid (task_kill task) (Values [])
    unfolding new_handles taken_handles handle_operands taken_all coming all_given
    kills_own after stays = (
      refl,
      stays _ (killed_free_by r kills.between all2.objects t ps all2.processes kills.closes _
          (λ k. own_free ps k ∙ ap (λ (x : Free). option_map (λ q. if lives q.state then x else new_free) (get (map process_entry ps) k))
          (unchanged k (cases_Bool (p.pid == k))))),
    )
      where
        unchanged : (k : ℕ) → (IsTrue (p.pid == k)) ⊎ ((p.pid == k) ≡ false)
            → free_at (map free_entry ps) k ≡ entered_free (own_in ps r) p.pid (task_kill task) k
        unchanged k (inl here_too) = rw (here_too, there) (ap (free_at (map free_entry ps)) (sym (eqb-true p.pid k here_too)))
        unchanged k (inr other) = rw other refl

    killed_calls : dies ≡ true
        → (c : Calls lib w p.pid kill_site (outcome.Ended KILLED)
        (with_waiters (world_value all2.processes (killing r t)) r.waits r.waits_made all2.blocked))
        × IsOwn ps all2.processes r p.pid (task_kill task) c.0
    unfolding effect gives_ok new_handles taken_handles handle_operands remove_all insert_all
    killed_calls among = (
      (Values [], rw passes (kill_chosen, killed_ends among, after_it ∙ (sym (ended_still among) ∙ rw (← killed_ends among, names_it) refl))),
      kills_own all2.processes (λ f by. by),
    )

    -- all has settled, though one goes on computing with another Cpu
    killed_got : (cpus : ℕ → ProcessValue → Cpu) (k : ℕ) → ((q : ProcessValue) → get (map process_entry ps) k ≡ Some q → cpus k q ≡ q.cpu)
        → get (map process_entry all2.processes) k ≡ option_map (killed_with (is_within_here r.objects t) cpus k) (get (map process_entry ps) k)
    killed_got cpus k same = got_killed ps r whole blocked sound t given all2 kills k ∙ by_process (get (map process_entry ps) k) refl
      where
        by_process : (o : Option ProcessValue) → get (map process_entry ps) k ≡ o
            → option_map (process_killed (is_within_here r.objects t k)) o ≡ option_map (killed_with (is_within_here r.objects t) cpus k) o
        by_process None at = refl
        by_process (Some q) at =
            ap Some (cpu_stays (is_within_here r.objects t k) q ∙ (λ i. record (process_killed (is_within_here r.objects t k) q) { cpu = sym (same q at) i }))

    pub dies_so : (c : Process) (code : ℤ) → slice_get all2.processes place ≡ Some c → c.state ≡ state.Ended code
        → HasLeft lib ps all2.processes r all2.objects blocked all2.blocked p.pid (item.Call p.pid name (outcome.Ended code))
    unfolding is_ended code_in
    dies_so c code at over =
        elim (cases_Bool dies) as (λ _. HasLeft lib ps all2.processes r all2.objects blocked all2.blocked p.pid (item.Call p.pid name (outcome.Ended code))) [
          | inl among ↦
              let is : code ≡ KILLED = the_code among in
              subst (λ (x : ℤ). HasLeft lib ps all2.processes r all2.objects blocked all2.blocked p.pid (item.Call p.pid name (outcome.Ended x))) (sym is)
              (leaves_so lib ps r blocked sound p there ready name kill_site next all2.processes (killing r t) all2.objects all2.blocked
              (outcome.Ended KILLED) refl
              (ends_settled ps r whole blocked sound t given all2 kills all2.processes (λ k q. q.cpu) (λ k. killed_got (λ j q. q.cpu) k (λ q there_too. refl))
              (λ k. refl) (still_sorted ps r whole blocked sound t given all2 kills))
              blocked_after fewer_blocked (killed_calls among).0 (killed_calls among).1
              (lists_left (left_all all2.processes all2.objects) r all2.objects r.waits r.waits_made
              (λ k v dead. handles_left all2.processes all2.objects k v ∙ dead_none k v dead) lists))
          | inr apart ↦ absurd (not_over apart)
        ]
      where
        state_is : state_value c.state ≡ Ended code
        state_is = ap state_value over

        the_code : dies ≡ true → code ≡ KILLED
        the_code among =
            let killed : (process_killed dies (process_value p)).state ≡ Ended KILLED = rw (among, ready) refl in
            ap code_in (sym state_is ∙ (ap (λ (x : ProcessValue). x.state) (at_place c at).1 ∙ killed))

        not_over : dies ≡ false → ⊥
        not_over apart =
            false≢true (ap is_ended (sym ready ∙ (ap (λ (b : Bool). (process_killed b (process_value p)).state) (sym apart)
            ∙ (ap (λ (x : ProcessValue). x.state) (sym (at_place c at).1) ∙ state_is))))

    module _ (c : Process) (at : slice_get all2.processes place ≡ Some c) (apart : dies ≡ false) where
      abbrev answered_caller : Process
      answered_caller = record c { cpu = cpu_answered kill_site status.Ok [] c.cpu }

      abbrev after : List Process
      after = slice_set all2.processes place answered_caller

      same_pid : c.pid ≡ p.pid
      same_pid = (at_place c at).0

      same_value : process_value c ≡ process_value p
      same_value = (at_place c at).1 ∙ ap (λ (b : Bool). process_killed b (process_value p)) apart

      abbrev with_answer : ProcessValue → ProcessValue
      with_answer q = record q { cpu = cpu_answered kill_site status.Ok [] q.cpu }

      write : IsWrite all2.processes after c answered_caller
      write = writes_at all2.processes place c answered_caller (still_sorted ps r whole blocked sound t given all2 kills) at refl

      written : map process_entry after ≡ update (map process_entry all2.processes) p.pid with_answer
      written = write.writes with_answer refl ∙ ap (λ (k : ℕ). update (map process_entry all2.processes) k with_answer) same_pid

      abbrev cpus : ℕ → ProcessValue → Cpu
      cpus k q = if p.pid == k then cpu_answered kill_site status.Ok [] q.cpu else q.cpu

      after_got : (k : ℕ) → get (map process_entry after) k ≡ option_map (killed_with (is_within_here r.objects t) cpus k) (get (map process_entry ps) k)
      after_got k = ap (λ m. get m k) written ∙ (get-update (map process_entry all2.processes) p.pid with_answer k ∙ by_key (cases_Bool (p.pid == k)))
        where
          by_key : (IsTrue (p.pid == k)) ⊎ ((p.pid == k) ≡ false)
              → (if p.pid == k then option_map with_answer (get (map process_entry all2.processes) k) else get (map process_entry all2.processes) k)
              ≡ option_map (killed_with (is_within_here r.objects t) cpus k) (get (map process_entry ps) k)
          by_key (inl here_too) = rw (here_too, ← eqb-true p.pid k here_too, stands, there, apart, eq-eqb p.pid p.pid refl) refl
          by_key (inr other) =
              (λ i. if other i then option_map with_answer (get (map process_entry all2.processes) k) else get (map process_entry all2.processes) k)
              ∙ killed_got cpus k (λ q found. rw other refl)

      after_tables : (k : ℕ) → in_tables k after ≡ in_tables k all2.processes
      after_tables k =
          let n : ℕ × ProcessValue → ℕ = λ q. count_by (λ (h : ℕ × Entry). h.1.koid == k) q.1.handles in
          let kept : sum_by n (update (map process_entry all2.processes) p.pid with_answer) ≡ sum_by n (map process_entry all2.processes) + 0 =
          sum_update n (map process_entry all2.processes) p.pid 0 (process_killed dies (process_value p)) with_answer stands (omega arith) in
          ap (sum_by n) written ∙ omega (arith, kept)

      after_sorted : IsTrue (is_sorted nat_cmp (map process_entry after))
      after_sorted = rw (written, is_sorted-update (map process_entry all2.processes) p.pid with_answer)
          (still_sorted ps r whole blocked sound t given all2 kills)

      answered_calls : (c : Calls lib w p.pid kill_site (outcome.Answered status.Ok)
          (with_waiters (world_value after (killing r t)) r.waits r.waits_made all2.blocked)) × IsOwn ps after r p.pid (task_kill task) c.0
      unfolding effect gives_ok new_handles taken_handles handle_operands remove_all insert_all replied on_process
      answered_calls = (
        (Values [], rw passes (kill_chosen, killed_lives apart, answered_world ∙ rw (← killed_lives apart, names_it) refl)),
        kills_own after (set_free_by all2.processes place c answered_caller at (refl, λ f same. same)),
      )
        where
          answered_world : ◌≡◌ {A = World} (with_waiters (world_value after (killing r t)) r.waits r.waits_made all2.blocked)
              (replied (with_killed w t) p.pid kill_site status.Ok [])
          answered_world =
              (λ i. record (with_waiters (world_value all2.processes (killing r t)) r.waits r.waits_made all2.blocked) { processes = written i })
              ∙ ap (λ (x : World). replied x p.pid kill_site status.Ok []) after_it

      same_handles : (k v : ℕ) → has_handle (get (map process_entry after) k) v ≡ has_handle (get (map process_entry all2.processes) k) v
      same_handles k v = rw (written, get-update (map process_entry all2.processes) p.pid with_answer k)
          (by_key (p.pid == k) (get (map process_entry all2.processes) k))
        where
          by_key : (b : Bool) (o : Option ProcessValue) → has_handle (if b then option_map with_answer o else o) v ≡ has_handle o v
          by_key false o = refl
          by_key true None = refl
          by_key true (Some q) = refl

      not_blocked : is_blocked (state_value c.state) ≡ false
      not_blocked = ap (λ (x : ProcessValue). is_blocked x.state) same_value ∙ rw ready refl

      pub answered_so : HasLeft lib ps after r all2.objects blocked all2.blocked p.pid (item.Call p.pid name (outcome.Answered status.Ok))
      answered_so =
          leaves_so lib ps r blocked sound p there ready name kill_site next after (killing r t) all2.objects all2.blocked (outcome.Answered status.Ok) refl
          (ends_settled ps r whole blocked sound t given all2 kills after cpus after_got after_tables after_sorted)
          (still_blocked write not_blocked not_blocked all2.blocked blocked_after) fewer_blocked answered_calls.0 answered_calls.1
          (lists_left (left_all after all2.objects) r all2.objects r.waits r.waits_made
          (λ k v dead. handles_left after all2.objects k v ∙ (same_handles k v ∙ dead_none k v dead)) lists)

    pub lives_so : (c : Process) → slice_get all2.processes place ≡ Some c → ((code : ℤ) → c.state ≡ state.Ended code → ⊥)
        → HasLeft lib ps (slice_set all2.processes place (record c { cpu = cpu_answered kill_site status.Ok [] c.cpu })) r all2.objects
        blocked all2.blocked p.pid
        (item.Call p.pid name (outcome.Answered status.Ok))
    lives_so c at alive =
        elim (cases_Bool dies) as (λ _. HasLeft lib ps (slice_set all2.processes place (record c { cpu = cpu_answered kill_site status.Ok [] c.cpu })) r
        all2.objects blocked all2.blocked p.pid (item.Call p.pid name (outcome.Answered status.Ok))) [
          | inl among ↦ absurd (alive KILLED (over_so c.state KILLED (ap (λ (x : ProcessValue). x.state) (at_place c at).1 ∙ rw (among, ready) refl)))
          | inr apart ↦ answered_so c at apart
        ]
