-- A blocked process wakes, or stays blocked: the world afterwards, its invariant, and the list.
use Rattle.zl_calls.proofs.Common.{Agrees, Blocked, Body, Bool, IsConsistent, IsTrue, KeepSleepers, List, Map, None, Object, ObjectValue, Objects, Option}
use Rattle.zl_calls.proofs.Common.{Packet, PacketAt, PortBody, Process, ProcessValue, Ready, SignalOf, Some, StateValue, WakesOne, [], answered, ap, at_port}
use Rattle.zl_calls.proofs.Common.{awake, body_packed, body_value, cases_Bool, changed_port, changing_port, destinations_of, drop, eqb-true, false, false≢true}
use Rattle.zl_calls.proofs.Common.{filter, get, get-put, get-update, get_or, get_seen, given_awake, has_ended, held, if◌then◌else◌, inl, inr, is_blocked}
use Rattle.zl_calls.proofs.Common.{is_process, is_some, is_sorted, is_sorted-update, lives, made_ready, map, meets, nat_cmp, not, object_entry, object_value}
use Rattle.zl_calls.proofs.Common.{option_map, packet_taken, packet_values, packets_found, packets_of, passes, position, process_entry, process_value, put}
use Rattle.zl_calls.proofs.Common.{refl, runs, same_map, set, signals_at, slice_get, sorted_put, state_value, sym, then_some, true, update, without_front}
use Rattle.zl_calls.proofs.Common.{without_taken, woken, woken_at_port, woken_by, woken_from, world_blocked, world_value, ℕ, ◌==◌, ◌∙◌, ◌∷◌, ◌≡◌, ◌⊎◌}
use Rattle.zl_code.proofs.Common.{Body as BodyValue}
use Rattle.zl_objects.specs.declared.object.Body.TheVariants as body
use Rattle.zl_calls.specs.declared.process.State.TheVariants as state
use Rattle.zl_calls.proofs.calls.Answered.{IsWrite}
use Rattle.zl_calls.proofs.waking.BlockedLists.{one_awake}
use Rattle.zl_calls.proofs.objects.Packed.{packed_consistent}
use Rattle.zl_calls.proofs.objects.SameBodies.{alike_agrees}
use Rattle.zl_calls.proofs.lists.Updates.{sorted_seen, update_itself, update_seen}
use Rattle.zl_calls.proofs.processes.Freed.{set_unseen}
use Rattle.zl_calls.proofs.processes.Written.{after_is, alike_states, keeps_table, pid_read, refusal_keeps, write_at}
use Rattle.zl_calls.proofs.waking.Quiet.{active_there}

-- a value that is put in the place of another
pub put_there : {X : Type 0} (m : Map X) (k : ℕ) (x : X) (f : X → X) → IsTrue (is_sorted nat_cmp m) → get m k ≡ Some x → update m k f ≡ put m k (f x)
put_there {X} m k x f sorted there =
    same_map (update m k f) (put m k (f x)) (passes _ (is_sorted-update m k f ∙ sorted)) (passes _ (sorted_put m k (f x) sorted))
    (λ j. get-update m k f j ∙ (by_key j (cases_Bool (k == j)) ∙ sym (get-put m k (f x) j)))
  where
    by_key : (j : ℕ) → IsTrue (k == j) ⊎ ((k == j) ≡ false) → (if k == j then option_map f (get m j) else get m j) ≡ (if k == j then Some (f x) else get m j)
    by_key j (inl here) = rw (here, ← eqb-true k j here, there) refl
    by_key j (inr apart) = rw apart refl

-- a change that leaves the one value as it is
pub update_fixed : {X : Type 0} (m : Map X) (k : ℕ) (f : X → X) → ((x : X) → get m k ≡ Some x → f x ≡ x) → update m k f ≡ m
unfolding get update
update_fixed [] k f fixed = refl
update_fixed {X} (e ∷ m) k f fixed = elim (cases_Bool (e.0 == k)) as (λ _. update (e ∷ m) k f ≡ e ∷ m) [
  | inl here ↦ rw here (λ i. (sym (eqb-true e.0 k here) i, fixed e.1 (rw here refl) i) ∷ m)
  | inr apart ↦ rw apart (ap (λ (rest : Map X). e ∷ rest) (update_fixed m k f (λ x at. fixed x (rw apart at))))
]

-- what is seen of an object without its first packet
seen_taken : (o : Object) (b : Body) → o.body ≡ b → object_value (at_port without_front o) ≡ packet_taken (object_value o)
seen_taken o (body.Port q) is = rw is refl
seen_taken o _ is = rw is refl

nil-cons : {x : Packet} {xs : List Packet} → [] ≡ x ∷ xs → ⊥
nil-cons e = cc

-- a state that wakes passes the same tests of life as before
lives_on : (s : StateValue) → is_blocked s ≡ true → (runs s ≡ true) × (lives s ≡ true) × (has_ended s ≡ false)
lives_on (Blocked awaited ds) h = (refl, refl, refl)
lives_on _ h = absurd (false≢true h)

-- the process p stands at the place, under the pid
module _ (ps : List Process) (r : Objects) (consistent : IsConsistent ps r) (pid place : ℕ) (p : Process)
    (found : Some place ≡ position (λ q. q.pid == pid) ps) (read : p ≡ get_or ps place p) where
  key : p.pid ≡ pid
  key = pid_read ps pid place p found read

  there : get (map process_entry ps) pid ≡ Some (process_value p)
  there = rw (← key) ((write_at ps pid place p p found read refl).there)

  woken_is : (blocked : List ℕ) → woken (world_blocked ps r blocked) pid ≡ woken_from (world_blocked ps r blocked) pid (process_value p) (state_value p.state)
  unfolding woken
  woken_is blocked = rw there refl

  module _ (p2 : Process) (r2 : Objects) (same_pid : p2.pid ≡ p.pid) where
    abbrev after : List Process
    after = set ps place p2

    write : IsWrite ps after p p2
    write = write_at ps pid place p p2 found read same_pid

    same_held : held p2 ≡ held p → map held after ≡ map held ps
    same_held = set_unseen held ps place p p2 read

    -- ---- it stays blocked, or wasn't

    module _ (same : p2 ≡ p) (same_objects : r2 ≡ r) (asleep : (blocked : List ℕ) → woken (world_blocked ps r blocked) pid ≡ world_blocked ps r blocked) where
      same_entries : map process_entry after ≡ map process_entry ps
      same_entries = write.writes (λ q. q) (ap process_value same) ∙ update_itself (map process_entry ps) p.pid

      stays_asleep : WakesOne pid false ps r after r2
      stays_asleep = record {
        world = λ blocked.
            rw same_objects (ap (λ (m : Map ProcessValue). record (world_blocked ps r blocked) { processes = m }) same_entries ∙ sym (asleep blocked));
        list = λ blocked are. record { once = λ k. rw same_entries (are.once k); counters = λ k q at h. are.counters k q (rw same_entries at at) h };
        consistent = rw same_objects (refusal_keeps write r consistent (ap (λ (q : Process). q.table) same) (ap (λ (q : Process). q.state) same));
        held = same_held (ap held same);
      }

    -- ---- it becomes ready

    module _ (ds values : List ℕ) (is : p2 ≡ record p { state = state.Ready; cpu = answered p.cpu ds (0 ∷ values) })
        (was : is_blocked (state_value p.state) ≡ true)
        (still : IsConsistent ps r2) (wakes_so : (blocked : List ℕ)
        → woken (world_blocked ps r blocked) pid ≡ made_ready (world_blocked ps r2 blocked) pid (process_value p) ds (0 ∷ values)) where
      ready_entries : map process_entry after ≡ put (map process_entry ps) pid (process_value p2)
      ready_entries = rw (← key)
          (after_is write ∙ put_there (map process_entry ps) p.pid (process_value p) (λ _. process_value p2) consistent.processes_in_order write.there)

      tests_alike : (test : StateValue → Bool) → test (state_value p.state) ≡ test Ready → (k : ℕ)
          → is_process (world_value after r2) test k ≡ is_process (world_value ps r2) test k
      tests_alike test alike k = alike_states write test (ap (λ (q : Process). test (state_value q.state)) is ∙ sym alike) r2 r2 k

      agrees_on : (k : ℕ) (b : Body) → Agrees (world_value ps r2) k b → Agrees (world_value after r2) k b
      agrees_on k b = alike_agrees (world_value ps r2) (world_value after r2) k b
          (tests_alike runs ((lives_on (state_value p.state) was).0) k) (tests_alike lives ((lives_on (state_value p.state) was).1) k)
          (tests_alike has_ended ((lives_on (state_value p.state) was).2) k)

      gets_awake : WakesOne pid true ps r after r2
      unfolding made_ready
      gets_awake = record {
        world = λ blocked. ap (λ (m : Map ProcessValue). record (world_blocked ps r2 (filter (λ q. not (q == pid)) blocked)) { processes = m })
            (ready_entries ∙ ap (λ (q : Process). put (map process_entry ps) pid (process_value q)) is) ∙ sym (wakes_so blocked);
        list = λ blocked are. rw (← key) (one_awake write (ap (λ (q : Process). is_blocked (state_value q.state)) is) blocked are);
        consistent = keeps_table write r2 still agrees_on (ap (λ (q : Process). q.table) is);
        held = same_held (ap held is ∙ (λ i. (p.pid, (sym ((lives_on (state_value p.state) was).1) i, p.table.free))));
      }

  -- ---- by what it waits for

  module _ (p2 : Process) (r2 : Objects) where
    by_signal : (koid mask : ℕ) (ds : List ℕ) → state_value p.state ≡ Blocked (SignalOf koid mask) ds → (test : Bool)
        → meets (signals_at r.objects koid) mask ≡ test → p2 ≡ awake (then_some test (signals_at r.objects koid ∷ [])) p → r2 ≡ r
        → WakesOne pid (is_some (then_some test (signals_at r.objects koid ∷ []))) ps r (set ps place p2) r2
    by_signal koid mask ds in_state true holds is objects =
        let so : p2 ≡ record p { state = state.Ready; cpu = answered p.cpu ds (0 ∷ signals_at r.objects koid ∷ []) } =
        is
        ∙ ap (λ (s : StateValue). record p { state = state.Ready; cpu = answered p.cpu (destinations_of s) (0 ∷ signals_at r.objects koid ∷ []) }) in_state in
        rw objects (gets_awake p2 r (ap (λ (q : Process). q.pid) so) ds (signals_at r.objects koid ∷ []) so (ap is_blocked in_state)
        consistent
        (λ blocked. woken_is blocked ∙ rw (in_state, active_there ps r consistent blocked koid, holds) refl))
    by_signal koid mask ds in_state false holds is objects =
        stays_asleep p2 r2 (ap (λ (q : Process). q.pid) is) is objects
        (λ blocked. woken_is blocked ∙ rw (in_state, active_there ps r consistent blocked koid, holds) refl)

    module _ (port : ℕ) (ds : List ℕ) (in_state : state_value p.state ≡ Blocked (PacketAt port) ds) where
      seen_there : (blocked : List ℕ) (o : Option Object) → get r.objects port ≡ o
          → woken (world_blocked ps r blocked) pid ≡ woken_at_port (world_blocked ps r blocked) pid (process_value p) port ds (option_map object_value o)
      seen_there blocked o at = woken_is blocked ∙ rw (in_state, get_seen r.objects port, at) refl

      no_packet : (o : Option Object) → get r.objects port ≡ o → packets_found o ≡ [] → changing_port r port without_front ≡ r
      no_packet o at none =
          ap (λ (m : Map Object). record r { objects = m })
          (update_fixed r.objects port (at_port without_front) (λ x there2. same_object x (ap packets_found (sym there2 ∙ at) ∙ none)))
        where
          same_object : (x : Object) → packets_of x.body ≡ [] → at_port without_front x ≡ x
          same_object x h = ap (λ (b : Body). record x { body = b }) (by_body x.body h)
            where
              by_body : (b : Body) → packets_of b ≡ [] → changed_port without_front b ≡ b
              by_body (body.Port q) h = ap (λ (xs : List Packet). body.Port (record q { packets = xs })) (rw h refl)
              by_body _ h = refl

      asleep_at : (o : Option Object) → get r.objects port ≡ o → packets_found o ≡ [] → (blocked : List ℕ)
          → woken (world_blocked ps r blocked) pid ≡ world_blocked ps r blocked
      asleep_at None at none blocked = seen_there blocked None at
      asleep_at (Some o) at none blocked = seen_there blocked (Some o) at ∙ by_body o.body none
        where
          by_body : (b : Body) → packets_of b ≡ []
              → woken_by (world_blocked ps r blocked) pid (process_value p) port ds (object_value o) (body_value b) ≡ world_blocked ps r blocked
          by_body (body.Port q) h = rw h refl
          by_body _ h = refl

      taken_at : (o : Object) (x : Packet) (rest : List Packet) → get r.objects port ≡ Some o → packets_of o.body ≡ x ∷ rest → (blocked : List ℕ)
          → woken (world_blocked ps r blocked) pid
          ≡ made_ready (world_blocked ps (changing_port r port without_front) blocked) pid (process_value p) ds (0 ∷ packet_values x)
      taken_at o x rest at first blocked = seen_there blocked (Some o) at ∙ by_body o.body refl first
        where
          by_body : (b : Body)
              → o.body ≡ b → packets_of b ≡ x ∷ rest → woken_by (world_blocked ps r blocked) pid (process_value p) port ds (object_value o) (body_value b)
              ≡ made_ready (world_blocked ps (changing_port r port without_front) blocked) pid (process_value p) ds (0 ∷ packet_values x)
          by_body (body.Port q) is h = rw h
              (ap (λ (m : Map ObjectValue). made_ready (record (world_blocked ps r blocked) { objects = m }) pid (process_value p) ds (0 ∷ packet_values x))
              (sym objects_are))
            where
              objects_are : map object_entry (update r.objects port (at_port without_front))
                  ≡ put (map object_entry r.objects) port (record (object_value o) { body = PortBody rest })
              objects_are = update_seen object_value r.objects port (at_port without_front) packet_taken (λ y. seen_taken y y.body refl)
                  ∙ (put_there (map object_entry r.objects) port (object_value o) packet_taken
                  (rw (sorted_seen object_value r.objects) consistent.kept.in_order)
                  (get_seen r.objects port ∙ rw at refl)
                  ∙ ap (λ (b : BodyValue). put (map object_entry r.objects) port (record (object_value o) { body = b }))
                  (ap (λ (c : Body). body_packed (drop 1) (body_value c)) is ∙ ap (λ (xs : List Packet). PortBody (drop 1 xs)) h))
          by_body (body.Job own) is h = absurd (nil-cons h)
          by_body _ is h = absurd (nil-cons h)

      by_packet : (o : Option Object) → get r.objects port ≡ o → (xs : List Packet) → packets_found o ≡ xs
          → p2 ≡ awake (option_map packet_values (slice_get xs 0)) p → r2 ≡ changing_port r port without_front
          → WakesOne pid (is_some (option_map packet_values (slice_get xs 0))) ps r (set ps place p2) r2
      by_packet o at [] first is objects = stays_asleep p2 r2 (ap (λ (q : Process). q.pid) is) is (objects ∙ no_packet o at first) (asleep_at o at first)
      by_packet None at (x ∷ rest) first is objects = absurd (nil-cons first)
      by_packet (Some o) at (x ∷ rest) first is objects =
          let so : p2 ≡ record p { state = state.Ready; cpu = answered p.cpu ds (0 ∷ packet_values x) } =
          is ∙ ap (λ (s : StateValue). record p { state = state.Ready; cpu = answered p.cpu (destinations_of s) (0 ∷ packet_values x) }) in_state in
          rw objects (gets_awake p2 (changing_port r port without_front) (ap (λ (q : Process). q.pid) so) ds (packet_values x) so (ap is_blocked in_state)
          (packed_consistent without_front ps r port consistent)
          (taken_at o x rest at first))

    -- whatever it is in
    by_state : (s : StateValue) → state_value p.state ≡ s → p2 ≡ awake (given_awake s r) p → r2 ≡ without_taken s r
        → WakesOne pid (is_some (given_awake s r)) ps r (set ps place p2) r2
    by_state (Blocked (SignalOf koid mask) ds) in_state is objects = by_signal koid mask ds in_state (meets (signals_at r.objects koid) mask) refl is objects
    by_state (Blocked (PacketAt port) ds) in_state is objects =
        by_packet port ds in_state (get r.objects port) refl (packets_found (get r.objects port)) refl is objects
    by_state _ in_state is objects = stays_asleep p2 r2 (ap (λ (q : Process). q.pid) is) is objects (λ blocked. woken_is blocked ∙ rw in_state refl)

    pub wakes_one : p2 ≡ awake (given_awake (state_value p.state) r) p → r2 ≡ without_taken (state_value p.state) r
        → WakesOne pid (is_some (given_awake (state_value p.state) r)) ps r (set ps place p2) r2
    wakes_one = by_state (state_value p.state) refl

-- where there is no such process, nothing wakes
pub wakes_none : (ps : List Process) (r : Objects) (pid : ℕ) → IsConsistent ps r → get (map process_entry ps) pid ≡ None → WakesOne pid false ps r ps r
unfolding woken
wakes_none ps r pid consistent missing = record { world = λ blocked. rw missing refl; list = λ blocked are. are; consistent = consistent; held = refl }

-- it takes a packet at most, so who may be blocked is as before
pub taken_asleep : (s : StateValue) (r r2 : Objects) → r2 ≡ without_taken s r → KeepSleepers r r2
taken_asleep (Blocked (PacketAt port) ds) r r2 is = (ap (λ (y : Objects). y.sleepers) is, ap (λ (y : Objects). y.crowded) is)
taken_asleep (Blocked (SignalOf koid mask) ds) r r2 is = (ap (λ (y : Objects). y.sleepers) is, ap (λ (y : Objects). y.crowded) is)
taken_asleep _ r r2 is = (ap (λ (y : Objects). y.sleepers) is, ap (λ (y : Objects). y.crowded) is)
