-- Processes that were never started go with their objects: what settling leaves of a world, and that the invariant stays.
use Rattle.zl_calls.proofs.Common.{AreBlocked, Bool, Created, IsConsistent, IsTable, IsTrue, Koids, List, Map, None, ObjectValue, Objects, Option, Process}
use Rattle.zl_calls.proofs.Common.{ProcessValue, Some, State, StateValue, World, [], ap, count_by, each, eq-eqb, false, get, get-each, handles_to, has_handle}
use Rattle.zl_calls.proofs.Common.{has_key, has_seen, if◌then◌else◌, in_order-each, is_blocked, is_process, is_some, is_sorted, left_beside, left_state, lives}
use Rattle.zl_calls.proofs.Common.{map, nat_cmp, none-some, object_entry, option_map, passes, process_entry, process_settled, queued_to, refl, same_Some}
use Rattle.zl_calls.proofs.Common.{same_map, state_passes, state_value, state_without, subst, sum_by, sum_by-cons, sym, true, where_key, with_all}
use Rattle.zl_calls.proofs.Common.{without_others, world_value, ℕ, ◌+◌, ◌<◌, ◌==◌, ◌^◌, ◌∙◌, ◌∷◌, ◌≡◌}
use Rattle.zl_calls.specs.declared.process.State.TheVariants as state
use Rattle.zl_calls.proofs.objects.SameBodies.{still_agrees}
use Rattle.zl_rights.proofs.MapEdits.{has_key-behind}

-- the processes, of which those that were never started are gone without their objects
abbrev pub left_all : List Process → Objects → List Process
left_all ps r = map (left_beside r.objects) ps

-- the world that settling leaves, where these objects are what is held
abbrev pub settled_world : List Process → Objects → World
settled_world ps r = world_value (left_all ps r) r

-- ---- settling

state_left : (b : Bool) (s : State) → state_without b (state_value s) ≡ state_value (left_state b s)
state_left true state.Created = refl
state_left false state.Created = refl
state_left b _ = refl

-- for the definitions each process is settled
pub seen_left : (r : Objects) (ps : List Process)
    → each (process_settled (has_key (map object_entry r.objects))) (map process_entry ps) ≡ map process_entry (left_all ps r)
unfolding each
seen_left r [] = refl
seen_left r (p ∷ ps) = rw (has_seen r.objects p.pid, state_left (has_key r.objects p.pid) p.state, seen_left r ps) refl

where_passing : {X : Type 0} (p : ℕ → Bool) (m : Map X) → ((k : ℕ) → IsTrue (has_key m k) → p k ≡ true) → where_key p m ≡ m
unfolding where_key get
where_passing p [] all = refl
where_passing {X} p (e ∷ m) all =
    rw (all e.0 (rw (eq-eqb e.0 e.0 refl) refl)) (ap (λ (rest : Map X). e ∷ rest) (where_passing p m (λ k there. all k (has_key-behind e m k there))))

-- the world in which all of these objects stay is theirs
pub all_stay : (ps : List Process) (r r2 : Objects) → r2.next_koid ≡ r.next_koid → with_all (world_value ps r) r2.objects ≡ settled_world ps r2
unfolding without_others
all_stay ps r r2 koids =
    rw (seen_left r2 ps, where_passing (has_key (map object_entry r2.objects)) (map object_entry r2.objects) (λ k there. there), koids) refl

-- ---- the invariant

module _ (ps : List Process) (r : Objects) where
  abbrev K : Koids
  K = has_key (map object_entry r.objects)

  -- what is at the koid afterwards
  pub get_left : (k : ℕ) → get (map process_entry (left_all ps r)) k ≡ option_map (process_settled K k) (get (map process_entry ps) k)
  get_left k = ap (λ (m : Map ProcessValue). get m k) (sym (seen_left r ps)) ∙ get-each (map process_entry ps) (process_settled K) k

  -- none of them loses a handle
  pub handles_left : (k v : ℕ) → has_handle (get (map process_entry (left_all ps r)) k) v ≡ has_handle (get (map process_entry ps) k) v
  handles_left k v = ap (λ o. has_handle o v) (get_left k) ∙ by_process (get (map process_entry ps) k)
    where
      by_process : (o : Option ProcessValue) → has_handle (option_map (process_settled K k) o) v ≡ has_handle o v
      by_process None = refl
      by_process (Some q) = refl

  -- a process afterwards is one of before, with its handles
  pub found_left : (k : ℕ) (q : ProcessValue) → get (map process_entry (left_all ps r)) k ≡ Some q
      → (old : ProcessValue) × (get (map process_entry ps) k ≡ Some old) × (process_settled K k old ≡ q)
  found_left k q at = by_process (get (map process_entry ps) k) refl (sym (get_left k) ∙ at)
    where
      by_process : (o : Option ProcessValue) → get (map process_entry ps) k ≡ o → option_map (process_settled K k) o ≡ Some q
          → (old : ProcessValue) × (get (map process_entry ps) k ≡ Some old) × (process_settled K k old ≡ q)
      by_process None is read = absurd (none-some q read)
      by_process (Some old) is read = (old, is, same_Some (process_settled K k old) q read)

  has_left : (k : ℕ) → has_key (map process_entry (left_all ps r)) k ≡ has_key (map process_entry ps) k
  has_left k = ap is_some (get_left k) ∙ by_process (get (map process_entry ps) k)
    where
      by_process : (o : Option ProcessValue) → is_some (option_map (process_settled K k) o) ≡ is_some o
      by_process None = refl
      by_process (Some q) = refl

  -- a test that a process that isn't started passes as one that is gone does
  pub passes_left : (test : StateValue → Bool) → ((b : Bool) (s : StateValue) → test (state_without b s) ≡ test s) → (k : ℕ)
      → state_passes test (get (map process_entry (left_all ps r)) k) ≡ state_passes test (get (map process_entry ps) k)
  passes_left test same k = ap (state_passes test) (get_left k) ∙ by_process (get (map process_entry ps) k)
    where
      by_process : (o : Option ProcessValue) → state_passes test (option_map (process_settled K k) o) ≡ state_passes test o
      by_process None = refl
      by_process (Some q) = same (K k) q.state

  -- of a process whose object is there nothing changes
  pub there_left : (k : ℕ) → IsTrue (has_key r.objects k) → (test : StateValue → Bool)
      → state_passes test (get (map process_entry (left_all ps r)) k) ≡ state_passes test (get (map process_entry ps) k)
  there_left k there test = ap (state_passes test) (get_left k) ∙ by_process (get (map process_entry ps) k)
    where
      held : K k ≡ true
      held = has_seen r.objects k ∙ there

      by_state : (s : StateValue) → test (state_without true s) ≡ test s
      by_state Created = refl
      by_state _ = refl

      by_process : (o : Option ProcessValue) → state_passes test (option_map (process_settled K k) o) ≡ state_passes test o
      by_process None = refl
      by_process (Some q) = rw held (by_state q.state)

  abbrev in_one : ℕ → ℕ × ProcessValue → ℕ
  in_one k e = count_by (λ h. h.1.koid == k) e.1.handles

  summed_left : (k : ℕ) (qs : List Process) → sum_by (in_one k) (map process_entry (left_all qs r)) ≡ sum_by (in_one k) (map process_entry qs)
  summed_left k [] = refl
  summed_left k (q ∷ qs) =
      let after = sum_by-cons (in_one k) (process_entry (left_beside r.objects q)) (map process_entry (left_all qs r)) in
      let before = sum_by-cons (in_one k) (process_entry q) (map process_entry qs) in
      after ∙ (ap (λ n. in_one k (process_entry q) + n) (summed_left k qs) ∙ sym before)

  pub same_counts : (k : ℕ) → handles_to (settled_world ps r) k ≡ handles_to (world_value ps r) k
  unfolding handles_to
  same_counts k = ap (λ n. n + sum_by (λ (o : ℕ × ObjectValue). queued_to k o.1.body) (map object_entry r.objects)) (summed_left k ps)

  pub left_keeps : IsConsistent ps r → IsConsistent (left_all ps r) r
  unfolding is_process
  left_keeps consistent = record {
    processes_in_order = subst (λ (m : Map ProcessValue). IsTrue (is_sorted nat_cmp m)) (seen_left r ps)
        (in_order-each (map process_entry ps) (process_settled K) ∙ consistent.processes_in_order);
    given_processes = λ k there. consistent.given_processes k (sym (has_left k) ∙ there);
    given_objects = consistent.given_objects;
    koids = consistent.koids;
    above_zero = consistent.above_zero;
    no_zero = consistent.no_zero;
    tables = λ k p at. let (old, was, is) = found_left k p at in
        subst (λ (x : ProcessValue). IsTable x.handles) is (consistent.tables k old was);
    named = λ k p v e at there. let (old, was, is) = found_left k p at in consistent.named k old v e
        was (ap (λ (x : ProcessValue). get x.handles v) is ∙ there);
    queued = consistent.queued;
    counted = λ k o at. consistent.counted k o at ∙ sym (same_counts k);
    agrees = λ k o at. still_agrees (world_value ps r) (settled_world ps r) k o.body (λ test. there_left k (rw at refl) test) (consistent.agrees k o at);
    in_jobs = consistent.in_jobs;
    kept = consistent.kept;
  }

  -- ---- the list of the blocked

  same_blocked : (b : Bool) (s : StateValue) → is_blocked (state_without b s) ≡ is_blocked s
  same_blocked true Created = refl
  same_blocked false Created = refl
  same_blocked b _ = refl

  pub left_blocked : (blocked : List ℕ) → AreBlocked ps blocked → AreBlocked (left_all ps r) blocked
  left_blocked blocked are = record {
    once = λ k. are.once k ∙ ap (λ (b : Bool). if b then 1 else 0) (sym (passes_left is_blocked same_blocked k));
    counters = λ k p at waits.
        let (old, was, is) = found_left k p at in
        subst (λ (x : ProcessValue). IsTrue (is_blocked x.state) → x.cpu.counter < 2 ^ 32) is
        (λ w. are.counters k old was (sym (same_blocked (K k) old.state) ∙ w)) waits;
  }

-- ---- where each living process has its object

-- nothing goes
pub all_live : (ps : List Process) (r : Objects) → IsTrue (is_sorted nat_cmp (map process_entry ps))
    → ((k : ℕ) (q : ProcessValue) → get (map process_entry ps) k ≡ Some q → IsTrue (lives q.state) → IsTrue (has_key r.objects k))
    → settled_world ps r ≡ world_value ps r
all_live ps r sorted living = ap (λ (m : Map ProcessValue). record (world_value ps r) { processes = m }) (sym (seen_left r ps) ∙ settled)
  where
    by_state : (j : ℕ) (s : StateValue) → (IsTrue (lives s) → has_key (map object_entry r.objects) j ≡ true)
        → state_without (has_key (map object_entry r.objects) j) s ≡ s
    by_state j Created h = rw (h refl) refl
    by_state j _ h = refl

    by_process : (j : ℕ) (o : Option ProcessValue) → get (map process_entry ps) j ≡ o
        → option_map (process_settled (has_key (map object_entry r.objects)) j) o ≡ o
    by_process j None is = refl
    by_process j (Some q) is = ap (λ (s : StateValue). Some (record q { state = s })) (by_state j q.state (λ h. has_seen r.objects j ∙ living j q is h))

    settled : each (process_settled (has_key (map object_entry r.objects))) (map process_entry ps) ≡ map process_entry ps
    settled = same_map (each (process_settled (has_key (map object_entry r.objects))) (map process_entry ps)) (map process_entry ps)
        (passes _ (in_order-each (map process_entry ps) (process_settled (has_key (map object_entry r.objects))) ∙ sorted)) (passes _ sorted)
        (λ j. get-each (map process_entry ps) (process_settled (has_key (map object_entry r.objects))) j ∙ by_process j (get (map process_entry ps) j) refl)
