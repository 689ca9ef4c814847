-- What follows a step, once more, changes nothing: what is held stays so as processes wake.
use Rattle.zl_rights.proofs.Common.{All, Blocked, Bool, Created, Koids, List, Map, None, Object, Option, PortBody, Process, Ready, Some, State, World, []}
use Rattle.zl_rights.proofs.Common.{answered, ap, cases_Bool, each, eq-eqb, eqb-true, false, filter, fired, fold, get, has_key, has_living_child}
use Rattle.zl_rights.proofs.Common.{if◌then◌else◌, in_queue, in_table, inl, inr, is_held, is_process, is_some, list_any, lives, not, option_map}
use Rattle.zl_rights.proofs.Common.{process_settled, put, queue_of, refl, runs, state_passes, subst, sym, true, true≢false, wakes, where_key}
use Rattle.zl_rights.proofs.Common.{without_others, ℕ, ◌&&◌, ◌==◌, ◌||◌, ◌∙◌, ◌∷◌, ◌≡◌}
use Rattle.std.proofs.lemmas.List.Elements.{All-filter, All-head, All-tail, filter_passes}
use Rattle.zl_rights.specs.Numbers.{meets}
use Rattle.zl_rights.specs.Settle.{IsLargestHeld, Settles, has_handle, is_made_by_handle, names, state_without}
use Rattle.zl_rights.specs.Settled.{settled}
use Rattle.zl_rights.specs.Signals.{active, is_job_below, is_process_of}
use Rattle.zl_rights.specs.Wakes.{body_with_packets, holds, made_ready, packet_values, packets_for, with_body, woken, woken_at_port, woken_by}
use Rattle.zl_rights.specs.Wakes.{woken_by_first, woken_from, woken_if_there}
use Rattle.zl_rights.specs.World.{Body, Packet, PacketAt, SignalOf, Wait}
use Rattle.zl_rights.proofs.MapLaws.{get-each, get-put, get-where_key-in, get-where_key-out}
use Rattle.zl_rights.proofs.MapTests.{any_at, list_any-each, list_any-put}
use Rattle.zl_rights.proofs.Settling.{Settles-exists, Settles-unique, is_held-there}
use Rattle.zl_explore.proofs.Beside.{put_each}

-- ---- lists and maps

filter_kept : {X : Type 0} (p : X → Bool) (xs : List X) → All (λ x. p x ≡ true) xs → filter p xs ≡ xs
filter_kept p [] all = refl
filter_kept p (x ∷ xs) all = rw (All-head (λ y. p y ≡ true) x xs all) (ap (λ ys. x ∷ ys) (filter_kept p xs (All-tail (λ y. p y ≡ true) x xs all)))

module _ {X : Type 0} where
  any_put : (test : ℕ × X → Bool) (m : Map X) (k : ℕ) (old new : X) → get m k ≡ Some old → test (k, new) ≡ test (k, old)
      → list_any test (put m k new) ≡ list_any test m
  any_put test m k old new there same = elim (cases_Bool (test (k, old))) as (λ _. list_any test (put m k new) ≡ list_any test m) [
    | inl passes ↦ any_at test (put m k new) k new (get-put m k new k ∙ rw (eq-eqb k k refl) refl) (same ∙ passes) ∙ sym (any_at test m k old there passes)
    | inr fails ↦ list_any-put test m k old new there fails (same ∙ fails)
  ]

  key_put : (m : Map X) (k : ℕ) (old new : X) → get m k ≡ Some old → (j : ℕ) → has_key (put m k new) j ≡ has_key m j
  key_put m k old new there j = elim (cases_Bool (k == j)) as (λ _. has_key (put m k new) j ≡ has_key m j) [
    | inl here ↦ rw (get-put, here, ← eqb-true k j here, there) refl
    | inr apart ↦ rw (get-put, apart) refl
  ]

  keys_kept : (p : ℕ → Bool) (m : Map X) → ((k : ℕ) → has_key m k ≡ true → p k ≡ true) → where_key p m ≡ m
  unfolding where_key get
  keys_kept p [] all = refl
  keys_kept p (e ∷ m) all = rw (all e.0 (rw (eq-eqb e.0 e.0 refl) refl)) (ap (λ es. e ∷ es) (keys_kept p m rest))
    where
      rest : (k : ℕ) → has_key m k ≡ true → p k ≡ true
      rest k there = elim (cases_Bool (e.0 == k)) as (λ _. p k ≡ true) [
        | inl here ↦ all k (rw here refl)
        | inr apart ↦ all k (rw apart there)
      ]

-- ---- a world in which nothing is left to go

-- K is what is held, and nothing stands outside of it
record IsSettled (K : Koids) (w : World) : Type 0 where
  largest : IsLargestHeld w K
  processes : each (process_settled K) w.processes ≡ w.processes
  objects : (k : ℕ) → has_key w.objects k ≡ true → K k ≡ true
  waits : All (λ x. (is_made_by_handle w x && K x.port) ≡ true) w.waits

settled_same : (K : Koids) (w : World) → IsSettled K w → settled w ≡ w
unfolding without_others
settled_same K w s = Settles-unique w (settled w) w (Settles-exists w) (K, s.largest, sym same)
  where
    same : without_others w K ≡ w
    same = λ i. record w {
      processes = s.processes i;
      objects = keys_kept K w.objects s.objects i;
      waits = filter_kept (λ x. is_made_by_handle w x && K x.port) w.waits s.waits i;
    }

-- where the same is held, K still is what is
still_held : (K : Koids) (u v : World) → ((L : Koids) (k : ℕ) → is_held v L k ≡ is_held u L k) → IsLargestHeld u K → IsLargestHeld v K
still_held K u v same largest = record {
  held = λ k inside. same K k ∙ largest.held k inside;
  largest = λ L held. largest.largest L (λ k inside. sym (same L k) ∙ held k inside);
}

-- ---- so is the world that settling leaves

any_where : {X : Type 0} (p : ℕ → Bool) (t u : ℕ × X → Bool) → ((e : ℕ × X) → p e.0 ≡ true → u e ≡ t e) → (m : Map X)
    → list_any (λ e. p e.0 && u e) (where_key p m) ≡ list_any (λ e. p e.0 && t e) m
unfolding where_key
any_where p t u same [] = refl
any_where p t u same (e ∷ m) = elim (cases_Bool (p e.0)) as (λ _. list_any (λ x. p x.0 && u x) (where_key p (e ∷ m)) ≡ list_any (λ x. p x.0 && t x) (e ∷ m)) [
  | inl kept ↦ rw (kept, kept, same e kept, any_where p t u same m) refl
  | inr out ↦ rw (out, any_where p t u same m) refl
]

module _ (w : World) (K : Koids) where
  abbrev left : World
  left = without_others w K

  process_left : (test : State → Bool) (k : ℕ) → ((s : State) → test (state_without (K k) s) ≡ test s) → is_process left test k ≡ is_process w test k
  unfolding is_process without_others
  process_left test k same = rw get-each (by_found (get w.processes k))
    where
      by_found : (found : Option Process) → state_passes test (option_map (process_settled K k) found) ≡ state_passes test found
      by_found None = refl
      by_found (Some q) = same q.state

  runs_left : (b : Bool) (s : State) → runs (state_without b s) ≡ runs s
  runs_left true Created = refl
  runs_left false Created = refl
  runs_left b s = refl

  lives_left : (b : Bool) (s : State) → b ≡ true → lives (state_without b s) ≡ lives s
  lives_left b Created kept = rw kept refl
  lives_left b s kept = refl

  table_left : (k : ℕ) → in_table left k ≡ in_table w k
  unfolding in_table without_others
  table_left k = list_any-each (λ p. list_any (λ h. h.1.koid == k) p.1.handles) (process_settled K) (λ j q. refl) w.processes

  handle_left : (x : Wait) → is_made_by_handle left x ≡ is_made_by_handle w x
  unfolding is_made_by_handle without_others
  handle_left x = rw get-each (by_found (get w.processes x.pid))
    where
      by_found : (found : Option Process) → has_handle (option_map (process_settled K x.pid) found) x.value ≡ has_handle found x.value
      by_found None = refl
      by_found (Some q) = refl

  held_left : (k : ℕ) → K k ≡ true → is_held left K k ≡ is_held w K k
  unfolding is_held in_queue has_living_child without_others
  held_left k kept = λ i. is_some (get-where_key-in w.objects K k kept i) && (table_left k i
      || any_where K (λ o. names k (queue_of o.1.body)) (λ o. names k (queue_of o.1.body)) (λ o inside. refl) w.objects i
      || process_left runs k (runs_left (K k)) i
      || any_where K (λ o. is_job_below k o.1.body || (is_process_of k o.1.body && is_process w lives o.0))
      (λ o. is_job_below k o.1.body || (is_process_of k o.1.body && is_process left lives o.0))
      (λ o inside. ap (λ b. is_job_below k o.1.body || (is_process_of k o.1.body && b)) (process_left lives o.0 (λ s. lives_left (K o.0) s inside)))
      w.objects i)

  key_left : (k : ℕ) → has_key left.objects k ≡ true → K k ≡ true
  unfolding without_others
  key_left k there = elim (cases_Bool (K k)) as (λ _. K k ≡ true) [
    | inl kept ↦ kept
    | inr out ↦ absurd (true≢false (sym there ∙ ap is_some (get-where_key-out w.objects K k out)))
  ]

  state_again : (b : Bool) (s : State) → state_without b (state_without b s) ≡ state_without b s
  state_again true Created = refl
  state_again false Created = refl
  state_again b s = refl

  processes_again : (m : Map Process) → each (process_settled K) (each (process_settled K) m) ≡ each (process_settled K) m
  unfolding each
  processes_again [] = refl
  processes_again (e ∷ m) = λ i. (e.0, record e.1 { state = state_again (K e.0) e.1.state i }) ∷ processes_again m i

  settled_left : IsLargestHeld w K → IsSettled K left
  unfolding without_others
  settled_left largest = record {
    largest = record {
      held = λ k inside. held_left k inside ∙ largest.held k inside;
      largest = λ L held k inside. key_left k (is_held-there left L k (held k inside));
    };
    processes = processes_again w.processes;
    objects = key_left;
    waits = subst (λ (t : Wait → Bool). All (λ x. (t x && K x.port) ≡ true) left.waits) (λ i x. sym (handle_left x) i)
        (filter_passes (λ x. is_made_by_handle w x && K x.port) w.waits);
  }

-- ---- it stays so as waits give their packets, and as processes wake

names_same : (k : ℕ) (more : List Packet) (b : Body) → names k (queue_of (body_with_packets more b)) ≡ names k (queue_of b)
names_same k more (PortBody packets) = refl
names_same k more _ = refl

job_same : (k : ℕ) (more : List Packet) (b : Body) → is_job_below k (body_with_packets more b) ≡ is_job_below k b
job_same k more (PortBody packets) = refl
job_same k more _ = refl

child_same : (k : ℕ) (more : List Packet) (b : Body) → is_process_of k (body_with_packets more b) ≡ is_process_of k b
child_same k more (PortBody packets) = refl
child_same k more _ = refl

key_each : {X : Type 0} (m : Map X) (g : ℕ → X → X) (k : ℕ) → has_key (each g m) k ≡ has_key m k
key_each {X = X} m g k = ap is_some (get-each m g k) ∙ by_found (get m k)
  where
    by_found : (found : Option X) → is_some (option_map (g k) found) ≡ is_some found
    by_found None = refl
    by_found (Some x) = refl

module _ (K : Koids) (w : World) (s : IsSettled K w) where
  abbrev given : ℕ → Object → Object
  given k o = record o { body = body_with_packets (packets_for w k) o.body }

  settled_fired : IsSettled K (fired w)
  unfolding fired is_made_by_handle is_held in_queue has_living_child in_table is_process
  settled_fired = record {
    largest = still_held K w (fired w) same s.largest;
    processes = s.processes;
    objects = λ k there. s.objects k (sym (key_each w.objects given k) ∙ there);
    waits = All-filter (λ x. not (holds w x)) (λ x. (is_made_by_handle w x && K x.port) ≡ true) w.waits s.waits;
  }
    where
      same : (L : Koids) (k : ℕ) → is_held (fired w) L k ≡ is_held w L k
      same L k = λ i. key_each w.objects given k i && (in_table w k
          || list_any-each (λ o. L o.0 && names k (queue_of o.1.body)) given (λ j o. ap (λ b. L j && b) (names_same k (packets_for w j) o.body)) w.objects i
          || is_process w runs k
          || list_any-each (λ o. L o.0 && (is_job_below k o.1.body || (is_process_of k o.1.body && is_process w lives o.0))) given
          (λ j o. λ h. L j && (job_same k (packets_for w j) o.body h || (child_same k (packets_for w j) o.body h && is_process w lives j))) w.objects i)

  -- the port loses a packet
  settled_taken : (k : ℕ) (o : Object) (packets rest : List Packet) → get w.objects k ≡ Some o → o.body ≡ PortBody packets
      → IsSettled K (with_body w k o (PortBody rest))
  unfolding is_made_by_handle is_held in_queue has_living_child in_table is_process
  settled_taken k o packets rest there port = record {
    largest = still_held K w (with_body w k o (PortBody rest)) same s.largest;
    processes = s.processes;
    objects = λ j at. s.objects j (sym (key_put w.objects k o new there j) ∙ at);
    waits = s.waits;
  }
    where
      new : Object
      new = record o { body = PortBody rest }

      same : (L : Koids) (j : ℕ) → is_held (with_body w k o (PortBody rest)) L j ≡ is_held w L j
      same L j = λ i. key_put w.objects k o new there j i && (in_table w j
          || any_put (λ x. L x.0 && names j (queue_of x.1.body)) w.objects k o new there (rw port refl) i
          || is_process w runs j
          || any_put (λ x. L x.0 && (is_job_below j x.1.body || (is_process_of j x.1.body && is_process w lives x.0))) w.objects k o new there (rw port refl) i)

  -- a process that runs is made ready
  settled_ready : (p : ℕ) (q : Process) (ds vs : List ℕ) → get w.processes p ≡ Some q → lives q.state ≡ true → runs q.state ≡ true
      → IsSettled K (made_ready w p q ds vs)
  unfolding is_made_by_handle is_held in_queue has_living_child in_table is_process made_ready
  settled_ready p q ds vs there alive running = record {
    largest = still_held K w (made_ready w p q ds vs) same s.largest;
    processes = sym (put_each (process_settled K) w.processes p new) ∙ ap (λ m. put m p new) s.processes;
    objects = s.objects;
    waits = subst (λ (t : Wait → Bool). All (λ x. (t x && K x.port) ≡ true) w.waits) (λ i x. sym (handle x) i) s.waits;
  }
    where
      new : Process
      new = record q { state = Ready; cpu = answered q.cpu ds vs }

      state : (test : State → Bool) → test Ready ≡ test q.state → (k : ℕ) → is_process (made_ready w p q ds vs) test k ≡ is_process w test k
      state test same k = rw get-put (elim (cases_Bool (p == k)) as (λ _. state_passes test (if p == k then Some new else get w.processes k)
          ≡ state_passes test (get w.processes k)) [ inl here ↦ rw (here, ← eqb-true p k here, there, same) refl | inr apart ↦ rw apart refl ])

      handle : (x : Wait) → is_made_by_handle (made_ready w p q ds vs) x ≡ is_made_by_handle w x
      handle x = rw get-put (elim (cases_Bool (p == x.pid)) as (λ _. has_handle (if p == x.pid then Some new else get w.processes x.pid) x.value
          ≡ has_handle (get w.processes x.pid) x.value) [ inl here ↦ rw (here, ← eqb-true p x.pid here, there) refl | inr apart ↦ rw apart refl ])

      same : (L : Koids) (k : ℕ) → is_held (made_ready w p q ds vs) L k ≡ is_held w L k
      same L k = λ i. has_key w.objects k && (any_put (λ x. list_any (λ h. h.1.koid == k) x.1.handles) w.processes p q new there refl i
          || in_queue w L k
          || state runs (sym running) k i
          || list_any (λ o. L o.0 && (is_job_below k o.1.body || (is_process_of k o.1.body && state lives (sym alive) o.0 i))) w.objects)

module _ (K : Koids) where
  settled_at_port : (w : World) (p : ℕ) (q : Process) (k : ℕ) (ds : List ℕ) → get w.processes p ≡ Some q → lives q.state ≡ true → runs q.state ≡ true
      → (found : Option Object) → get w.objects k ≡ found → IsSettled K w → IsSettled K (woken_at_port w p q k ds found)
  settled_at_port w p q k ds there alive running None at s = s
  settled_at_port w p q k ds there alive running (Some o) at s = by_body o.body refl
    where
      by_first : (xs : List Packet) → o.body ≡ PortBody xs → IsSettled K (woken_by_first w p q k ds o xs)
      by_first [] is = s
      by_first (x ∷ rest) is = settled_ready K (with_body w k o (PortBody rest)) (settled_taken K w s k o (x ∷ rest) rest at is) p q ds
          (0 ∷ packet_values x) there alive running

      by_body : (b : Body) → o.body ≡ b → IsSettled K (woken_by w p q k ds o b)
      by_body (PortBody packets) is = by_first packets is
      by_body _ is = s

  settled_from : (w : World) (p : ℕ) (q : Process) → get w.processes p ≡ Some q → (state : State) → q.state ≡ state → IsSettled K w
      → IsSettled K (woken_from w p q state)
  settled_from w p q there (Blocked (SignalOf k mask) ds) is s = elim (cases_Bool (meets (active w k) mask))
      as (λ _. IsSettled K (if meets (active w k) mask then made_ready w p q ds (0 ∷ active w k ∷ []) else w)) [
        | inl holds ↦ rw holds (settled_ready K w s p q ds (0 ∷ active w k ∷ []) there (ap lives is) (ap runs is))
        | inr not ↦ rw not s
      ]
  settled_from w p q there (Blocked (PacketAt k) ds) is s = settled_at_port w p q k ds there (ap lives is) (ap runs is) (get w.objects k) refl s
  settled_from w p q there _ is s = s

  settled_woken : (w : World) (p : ℕ) → IsSettled K w → IsSettled K (woken w p)
  unfolding woken
  settled_woken w p s = by_found (get w.processes p) refl
    where
      by_found : (found : Option Process) → get w.processes p ≡ found → IsSettled K (woken_if_there w p found)
      by_found None there = s
      by_found (Some q) there = settled_from w p q there q.state refl s

  settled_all : (ps : List ℕ) (w : World) → IsSettled K w → IsSettled K (fold woken w ps)
  settled_all [] w s = s
  settled_all (p ∷ ps) w s = settled_all ps (woken w p) (settled_woken w p s)

  settled_wakes : (w : World) → IsSettled K w → IsSettled K (wakes w)
  unfolding wakes
  settled_wakes w s = settled_all w.blocked (fired w) (settled_fired K w s)

-- what settling left is settled
pub settled_again : (w w2 : World) → Settles w w2 → settled w2 ≡ w2
settled_again w w2 (K, largest, is) = settled_same K w2 (subst (IsSettled K) (sym is) (settled_left w K largest))

-- and it stays so as processes wake
pub settled_awake : (w w2 : World) → Settles w w2 → settled (wakes w2) ≡ wakes w2
settled_awake w w2 (K, largest, is) = settled_same K (wakes w2) (settled_wakes K w2 (subst (IsSettled K) (sym is) (settled_left w K largest)))
