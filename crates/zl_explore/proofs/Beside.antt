-- What some processes compute with tells nothing to what follows a step: signals, what is held, who wakes.
use Rattle.std.proofs.Common.{Bool, List, None, Option, Some, [], ap, inl, inr, length, map, not, refl, suc, sym, true, zero, ℕ, ◌&&◌, ◌+◌, ◌==◌}
use Rattle.std.proofs.Common.{◌||◌, ◌∙◌, ◌∷◌, ◌≡◌}
use Rattle.std.specs.Prelude.{if◌then◌else◌, nat_lt}
use Rattle.std.specs.List.{list_any, filter, fold, sum_by, count_by}
use Rattle.std.specs.Option.{option_map}
use Rattle.std.proofs.lemmas.Bool.{cases_Bool, eqb-true, false≢true}
use Rattle.std.proofs.lemmas.List.Sums.{sum_by-cons}
use Rattle.zl_rights.specs.Numbers.{meets}
use Rattle.zl_rights.specs.Map.{Map, get, put, each, update, has_key, where_key}
use Rattle.zl_rights.specs.World.{Blocked, Body, Created, Ended, Gone, Object, Packet, PacketAt, PortBody}
use Rattle.zl_rights.specs.World.{Process, Ready, SignalOf, State, Wait, World, answered}
use Rattle.zl_rights.specs.Signals.{active, has_child_job, has_child_process, has_ended, is_job_below, is_process, is_process_of, lives, runs}
use Rattle.zl_rights.specs.Signals.{state_passes}
use Rattle.zl_rights.specs.Counts.{handles_to, queued_to}
use Rattle.zl_rights.specs.Settle.{Koids, in_table, in_queue, is_held, has_living_child, has_handle, is_made_by_handle, process_settled, without_others}
use Rattle.zl_rights.specs.Settled.{among, keys_of, settled, shrunk}
use Rattle.zl_rights.specs.Wakes.{body_with_packets, fired, holds, made_ready, packet_values, packets_for, wakes, with_body, woken}
use Rattle.zl_rights.specs.Wakes.{woken_at_port, woken_by, woken_by_first, woken_from, woken_if_there}
use Rattle.zl_rights.proofs.MapLaws.{get-each, get-put}
use Rattle.zl_rights.proofs.MapTests.{list_any-each}
use Rattle.zl_rights.proofs.SameSignals.{IsAlike, active_of-same}
use Rattle.zl_explore.specs.Cpus.{Cpus, with_cpu, with_cpus, may_be_woken, Spares}

-- ---- maps

module _ {X : Type 0} where
  pub each_commutes : (g h : ℕ → X → X) → ((k : ℕ) (x : X) → h k (g k x) ≡ g k (h k x)) → (m : Map X) → each h (each g m) ≡ each g (each h m)
  unfolding each
  each_commutes g h same [] = refl
  each_commutes g h same (e ∷ m) = λ i. (e.0, same e.0 e.1 i) ∷ each_commutes g h same m i

  pub put_each : (g : ℕ → X → X) (m : Map X) (k : ℕ) (v : X) → put (each g m) k (g k v) ≡ each g (put m k v)
  unfolding each put
  put_each g [] k v = refl
  put_each g (e ∷ m) k v = elim (cases_Bool (e.0 == k)) as (λ _. put (each g (e ∷ m)) k (g k v) ≡ each g (put (e ∷ m) k v)) [
    | inl here ↦ rw here refl
    | inr apart ↦ rw apart (elim (cases_Bool (nat_lt k e.0)) as (λ _. (if nat_lt k e.0 then (k, g k v) ∷ (e.0, g e.0 e.1) ∷ each g m else
        (e.0, g e.0 e.1) ∷ put (each g m) k (g k v))
        ≡ each g (if nat_lt k e.0 then (k, v) ∷ e ∷ m else e ∷ put m k v)) [
          | inl below ↦ rw below refl
          | inr above ↦ rw above (λ i. (e.0, g e.0 e.1) ∷ put_each g m k v i)
        ])
  ]

  pub update_each : (g : ℕ → X → X) (m : Map X) (k : ℕ) (h : X → X) → ((x : X) → h (g k x) ≡ g k (h x)) → update (each g m) k h ≡ each g (update m k h)
  unfolding each update
  update_each g [] k h same = refl
  update_each g (e ∷ m) k h same = elim (cases_Bool (e.0 == k)) as (λ _. update (each g (e ∷ m)) k h ≡ each g (update (e ∷ m) k h)) [
    | inl here ↦ rw here (λ i. (k, (ap (λ j. h (g j e.1)) (eqb-true e.0 k here) ∙ same e.1) i) ∷ each g m)
    | inr apart ↦ rw apart (λ i. (e.0, g e.0 e.1) ∷ update_each g m k h same i)
  ]

  pub sum_by-each : (count : ℕ × X → ℕ) (g : ℕ → X → X) → ((k : ℕ) (x : X) → count (k, g k x) ≡ count (k, x)) → (m : Map X)
      → sum_by count (each g m) ≡ sum_by count m
  unfolding each
  sum_by-each count g same [] = refl
  sum_by-each count g same (e ∷ m) =
      sum_by-cons count _ (each g m) ∙ ((λ i. same e.0 e.1 i + sum_by-each count g same m i) ∙ sym (sum_by-cons count e m))

-- ---- what a world is asked

module _ (f : Cpus) (w : World) where
  abbrev beside : World
  beside = with_cpus f w

  pub get_beside : (k : ℕ) → get beside.processes k ≡ option_map (with_cpu (f k)) (get w.processes k)
  get_beside k = get-each w.processes (λ j q. with_cpu (f j) q) k

  pub get_spared : (k : ℕ) → f k ≡ None → get beside.processes k ≡ get w.processes k
  get_spared k spared = get_beside k ∙ rw spared (by_found (get w.processes k))
    where
      by_found : (found : Option Process) → option_map (with_cpu None) found ≡ found
      by_found None = refl
      by_found (Some q) = refl

  pub process_beside : (test : State → Bool) (k : ℕ) → is_process beside test k ≡ is_process w test k
  unfolding is_process
  process_beside test k = rw get_beside (by_found (get w.processes k))
    where
      by_found : (found : Option Process) → state_passes test (option_map (with_cpu (f k)) found) ≡ state_passes test found
      by_found None = refl
      by_found (Some q) = refl

  pub child_beside : (k : ℕ) → has_child_process beside k ≡ has_child_process w k
  unfolding has_child_process
  child_beside k = λ i. list_any (λ e. is_process_of k e.1.body && process_beside lives e.0 i) w.objects

  alike_beside : IsAlike w beside
  unfolding has_child_job
  alike_beside = record { keys = λ k. refl; jobs = λ k. refl; processes = child_beside; ended = process_beside has_ended }

  pub active_beside : (k : ℕ) → active beside k ≡ active w k
  unfolding active
  active_beside k = active_of-same w beside alike_beside k (get w.objects k)

  pub handles_beside : (k : ℕ) → handles_to beside k ≡ handles_to w k
  unfolding handles_to
  handles_beside k = ap (λ n. n + sum_by (λ o. queued_to k o.1.body) w.objects)
      (sum_by-each (λ p. count_by (λ h. h.1.koid == k) p.1.handles) (λ j q. with_cpu (f j) q) (λ j q. refl) w.processes)

  -- ---- what isn't held goes

  table_beside : (k : ℕ) → in_table beside k ≡ in_table w k
  unfolding in_table
  table_beside k = list_any-each (λ p. list_any (λ h. h.1.koid == k) p.1.handles) (λ j q. with_cpu (f j) q) (λ j q. refl) w.processes

  living_beside : (K : Koids) (k : ℕ) → has_living_child beside K k ≡ has_living_child w K k
  unfolding has_living_child
  living_beside K k = λ i. list_any (λ o. K o.0 && (is_job_below k o.1.body || (is_process_of k o.1.body && process_beside lives o.0 i))) w.objects

  held_beside : (K : Koids) (k : ℕ) → is_held beside K k ≡ is_held w K k
  unfolding is_held in_queue
  held_beside K k = λ i. has_key w.objects k && (table_beside k i || in_queue w K k || process_beside runs k i || living_beside K k i)

  shrunk_beside : (n : ℕ) (ks : List ℕ) → shrunk beside n ks ≡ shrunk w n ks
  shrunk_beside zero ks = refl
  shrunk_beside (suc n) ks = shrunk_beside n _ ∙ λ i. shrunk w n (filter (λ k. held_beside (among ks) k i) ks)

  handle_beside : (x : Wait) → is_made_by_handle beside x ≡ is_made_by_handle w x
  unfolding is_made_by_handle
  handle_beside x = rw get_beside (by_found (get w.processes x.pid))
    where
      by_found : (found : Option Process) → has_handle (option_map (with_cpu (f x.pid)) found) x.value ≡ has_handle found x.value
      by_found None = refl
      by_found (Some q) = refl

  others_beside : (K : Koids) → without_others beside K ≡ with_cpus f (without_others w K)
  unfolding without_others
  others_beside K = λ i. record w {
    processes = each_commutes (λ k q. with_cpu (f k) q) (process_settled K) (λ k q. refl) w.processes i;
    objects = where_key K w.objects;
    waits = filter (λ x. handle_beside x i && K x.port) w.waits;
  }

  pub settled_beside : settled beside ≡ with_cpus f (settled w)
  settled_beside = others_beside _ ∙ λ i. with_cpus f (without_others w (among (shrunk_beside (length (keys_of w.objects)) (keys_of w.objects) i)))

  -- ---- waits give their packets

  packets_beside : (k : ℕ) → packets_for beside k ≡ packets_for w k
  unfolding holds
  packets_beside k = λ i. map (λ x. record {
    kind = 1;
    key = x.key;
    trigger = x.mask;
    observed = active_beside x.object i;
    source = Some (record { pid = x.pid; value = x.value; object = x.object });
  }) (filter (λ x. x.port == k && meets (active_beside x.object i) x.mask) w.waits)

  fired_beside : fired beside ≡ with_cpus f (fired w)
  unfolding fired holds
  fired_beside = λ i. record (with_cpus f w) {
    objects = each (λ k o. record o { body = body_with_packets (packets_beside k i) o.body }) w.objects;
    waits = filter (λ x. not (meets (active_beside x.object i) x.mask)) w.waits;
  }

-- ---- blocked processes wake

module _ (f : Cpus) where
  ready_beside : (w : World) (p : ℕ) (q : Process) (ds vs : List ℕ) → f p ≡ None
      → made_ready (with_cpus f w) p (with_cpu (f p) q) ds vs ≡ with_cpus f (made_ready w p q ds vs)
  unfolding made_ready
  ready_beside w p q ds vs spared = rw spared (λ i. record w {
    processes = (ap (λ c. put (each (λ k x. with_cpu (f k) x) w.processes) p (with_cpu c (record q { state = Ready; cpu = answered q.cpu ds vs }))) (sym spared)
        ∙ put_each (λ k x. with_cpu (f k) x) w.processes p (record q { state = Ready; cpu = answered q.cpu ds vs })) i;
    blocked = filter (λ x. not (x == p)) w.blocked;
  })

  first_beside : (w : World) (p : ℕ) (q : Process) (k : ℕ) (ds : List ℕ) (o : Object) (xs : List Packet) → f p ≡ None
      → woken_by_first (with_cpus f w) p (with_cpu (f p) q) k ds o xs ≡ with_cpus f (woken_by_first w p q k ds o xs)
  first_beside w p q k ds o [] spared = refl
  first_beside w p q k ds o (x ∷ rest) spared = ready_beside (with_body w k o (PortBody rest)) p q ds (0 ∷ packet_values x) spared

  by_beside : (w : World) (p : ℕ) (q : Process) (k : ℕ) (ds : List ℕ) (o : Object) (b : Body) → f p ≡ None
      → woken_by (with_cpus f w) p (with_cpu (f p) q) k ds o b ≡ with_cpus f (woken_by w p q k ds o b)
  by_beside w p q k ds o (PortBody packets) spared = first_beside w p q k ds o packets spared
  by_beside w p q k ds o _ spared = refl

  port_beside : (w : World) (p : ℕ) (q : Process) (k : ℕ) (ds : List ℕ) (found : Option Object) → f p ≡ None
      → woken_at_port (with_cpus f w) p (with_cpu (f p) q) k ds found ≡ with_cpus f (woken_at_port w p q k ds found)
  port_beside w p q k ds None spared = refl
  port_beside w p q k ds (Some o) spared = by_beside w p q k ds o o.body spared

  from_beside : (w : World) (p : ℕ) (q : Process) (s : State) → (may_be_woken s ≡ true → f p ≡ None)
      → woken_from (with_cpus f w) p (with_cpu (f p) q) s ≡ with_cpus f (woken_from w p q s)
  from_beside w p q (Blocked (SignalOf k mask) ds) spares =
      (λ i. if meets (active_beside f w k i) mask then made_ready (with_cpus f w) p (with_cpu (f p) q) ds (0 ∷ active_beside f w k i ∷ []) else with_cpus f w)
      ∙ elim (cases_Bool (meets (active w k) mask)) as (λ _. (if meets (active w k) mask then made_ready (with_cpus f w) p (with_cpu (f p) q) ds
      (0 ∷ active w k ∷ []) else with_cpus f w)
      ≡ with_cpus f (if meets (active w k) mask then made_ready w p q ds (0 ∷ active w k ∷ []) else w)) [
        | inl holds ↦ rw holds (ready_beside w p q ds (0 ∷ active w k ∷ []) (spares refl))
        | inr not ↦ rw not refl
      ]
  from_beside w p q (Blocked (PacketAt k) ds) spares = port_beside w p q k ds (get w.objects k) (spares refl)
  from_beside w p q Created spares = refl
  from_beside w p q Ready spares = refl
  from_beside w p q (Ended code) spares = refl
  from_beside w p q Gone spares = refl

  woken_beside : (w : World) (p : ℕ) → Spares f w → woken (with_cpus f w) p ≡ with_cpus f (woken w p)
  unfolding woken is_process
  woken_beside w p spares = rw get_beside (by_found (get w.processes p) (spares p))
    where
      by_found : (found : Option Process) → (state_passes may_be_woken found ≡ true → f p ≡ None)
          → woken_if_there (with_cpus f w) p (option_map (with_cpu (f p)) found) ≡ with_cpus f (woken_if_there w p found)
      by_found None spares = refl
      by_found (Some q) spares = from_beside w p q q.state spares

  -- ---- and who is spared stays so

  spares_ready : (w : World) (p : ℕ) (q : Process) (ds vs : List ℕ) → Spares f w → Spares f (made_ready w p q ds vs)
  unfolding made_ready is_process
  spares_ready w p q ds vs spares k rest = elim (cases_Bool (p == k)) as (λ _. f k ≡ None) [
    | inl here ↦ absurd (false≢true (rw (get-put, here) at rest))
    | inr apart ↦ spares k (rw (get-put, apart) at rest)
  ]

  spares_port : (w : World) (p : ℕ) (q : Process) (k : ℕ) (ds : List ℕ) (found : Option Object) → Spares f w → Spares f (woken_at_port w p q k ds found)
  unfolding is_process
  spares_port w p q k ds None spares = spares
  spares_port w p q k ds (Some o) spares = by_body o.body
    where
      by_first : (xs : List Packet) → Spares f (woken_by_first w p q k ds o xs)
      by_first [] = spares
      by_first (x ∷ rest) = spares_ready (with_body w k o (PortBody rest)) p q ds (0 ∷ packet_values x) spares

      by_body : (b : Body) → Spares f (woken_by w p q k ds o b)
      by_body (PortBody packets) = by_first packets
      by_body _ = spares

  spares_from : (w : World) (p : ℕ) (q : Process) (s : State) → Spares f w → Spares f (woken_from w p q s)
  spares_from w p q (Blocked (SignalOf k mask) ds) spares = elim (cases_Bool (meets (active w k) mask))
      as (λ _. Spares f (if meets (active w k) mask then made_ready w p q ds (0 ∷ active w k ∷ []) else w)) [
        | inl holds ↦ rw holds (spares_ready w p q ds (0 ∷ active w k ∷ []) spares)
        | inr not ↦ rw not spares
      ]
  spares_from w p q (Blocked (PacketAt k) ds) spares = spares_port w p q k ds (get w.objects k) spares
  spares_from w p q _ spares = spares

  spares_woken : (w : World) (p : ℕ) → Spares f w → Spares f (woken w p)
  unfolding woken
  spares_woken w p spares = by_found (get w.processes p)
    where
      by_found : (found : Option Process) → Spares f (woken_if_there w p found)
      by_found None = spares
      by_found (Some q) = spares_from w p q q.state spares

  all_beside : (ps : List ℕ) (w : World) → Spares f w → fold woken (with_cpus f w) ps ≡ with_cpus f (fold woken w ps)
  all_beside [] w spares = refl
  all_beside (p ∷ ps) w spares = ap (λ u. fold woken u ps) (woken_beside w p spares) ∙ all_beside ps (woken w p) (spares_woken w p spares)

  -- what wakes is the same, beside other Cpus
  pub wakes_beside : (w : World) → Spares f w → wakes (with_cpus f w) ≡ with_cpus f (wakes w)
  unfolding wakes fired is_process
  wakes_beside w spares = ap (λ u. fold woken u w.blocked) (fired_beside f w) ∙ all_beside w.blocked (fired w) spares
