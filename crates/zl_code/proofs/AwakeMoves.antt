-- Where nothing is due, nothing is due either once a process that isn't blocked has another Cpu.
use Rattle.zl_code.proofs.Common.{Blocked, Body, Bool, Cpu, JobBody, List, Map, NO_JOBS, NO_PROCESSES, None, Object, Option, Packet, PacketAt, PortBody}
use Rattle.zl_code.proofs.Common.{Process, ProcessBody, Ready, SignalOf, Some, State, TERMINATED, Wait, World, [], active, answered, ap, arith, bit_or}
use Rattle.zl_code.proofs.Common.{body_with_packets, each, false, filter, fired, fold, get, get-update, has_child_job, has_child_process, holds, if◌then◌else◌}
use Rattle.zl_code.proofs.Common.{is_process, is_process_of, list_any, lives, made_ready, map, meets, nat_tests, not, on_process, option_map, or_parts, put}
use Rattle.zl_code.proofs.Common.{refl, state_passes, true, update, wakes, with_body, woken, woken_at_port, woken_by, woken_by_first, woken_from}
use Rattle.zl_code.proofs.Common.{woken_if_there, ℕ, ◌&&◌, ◌==◌, ◌∙◌, ◌∷◌, ◌≡◌}
use Rattle.zl_rights.specs.Signals.{active_of, implied, signal_if, has_ended}
use Rattle.zl_rights.specs.Wakes.{packet_of}

-- ---- two changes of a map at two keys

put_update : {X : Type 0} (m : Map X) (p q : ℕ) (f : X → X) (x : X) → (p == q) ≡ false → put (update m p f) q x ≡ update (put m q x) p f
unfolding put update
put_update [] p q f x apart = grind (arith, nat_tests, apart)
put_update (e ∷ m) p q f x apart = grind (arith, nat_tests, apart, put_update m p q f x apart)

module _ (p : ℕ) (c : Cpu) where
  abbrev given : Process → Process
  given q = record q { cpu = c }

  abbrev moved : World → World
  moved w = record w { processes = update w.processes p given }

  -- ---- no signal changes

  passes_still : (w : World) (test : State → Bool) (k : ℕ) → state_passes test (get (moved w).processes k) ≡ state_passes test (get w.processes k)
  passes_still w test k = ap (state_passes test) (get-update w.processes p given k) ∙ by_test (p == k) (get w.processes k)
    where
      by_test : (b : Bool) (o : Option Process) → state_passes test (if b then option_map given o else o) ≡ state_passes test o
      by_test true None = refl
      by_test true (Some x) = refl
      by_test false o = refl

  signals : (w : World) (k : ℕ) → active (moved w) k ≡ active w k
  unfolding active has_child_job has_child_process is_process
  signals w k = by_object (get w.objects k)
    where
      by_body : (raised : ℕ) (b : Body) → bit_or raised (implied (moved w) k b) ≡ bit_or raised (implied w k b)
      by_body raised (JobBody parent depth policy killed) = λ i. bit_or raised (bit_or (signal_if TERMINATED killed)
          (bit_or (signal_if NO_JOBS (not (has_child_job w k))) (signal_if NO_PROCESSES
          (not (list_any (λ e. is_process_of k e.1.body && passes_still w lives e.0 i) w.objects)))))
      by_body raised (ProcessBody job) = λ i. bit_or raised (signal_if TERMINATED (passes_still w has_ended k i))
      by_body raised _ = refl

      by_object : (o : Option Object) → active_of (moved w) k o ≡ active_of w k o
      by_object None = refl
      by_object (Some o) = by_body o.raised o.body

  -- ---- the same waits hold, and the same processes wake

  holds_still : (w : World) (x : Wait) → holds (moved w) x ≡ holds w x
  unfolding holds
  holds_still w x = ap (λ n. meets n x.mask) (signals w x.object)

  packet_still : (w : World) (x : Wait) → packet_of (moved w) x ≡ packet_of w x
  packet_still w x = λ i. record (packet_of w x) { observed = signals w x.object i }

  fires_still : (w : World) → fired (moved w) ≡ moved (fired w)
  unfolding fired
  fires_still w = λ i. record w {
    processes = update w.processes p given;
    objects = each (λ k o. record o {
      body = body_with_packets (map (λ x. packet_still w x i) (filter (λ x. x.port == k && holds_still w x i) w.waits))
          o.body;
    }) w.objects;
    waits = filter (λ x. not (holds_still w x i)) w.waits;
  }

  ready_still : (w : World) (q : ℕ) (x : Process) (destinations values : List ℕ) → (p == q) ≡ false
      → made_ready (moved w) q x destinations values ≡ moved (made_ready w q x destinations values)
  unfolding made_ready
  ready_still w q x destinations values apart = λ i. record (made_ready w q x destinations values)
      { processes = put_update w.processes p q given (record x { state = Ready; cpu = answered x.cpu destinations values }) apart i }

  module _ (w : World) (q : ℕ) (apart : (p == q) ≡ false) where
    by_packets : (x : Process) (k : ℕ) (ds : List ℕ) (o : Object) (packets : List Packet)
        → woken_by_first (moved w) q x k ds o packets ≡ moved (woken_by_first w q x k ds o packets)
    by_packets x k ds o [] = refl
    by_packets x k ds o (first ∷ rest) = ready_still (with_body w k o (PortBody rest)) q x ds _ apart

    by_body : (x : Process) (k : ℕ) (ds : List ℕ) (o : Object) (b : Body) → woken_by (moved w) q x k ds o b ≡ moved (woken_by w q x k ds o b)
    by_body x k ds o (PortBody packets) = by_packets x k ds o packets
    by_body x k ds o _ = refl

    by_object : (x : Process) (k : ℕ) (ds : List ℕ) (o : Option Object) → woken_at_port (moved w) q x k ds o ≡ moved (woken_at_port w q x k ds o)
    by_object x k ds None = refl
    by_object x k ds (Some o) = by_body x k ds o o.body

    by_state : (x : Process) (s : State) → woken_from (moved w) q x s ≡ moved (woken_from w q x s)
    by_state x (Blocked (SignalOf k mask) ds) = rw (signals w k) (by_test (meets (active w k) mask) (0 ∷ active w k ∷ []))
      where
        by_test : (b : Bool) (values : List ℕ) → (if b then made_ready (moved w) q x ds values else moved w) ≡ moved
            (if b then made_ready w q x ds values else w)
        by_test true values = ready_still w q x ds values apart
        by_test false values = refl
    by_state x (Blocked (PacketAt k) ds) = by_object x k ds (get w.objects k)
    by_state x _ = refl

    by_process : (o : Option Process) → woken_if_there (moved w) q o ≡ moved (woken_if_there w q o)
    by_process None = refl
    by_process (Some x) = by_state x x.state

    turn_still : woken (moved w) q ≡ moved (woken w q)
    unfolding woken
    turn_still = ap (woken_if_there (moved w) q) (get-update w.processes p given q ∙ rw apart refl) ∙ by_process (get w.processes q)

  turns_still : (w : World) (qs : List ℕ) → list_any (λ q. p == q) qs ≡ false → fold woken (moved w) qs ≡ moved (fold woken w qs)
  turns_still w [] none = refl
  turns_still w (q ∷ qs) none =
      let both = or_parts (p == q) _ none in
      ap (λ v. fold woken v qs) (turn_still w q both.0) ∙ turns_still (woken w q) qs both.1

  wakes_still : (w : World) → list_any (λ q. p == q) w.blocked ≡ false → wakes (moved w) ≡ moved (wakes w)
  unfolding wakes fired
  wakes_still w none = ap (λ v. fold woken v w.blocked) (fires_still w) ∙ turns_still (fired w) w.blocked none

-- a process that isn't among the blocked goes on by itself, and nothing is due where nothing was
pub moves_awake : (w : World) (p : ℕ) (c : Cpu) → list_any (λ q. p == q) w.blocked ≡ false → wakes w ≡ w
    → wakes (on_process w p (λ q. record q { cpu = c })) ≡ on_process w p (λ q. record q { cpu = c })
unfolding on_process
moves_awake w p c none awake = wakes_still p c w none ∙ ap (moved p c) awake
