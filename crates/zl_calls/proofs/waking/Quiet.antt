-- Where the objects are quiet, no wait fires and no process wakes.
use Rattle.zl_calls.proofs.Common.{Blocked, Body, Bool, FiresWaits, IsConsistent, List, None, Object, Objects, Option, Packet, PacketAt, Process, ProcessValue}
use Rattle.zl_calls.proofs.Common.{SignalOf, Some, StateValue, Wait, World, [], active, ap, awaited_of, false, false≢true, fired-same, fold, get, get_seen}
use Rattle.zl_calls.proofs.Common.{has_child_job, has_child_process, holds, holds_now, is_due, is_empty, is_process, list_any, made_ready, map, meets}
use Rattle.zl_calls.proofs.Common.{none_holds, not, object_value, packets_found, packets_of, process_entry, refl, signals_at, subst, sym, wakes, woken}
use Rattle.zl_calls.proofs.Common.{woken_at_port, world_blocked, ℕ, ◌∙◌, ◌∷◌, ◌≡◌}
use Rattle.zl_rights.specs.World.{Awaited}
use Rattle.zl_objects.specs.declared.object.Body.TheVariants as body
use Rattle.zl_calls.proofs.objects.Active.{signals_active}

module _ (ps : List Process) (r : Objects) (consistent : IsConsistent ps r) where
  pub active_there : (blocked : List ℕ) (k : ℕ) → active (world_blocked ps r blocked) k ≡ signals_at r.objects k
  unfolding active is_process has_child_job has_child_process
  active_there blocked k = sym (signals_active ps r consistent k)

  holds_there : (blocked : List ℕ) → holds (world_blocked ps r blocked) ≡ holds_now r.objects
  unfolding holds
  holds_there blocked = λ i. λ x. meets (active_there blocked x.object i) x.mask

  -- no wait fires
  pub quiet_fires : list_any (holds_now r.objects) r.waits ≡ false → FiresWaits ps r r
  quiet_fires none = record {
    world = λ blocked.
        sym (fired-same (world_blocked ps r blocked) (ap (λ (test : Wait → Bool). list_any test r.waits) (holds_there blocked) ∙ none));
    consistent = consistent;
    asleep = (refl, refl);
  }

  module _ (blocked : List ℕ) where
    no_packet : (xs : List Packet) → not (is_empty xs) ≡ false → xs ≡ []
    no_packet [] h = refl
    no_packet (x ∷ xs) h = absurd (false≢true (sym h))

    idle_port : (q : ℕ) (p : ProcessValue) (port : ℕ) (ds : List ℕ) (o : Option Object) → get r.objects port ≡ o → not (is_empty (packets_found o)) ≡ false
        → woken_at_port (world_blocked ps r blocked) q p port ds (get (world_blocked ps r blocked).objects port) ≡ world_blocked ps r blocked
    idle_port q p port ds None at quiet = rw (get_seen r.objects port, at) refl
    idle_port q p port ds (Some o) at quiet = rw (get_seen r.objects port, at) (by_body o.body quiet)
      where
        by_body : (b : Body) → not (is_empty (packets_of b)) ≡ false
            → woken_at_port (world_blocked ps r blocked) q p port ds (Some (object_value (record o { body = b }))) ≡ world_blocked ps r blocked
        by_body (body.Port own) quiet = rw (no_packet own.packets quiet) refl
        by_body (body.Job own) quiet = refl
        by_body (body.Process job l) quiet = refl
        by_body body.Event quiet = refl
        by_body (body.ChannelEnd peer queue) quiet = refl
        by_body (body.PairEnd peer) quiet = refl

    -- a process doesn't wake for which nothing is there
    pub idle : (q : ℕ) → ((p : ProcessValue) (a : Awaited) (ds : List ℕ) → get (map process_entry ps) q ≡ Some p → p.state ≡ Blocked a ds
        → is_due r.objects (awaited_of a) ≡ false) → woken (world_blocked ps r blocked) q ≡ world_blocked ps r blocked
    unfolding woken made_ready
    idle q quiet = by_process (get (map process_entry ps) q) refl
      where
        by_state : (p : ProcessValue) → get (map process_entry ps) q ≡ Some p → (s : StateValue) → p.state ≡ s
            → woken (world_blocked ps r blocked) q ≡ world_blocked ps r blocked
        by_state p there (Blocked (SignalOf k mask) ds) is =
            let none : meets (signals_at r.objects k) mask ≡ false = quiet p (SignalOf k mask) ds there is in
            rw (there, is, active_there blocked k, none) refl
        by_state p there (Blocked (PacketAt k) ds) is = rw (there, is) (idle_port q p k ds (get r.objects k) refl (quiet p (PacketAt k) ds there is))
        by_state p there _ is = rw (there, is) refl

        by_process : (o : Option ProcessValue) → get (map process_entry ps) q ≡ o → woken (world_blocked ps r blocked) q ≡ world_blocked ps r blocked
        by_process None there = rw there refl
        by_process (Some p) there = by_state p there p.state refl

    -- none wakes
    pub quiet_wakes : ((k : ℕ) (p : ProcessValue) (a : Awaited) (ds : List ℕ) → get (map process_entry ps) k ≡ Some p → p.state ≡ Blocked a ds
        → is_due r.objects (awaited_of a) ≡ false) → (qs : List ℕ) → fold woken (world_blocked ps r blocked) qs ≡ world_blocked ps r blocked
    quiet_wakes quiet [] = refl
    quiet_wakes quiet (q ∷ qs) = ap (λ (w : World). fold woken w qs) (idle q (quiet q)) ∙ quiet_wakes quiet qs

-- in a world in which nothing is due no wait holds
module _ (ps : List Process) (r : Objects) (consistent : IsConsistent ps r) (blocked : List ℕ)
    (awake : wakes (world_blocked ps r blocked) ≡ world_blocked ps r blocked) where
  pub none_holding : list_any (holds_now r.objects) r.waits ≡ false
  none_holding =
      ap (λ (test : Wait → Bool). list_any test r.waits) (sym (holds_there ps r consistent blocked))
      ∙ subst (λ (v : World). list_any (holds v) v.waits ≡ false) awake (none_holds (world_blocked ps r blocked))
