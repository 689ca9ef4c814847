-- Objects that are the same but for waits and the places for their packets: the world sees the same, and the invariant holds.
use Rattle.zl_calls.proofs.Common.{Agrees, AreBeside, AreNamed, AreSameButWaits, Body, Bool, Entry, IsConsistent, IsNamed, IsTrue, List, Map, None, Object}
use Rattle.zl_calls.proofs.Common.{Objects, Option, Port, Process, Some, Watch, World, [], ap, at_port, at_port_of, bare, body_value, cases_Bool, changed_port}
use Rattle.zl_calls.proofs.Common.{each, eqb-true, false, false≢true, find, get, handles_to, has_key, inl, inr, is_some, kind_of, map, object_entry, queue_held}
use Rattle.zl_calls.proofs.Common.{refl, same_Some, subst, sym, unwatched, unwatching, update, waits_in, watch_of, watched, watching, without_place}
use Rattle.zl_calls.proofs.Common.{world_value, ℕ, ◌==◌, ◌∙◌, ◌∷◌, ◌≡◌}
use Rattle.zl_port.specs.Packets.{with_place}
use Rattle.zl_objects.specs.declared.object.Body.TheVariants as body
use Rattle.zl_objects.specs.declared.wait.Wait.{Wait}
use Rattle.zl_objects.specs.Ports.{unreserved}
use Rattle.zl_objects.proofs.Bare.{IsAlike, agrees_same, alike, has_same, in_job_same, of_body, same_then, seen_same, still_kept}
use Rattle.zl_calls.proofs.objects.SameBodies.{still_named}

-- ---- what stays

module _ (ps : List Process) (r r2 : Objects) (beside : AreBeside r r2) where
  pub beside_seen : map object_entry r2.objects ≡ map object_entry r.objects
  beside_seen = seen_same r.objects r2.objects beside.objects

  -- the world without its waits is the same
  pub beside_world : world_value ps r2 ≡ world_value ps r
  beside_world = λ i. record (world_value ps r) { objects = beside_seen i; next_koid = beside.koids i }

  module _ (consistent : IsConsistent ps r) where
    was : (k : ℕ) (o : Object) → get r2.objects k ≡ Some o → IsAlike r.objects k o
    was = alike r.objects r2.objects beside.objects

    is_now : (k : ℕ) → IsTrue (has_key r.objects k) → (o : Object) × (get r2.objects k ≡ Some o)
    is_now k there = by_object (get r2.objects k) refl
      where
        by_object : (o : Option Object) → get r2.objects k ≡ o → (o : Object) × (get r2.objects k ≡ Some o)
        by_object None is = absurd (false≢true (sym (ap (λ (o : Option Object). is_some o) is) ∙ (has_same r.objects r2.objects beside.objects k ∙ there)))
        by_object (Some o) is = (o, is)

    named : (e : Entry) → IsNamed r.objects e → IsNamed r2.objects e
    named e names =
        let (o, at) = is_now e.koid (rw names.there refl) in
        let old : IsAlike r.objects e.koid o = was e.koid o at in
        record {
          object = o;
          there = at;
          kind = names.kind ∙ (ap (λ (x : Object). kind_of (body_value x.body)) (same_Some names.object old.before (sym names.there ∙ old.there))
              ∙ sym (of_body (λ b. kind_of (body_value b)) (λ packets reserved. refl) o.body old.before.body old.body));
          rights = names.rights;
        }

    pub beside_consistent : IsConsistent ps r2
    beside_consistent = record {
      processes_in_order = consistent.processes_in_order;
      given_processes = λ k there. rw beside.koids (consistent.given_processes k there);
      given_objects = λ k there. rw beside.koids (consistent.given_objects k (sym (has_same r.objects r2.objects beside.objects k) ∙ there));
      koids = rw beside.koids consistent.koids;
      above_zero = rw beside.koids consistent.above_zero;
      no_zero = λ k there. consistent.no_zero k (sym (has_same r.objects r2.objects beside.objects k) ∙ there);
      tables = consistent.tables;
      named = λ k p v e at there. named e (consistent.named k p v e at there);
      queued = λ k o at.
          let old : IsAlike r.objects k o = was k o at in
          subst (AreNamed r2.objects) (sym (of_body queue_held (λ packets reserved. refl) o.body old.before.body old.body))
          (still_named r.objects r2.objects named (queue_held old.before.body) (consistent.queued k old.before old.there));
      counted = λ k o at.
          let old : IsAlike r.objects k o = was k o at in
          old.handles ∙ (consistent.counted k old.before old.there ∙ ap (λ (w : World). handles_to w k) (sym beside_world));
      agrees = λ k o at.
          let old : IsAlike r.objects k o = was k o at in
          subst (λ (w : World). Agrees w k o.body) (sym beside_world)
          (agrees_same (world_value ps r) k o.body old.before.body old.body (consistent.agrees k old.before old.there));
      in_jobs = λ k o at.
          let old : IsAlike r.objects k o = was k o at in
          in_job_same r.objects r2.objects beside.objects o.body old.before.body old.body ∙ consistent.in_jobs k old.before old.there;
      kept = still_kept r.objects r2.objects beside.objects [] consistent.kept;
    }

pub beside_same : (r : Objects) → AreBeside r r
beside_same r = record { objects = refl; koids = refl }

pub beside_then : (r mid r2 : Objects) → AreBeside r mid → AreBeside mid r2 → AreBeside r r2
beside_then r mid r2 first later =
    record { objects = same_then r.objects mid.objects r2.objects first.objects later.objects; koids = later.koids ∙ first.koids }

-- ---- which changes are such

-- a change of one object that leaves it the same but for waits
pub one_bare : (m : Map Object) (k : ℕ) (f : Object → Object) → ((o : Object) → bare (f o) ≡ bare o) → AreSameButWaits m (update m k f)
unfolding each update
one_bare [] k f same = refl
one_bare (e ∷ m) k f same = elim (cases_Bool (e.0 == k)) as (λ _. each (λ j. bare) (e ∷ m) ≡ each (λ j. bare) (update (e ∷ m) k f)) [
  | inl here ↦ rw here (λ i. (eqb-true e.0 k here i, sym (same e.1) i) ∷ each (λ j. bare) m)
  | inr apart ↦ rw apart (ap (λ (rest : Map Object). (e.0, bare e.1) ∷ rest) (one_bare m k f same))
]

-- a port with other places is the same
place_bare : (f : Port → Port) → ((p : Port) → (f p).packets ≡ p.packets) → (o : Object) → bare (at_port f o) ≡ bare o
place_bare f same o = λ i. record { body = by_body o.body i; signals = record { raised = o.signals.raised; waits = [] }; handles = o.handles; asleep = false }
  where
    by_body : (b : Body) → unreserved (changed_port f b) ≡ unreserved b
    by_body (body.Port p) = λ i. body.Port (record { packets = same p i; reserved = 0 })
    by_body _ = refl

-- a wait begins
pub watching_beside : (r : Objects) (x : Wait) → AreBeside r (watching r x)
watching_beside r x = record {
  objects = same_then r.objects (update r.objects x.port (at_port with_place)) (watching r x).objects
      (one_bare r.objects x.port (at_port with_place) (place_bare with_place (λ p. refl)))
      (one_bare (update r.objects x.port (at_port with_place)) x.object (watched (watch_of r.waits_made x)) (λ o. refl));
  koids = refl;
}

-- a wait ends
pub unwatching_beside : (r : Objects) (k : ℕ) (test : Watch → Bool) → AreBeside r (unwatching r k test)
unwatching_beside r k test = record {
  objects = same_then r.objects (update r.objects k (unwatched test)) (unwatching r k test).objects
      (one_bare r.objects k (unwatched test) (λ o. refl))
      (by_wait (find test (waits_in (get r.objects k))));
  koids = refl;
}
  where
    by_wait : (x : Option Watch)
        → AreSameButWaits (update r.objects k (unwatched test)) (at_port_of x (λ x. without_place) (update r.objects k (unwatched test)))
    by_wait None = refl
    by_wait (Some x) = one_bare (update r.objects k (unwatched test)) x.port (at_port without_place) (place_bare without_place (λ p. refl))
