-- The processes of a world stand in the order of their koids, each of which was given: each own step keeps that.
use Rattle.zl_code.proofs.Common.{AtCall, Awaited, Entry, IsStuck, IsTrue, Library, List, Map, Moves, Next, None, Object, Option, Packet, Process}
use Rattle.zl_code.proofs.Common.{Request, STUCK, Site, Some, State, Status, World, [], after_ok, after_refusal, ap, arith, awaited_by, cases_Bool}
use Rattle.zl_code.proofs.Common.{created_process, each, effect, ended, entering_at, fired, fold, get, get-each, get-update, has_key}
use Rattle.zl_code.proofs.Common.{if◌then◌else◌, in_order, inl, inr, insert_all, is_some, is_within, keeping, kept_by, length, made_ready, meets}
use Rattle.zl_code.proofs.Common.{new_handles, object_at, ok_outcome, on_object, on_process, option_map, packet_values}
use Rattle.zl_code.proofs.Common.{process_create, process_ended, process_killed, process_settled, process_start, process_with, process_without}
use Rattle.zl_code.proofs.Common.{receiver_of, refl, refusal, remove_all, replied, started_with, stored_by, storing, sym, taken, taken_handles}
use Rattle.zl_code.proofs.Common.{task_kill, update, waiting, wakes, with_body, with_effect, with_killed, with_object, without_others}
use Rattle.zl_code.proofs.Common.{woken, woken_at_port, woken_by, woken_by_first, woken_from, woken_if_there, ℕ, ℤ, ◌+◌, ◌<◌, ◌==◌, ◌∙◌, ◌∷◌, ◌≡◌, ◌≤◌}
use Rattle.zl_rights.proofs.MapEdits.{is_sorted-update, put_key, sorted_put}
use Rattle.zl_rights.specs.Settle.{Koids}
use Rattle.zl_rights.specs.Settled.{among, keys_of, settled, shrunk}
use Rattle.zl_rights.specs.Signals.{active}
use Rattle.zl_rights.specs.World.{Blocked, Body, PacketAt, PortBody, SignalOf}
use Rattle.zl_rights.specs.declared.status.Status.TheVariants as status
use Rattle.zl_code.specs.declared.history.CallName.{CallName}
use Rattle.zl_code.specs.declared.history.Outcome.{Outcome}
use Rattle.zl_code.specs.declared.history.Outcome.TheVariants as outcome
use Rattle.zl_code.specs.Own.{OwnWorld, own_values}
use Rattle.zl_code.specs.OwnSteps.{own_act, own_call, own_ending}
use Rattle.zl_code.proofs.MapKept.{in_order-each}
use Rattle.zl_explore.specs.Ordered.{IsOrdered}

-- ---- one change

key_same : (h : Process → Process) (found : Option Process) → is_some (option_map h found) ≡ is_some found
key_same h None = refl
key_same h (Some q) = refl

key_update : (m : Map Process) (k : ℕ) (h : Process → Process) (p : ℕ) → has_key (update m k h) p ≡ has_key m p
key_update m k h p = elim (cases_Bool (k == p)) as (λ _. has_key (update m k h) p ≡ has_key m p) [
  | inl here ↦ ap is_some (get-update m k h p) ∙ rw here (key_same h (get m p))
  | inr apart ↦ ap is_some (get-update m k h p) ∙ rw apart refl
]

key_each : (m : Map Process) (g : ℕ → Process → Process) (p : ℕ) → has_key (each g m) p ≡ has_key m p
key_each m g p = ap is_some (get-each m g p) ∙ key_same (g p) (get m p)

-- with these processes, and no koid less, it is as before
changed : (w : World) (m : Map Process) → IsTrue (in_order m) → ((p : ℕ) → has_key m p ≡ has_key w.processes p) → IsOrdered w
    → (t : World) → t.processes ≡ m → w.next_koid ≤ t.next_koid → IsOrdered t
changed w m order keys ordered t is more = record {
  order = rw is order;
  below = λ p there. let below : p < w.next_koid = ordered.below p (sym (keys p) ∙ rw is at there) in omega (arith, below, more);
}

ordered_on : (w : World) (k : ℕ) (h : Process → Process) → IsOrdered w → IsOrdered (on_process w k h)
unfolding on_process
ordered_on w k h ordered = changed w (update w.processes k h) (is_sorted-update w.processes k h ∙ ordered.order) (key_update w.processes k h) ordered
    (record w { processes = update w.processes k h }) refl (omega arith)

ordered_each : (w : World) (g : ℕ → Process → Process) → IsOrdered w → (t : World) → t.processes ≡ each g w.processes → w.next_koid ≤ t.next_koid → IsOrdered t
ordered_each w g ordered = changed w (each g w.processes) (in_order-each w.processes g ∙ ordered.order) (key_each w.processes g) ordered

ordered_same : (w : World) → IsOrdered w → (t : World) → t.processes ≡ w.processes → w.next_koid ≤ t.next_koid → IsOrdered t
ordered_same w ordered = changed w w.processes ordered.order (λ p. refl) ordered

ordered_insert : (w : World) (k : ℕ) (es : List Entry) (vs : List ℕ) → IsOrdered w → IsOrdered (insert_all w k es vs)
unfolding insert_all
ordered_insert w k [] vs ordered = ordered
ordered_insert w k (e ∷ es) [] ordered = ordered
ordered_insert w k (e ∷ es) (v ∷ vs) ordered = ordered_insert (on_process w k (process_with v e)) k es vs (ordered_on w k (process_with v e) ordered)

ordered_remove : (w : World) (k : ℕ) (hs : List ℕ) → IsOrdered w → IsOrdered (remove_all w k hs)
unfolding remove_all
ordered_remove w k [] ordered = ordered
ordered_remove w k (h ∷ hs) ordered = ordered_remove (on_process w k (process_without h)) k hs (ordered_on w k (process_without h) ordered)

ordered_stored : (w : World) (k : ℕ) (at : ℕ × List ℕ) → IsOrdered w → IsOrdered (storing w k at)
ordered_stored w k (address, []) ordered = ordered
ordered_stored w k (address, b ∷ bytes) ordered = ordered_on w k _ ordered

ordered_kept : (w : World) (k : ℕ) (kept : Option (ℕ × List ℕ)) → IsOrdered w → IsOrdered (keeping w k kept)
ordered_kept w k None ordered = ordered
ordered_kept w k (Some x) ordered = ordered_on w k _ ordered

ordered_ended : (w : World) (k : ℕ) (code : ℤ) → IsOrdered w → IsOrdered (ended w k code)
unfolding ended
ordered_ended w k code ordered = let on = ordered_on w k (process_ended code) ordered in record { order = on.order; below = on.below }

ordered_waiting : (w : World) (k : ℕ) (ds : List ℕ) (awaited : Option Awaited) → IsOrdered w → IsOrdered (waiting w k ds awaited)
ordered_waiting w k ds None ordered = ordered
ordered_waiting w k ds (Some awaited) ordered =
    let on = ordered_on w k (λ q. record q { state = Blocked awaited ds }) ordered in record { order = on.order; below = on.below }

-- ---- a call

module _ (lib : Library) (w : World) (p : ℕ) where
  ordered_effect : (t : World) (r : Request) (vs : List ℕ) → w.next_koid ≤ t.next_koid → IsOrdered t → IsOrdered (effect lib w t p r vs)
  unfolding effect on_object with_object with_killed
  ordered_effect t (process_create job program) vs given ordered = record {
    order = sorted_put t.processes w.next_koid (created_process lib program) ordered.order;
    below = λ q there. elim (put_key t.processes w.next_koid (created_process lib program) q there) as (λ _. q < t.next_koid + 1) [
      | inl new ↦ omega (arith, new, given)
      | inr old ↦ let below : q < t.next_koid = ordered.below q old in omega (arith, below)
    ];
  }
  ordered_effect t (process_start process h word) vs given ordered = ordered_on t (object_at w p process) (started_with vs word) ordered
  ordered_effect t (task_kill task) vs given ordered =
      ordered_each t (λ k q. process_killed (is_within t.objects (object_at w p task) k) q) ordered _ refl (omega arith)
  ordered_effect t _ vs given ordered = ordered_same t ordered _ refl (omega arith)

  ordered_effects : (t : World) (r : Request) (vs : List ℕ) → w.next_koid ≤ t.next_koid → IsOrdered t → IsOrdered (with_effect lib w t p r vs)
  ordered_effects t r vs given ordered = ordered_kept _ p (kept_by r vs) (ordered_stored _ p (stored_by w p r)
      (ordered_insert _ (receiver_of w p r) (new_handles w p r) (entering_at r vs) (ordered_effect t r vs given ordered)))

  given_left : (hs : List ℕ) (t : World) → (remove_all t p hs).next_koid ≡ t.next_koid
  unfolding remove_all on_process
  given_left [] t = refl
  given_left (h ∷ hs) t = given_left hs (on_process t p (process_without h))

  ordered_replied : (t : World) (s : Site) (answer : Status) (values : List ℕ) → IsOrdered t → IsOrdered (replied t p s answer values)
  unfolding replied
  ordered_replied t s answer values ordered = ordered_on t p _ ordered

  ordered_refusal : (s : Site) (o : Outcome) → IsOrdered w → IsOrdered (after_refusal w p s o)
  ordered_refusal s (outcome.Answered answer) ordered = ordered_replied _ s answer _ (ordered_remove w p (taken_handles s.request) ordered)
  ordered_refusal s (outcome.Ended code) ordered = ordered_ended w p code ordered
  ordered_refusal s outcome.Blocked ordered = ordered

  ordered_done : (s : Site) (vs : List ℕ) → IsOrdered w → IsOrdered (with_effect lib w (taken w p s) p s.request vs)
  ordered_done s vs ordered =
      let same : (taken w p s).next_koid ≡ w.next_koid = given_left (taken_handles s.request) w in
      ordered_effects (taken w p s) s.request vs (omega (arith, same)) (ordered_remove w p (taken_handles s.request) ordered)

  ordered_ok : (s : Site) (vs : List ℕ) (o : Outcome) → IsOrdered w → IsOrdered (after_ok lib w p s vs o)
  ordered_ok s vs (outcome.Answered answer) ordered = ordered_replied _ s status.Ok _ (ordered_done s vs ordered)
  ordered_ok s vs (outcome.Ended code) ordered = ordered_ended _ p code (ordered_done s vs ordered)
  ordered_ok s vs outcome.Blocked ordered = ordered_waiting w p s.destinations (awaited_by w p s.request) ordered

module _ (lib : Library) (o : OwnWorld) (p : ℕ) (ordered : IsOrdered o.world) where
  ordered_call : (call : CallName) (s : Site) (refused : Option Outcome) → IsOrdered (own_call lib o p call s refused).world
  ordered_call call s (Some answer) = ordered_refusal lib o.world p s answer ordered
  ordered_call call s None = ordered_ok lib o.world p s (own_values o p s.request) (ok_outcome o.world p s.request) ordered

  pub ordered_act : (n : Next) → IsOrdered (own_act lib o p n).world
  ordered_act (Moves c) = ordered_on o.world p _ ordered
  ordered_act (AtCall call s) = ordered_call call s (refusal lib o.world p s.request)
  ordered_act IsStuck = ordered_ended o.world p STUCK ordered

-- ---- what follows

ordered_others : (w : World) (K : Koids) → IsOrdered w → IsOrdered (without_others w K)
unfolding without_others
ordered_others w K ordered = ordered_each w (process_settled K) ordered _ refl (omega arith)

ordered_ready : (w : World) (p : ℕ) (q x : Process) (ds vs : List ℕ) → get w.processes p ≡ Some x → IsOrdered w → IsOrdered (made_ready w p q ds vs)
unfolding made_ready
ordered_ready w p q x ds vs there ordered = record {
  order = sorted_put w.processes p _ ordered.order;
  below = λ k at. elim (put_key w.processes p _ k at) as (λ _. k < w.next_koid) [
    | inl here ↦ let below : p < w.next_koid = ordered.below p (ap is_some there) in omega (arith, here, below)
    | inr old ↦ ordered.below k old
  ];
}

module _ (w : World) (p : ℕ) (q : Process) (there : get w.processes p ≡ Some q) (ordered : IsOrdered w) where
  ordered_first : (k : ℕ) (ds : List ℕ) (o : Object) (xs : List Packet) → IsOrdered (woken_by_first w p q k ds o xs)
  ordered_first k ds o [] = ordered
  ordered_first k ds o (x ∷ rest) =
      ordered_ready (with_body w k o (PortBody rest)) p q q ds (0 ∷ packet_values x) there (record { order = ordered.order; below = ordered.below })

  ordered_by : (k : ℕ) (ds : List ℕ) (o : Object) (b : Body) → IsOrdered (woken_by w p q k ds o b)
  ordered_by k ds o (PortBody packets) = ordered_first k ds o packets
  ordered_by k ds o _ = ordered

  ordered_port : (k : ℕ) (ds : List ℕ) (found : Option Object) → IsOrdered (woken_at_port w p q k ds found)
  ordered_port k ds None = ordered
  ordered_port k ds (Some o) = ordered_by k ds o o.body

  ordered_from : (s : State) → IsOrdered (woken_from w p q s)
  ordered_from (Blocked (SignalOf k mask) ds) = elim (cases_Bool (meets (active w k) mask))
      as (λ _. IsOrdered (if meets (active w k) mask then made_ready w p q ds (0 ∷ active w k ∷ []) else w)) [
        | inl holds ↦ rw holds (ordered_ready w p q q ds (0 ∷ active w k ∷ []) there ordered)
        | inr not ↦ rw not ordered
      ]
  ordered_from (Blocked (PacketAt k) ds) = ordered_port k ds (get w.objects k)
  ordered_from _ = ordered

ordered_woken : (w : World) (p : ℕ) → IsOrdered w → IsOrdered (woken w p)
unfolding woken
ordered_woken w p ordered = by_found (get w.processes p) refl
  where
    by_found : (found : Option Process) → get w.processes p ≡ found → IsOrdered (woken_if_there w p found)
    by_found None there = ordered
    by_found (Some q) there = ordered_from w p q there ordered q.state

ordered_all : (ps : List ℕ) (w : World) → IsOrdered w → IsOrdered (fold woken w ps)
ordered_all [] w ordered = ordered
ordered_all (p ∷ ps) w ordered = ordered_all ps (woken w p) (ordered_woken w p ordered)

ordered_wakes : (w : World) → IsOrdered w → IsOrdered (wakes w)
unfolding wakes fired
ordered_wakes w ordered = ordered_all w.blocked (fired w) (record { order = ordered.order; below = ordered.below })

pub ordered_ending : (w : World) → IsOrdered w → IsOrdered (own_ending w)
ordered_ending w ordered = ordered_wakes (settled w) (ordered_others w (among (shrunk w (length (keys_of w.objects)) (keys_of w.objects))) ordered)
