-- Who is ready or over stays as it is while another steps, or is killed.
use Rattle.zl_code.proofs.Common.{AtCall, Bool, Created, IsStuck, Library, List, Moves, Next, None, Object, Option, Packet, Process, Ready, Request, STUCK}
use Rattle.zl_code.proofs.Common.{Site, Some, State, World, [], after_ok, after_refusal, ap, arith, awaited_by, cases_Bool, close, created_process, effect}
use Rattle.zl_code.proofs.Common.{entering_at, eqb-true, false, fired, fold, get, get-each, get-put, get-update, if◌then◌else◌, inl, inr, is_ready, is_some}
use Rattle.zl_code.proofs.Common.{is_within, kept_by, length, lives, made_ready, meets, ne_eqb, new_handles, next_for, none-some, object_at, ok_outcome}
use Rattle.zl_code.proofs.Common.{on_object, on_process, packet_values, process_create, process_killed, process_settled, process_start, receiver_of, refl}
use Rattle.zl_code.proofs.Common.{refusal, same_Some, started_with, state_without, stored_by, subst, sym, taken, taken_handles, task_kill, true, true≢false}
use Rattle.zl_code.proofs.Common.{wakes, with_body, with_effect, with_killed, with_object, without_others, woken, woken_at_port, woken_by, woken_by_first}
use Rattle.zl_code.proofs.Common.{woken_from, woken_if_there, ℕ, ⊤, ◌<◌, ◌==◌, ◌∙◌, ◌∷◌, ◌≡◌}
use Rattle.zl_rights.specs.Settle.{Koids}
use Rattle.zl_rights.specs.Settled.{among, keys_of, settled, shrunk}
use Rattle.zl_rights.specs.Signals.{active}
use Rattle.zl_rights.specs.World.{Blocked, Body, PacketAt, PortBody, SignalOf}
use Rattle.zl_code.specs.declared.history.CallName.{CallName}
use Rattle.zl_code.specs.declared.history.Outcome.{Outcome}
use Rattle.zl_code.specs.declared.history.TraceItem.{TraceItem}
use Rattle.zl_code.specs.declared.history.Outcome.TheVariants as outcome
use Rattle.zl_rights.specs.declared.status.Status.TheVariants as status
use Rattle.zl_code.specs.Own.{OwnWorld, own_values}
use Rattle.zl_code.specs.OwnSteps.{own_act, own_behind, own_call, own_of, own_step}
use Rattle.zl_code.proofs.TaskLaws.{child_of}
use Rattle.zl_code.proofs.Frame.{ended_other, enter_other, kept_other, left_other, replied_other, stored_other, waiting_other}
use Rattle.zl_explore.specs.Cpus.{may_be_woken}
use Rattle.zl_explore.specs.Ordered.{IsOrdered}
use Rattle.zl_explore.proofs.BesideSteps.{is_ready_Ready}

-- it stands there
abbrev Stays : ℕ → Process → World → Type 0
Stays k x t = get t.processes k ≡ Some x

-- ---- what follows a step

module _ (k : ℕ) (x : Process) (still : may_be_woken x.state ≡ false) where
  state_same : (kept : Bool) (s : State) → may_be_woken s ≡ false → state_without kept s ≡ s
  state_same kept Created rests = absurd (true≢false rests)
  state_same kept _ rests = refl

  stays_others : (t : World) (K : Koids) → Stays k x t → Stays k x (without_others t K)
  unfolding without_others
  stays_others t K stays = get-each t.processes (process_settled K) k ∙ rw stays (λ i. Some (record x { state = state_same (K k) x.state still i }))

  stays_settled : (t : World) → Stays k x t → Stays k x (settled t)
  stays_settled t stays = stays_others t (among (shrunk t (length (keys_of t.objects)) (keys_of t.objects))) stays

  stays_ready : (t : World) (j : ℕ) (q : Process) (ds vs : List ℕ) → (j == k) ≡ false → Stays k x t → Stays k x (made_ready t j q ds vs)
  unfolding made_ready
  stays_ready t j q ds vs apart stays = get-put t.processes j _ k ∙ rw apart stays

  -- who is made or blocked is another
  others_apart : (t : World) → Stays k x t → (j : ℕ) (y : Process) → get t.processes j ≡ Some y → may_be_woken y.state ≡ true → (j == k) ≡ false
  others_apart t stays j y at may = elim (cases_Bool (j == k)) as (λ _. (j == k) ≡ false) [
    | inl here ↦ let same : y ≡ x = same_Some y x (sym at ∙ (ap (get t.processes) (eqb-true j k here) ∙ stays)) in
        absurd (true≢false (sym may ∙ (λ i. may_be_woken (same i).state) ∙ still))
    | inr is ↦ is
  ]

  -- who wakes was blocked
  stays_from : (t : World) (j : ℕ) (q : Process) (s : State) → (may_be_woken s ≡ true → (j == k) ≡ false) → Stays k x t → Stays k x (woken_from t j q s)
  stays_from t j q (Blocked (SignalOf o mask) ds) apart stays = elim (cases_Bool (meets (active t o) mask))
      as (λ _. Stays k x (if meets (active t o) mask then made_ready t j q ds (0 ∷ active t o ∷ []) else t)) [
        | inl holds ↦ rw holds (stays_ready t j q ds (0 ∷ active t o ∷ []) (apart refl) stays)
        | inr not ↦ rw not stays
      ]
  stays_from t j q (Blocked (PacketAt o) ds) apart stays = by_object (get t.objects o)
    where
      by_first : (ob : Object) (xs : List Packet) → Stays k x (woken_by_first t j q o ds ob xs)
      by_first ob [] = stays
      by_first ob (y ∷ rest) = stays_ready (with_body t o ob (PortBody rest)) j q ds (0 ∷ packet_values y) (apart refl) stays

      by_body : (ob : Object) (b : Body) → Stays k x (woken_by t j q o ds ob b)
      by_body ob (PortBody packets) = by_first ob packets
      by_body ob _ = stays

      by_object : (found : Option Object) → Stays k x (woken_at_port t j q o ds found)
      by_object None = stays
      by_object (Some ob) = by_body ob ob.body
  stays_from t j q _ apart stays = stays

  stays_woken : (t : World) (j : ℕ) → Stays k x t → Stays k x (woken t j)
  unfolding woken
  stays_woken t j stays = by_found (get t.processes j) refl
    where
      by_found : (found : Option Process) → get t.processes j ≡ found → Stays k x (woken_if_there t j found)
      by_found None at = stays
      by_found (Some q) at = stays_from t j q q.state (others_apart t stays j q at) stays

  stays_all : (js : List ℕ) (t : World) → Stays k x t → Stays k x (fold woken t js)
  stays_all [] t stays = stays
  stays_all (j ∷ js) t stays = stays_all js (woken t j) (stays_woken t j stays)

  stays_wakes : (t : World) → Stays k x t → Stays k x (wakes t)
  unfolding wakes fired
  stays_wakes t stays = stays_all t.blocked (fired t) stays

-- ---- what a process does

-- it stands there, or was killed
abbrev pub Stands : ℕ → Process → World → Type 0
Stands k x t = (killed : Bool) × (get t.processes k ≡ Some (process_killed killed x))

-- the call starts another
abbrev StartsOther : ℕ → World → ℕ → Request → Type 0
StartsOther k w p (process_start process h word) = (object_at w p process == k) ≡ false
StartsOther k w p _ = ⊤

module _ (k : ℕ) (x : Process) (still : may_be_woken x.state ≡ false) where
  still_killed : (killed : Bool) → may_be_woken (process_killed killed x).state ≡ false
  still_killed true = elim (cases_Bool (lives x.state)) as (λ _. may_be_woken (process_killed true x).state ≡ false) [
    | inl alive ↦ rw alive refl
    | inr over ↦ rw over still
  ]
  still_killed false = still

  module _ (lib : Library) (w : World) (p : ℕ) (apart : (p == k) ≡ false) (fresh : (w.next_koid == k) ≡ false) (stays : Stays k x w) where
    stands_effect : (t : World) (r : Request) (vs : List ℕ) → StartsOther k w p r → Stays k x t → Stands k x (effect lib w t p r vs)
    unfolding effect on_object with_object on_process with_killed
    stands_effect t (process_create job program) vs other at = (false, get-put t.processes w.next_koid (created_process lib program) k ∙ rw fresh at)
    stands_effect t (process_start process h word) vs other at =
        (false, get-update t.processes (object_at w p process) (started_with vs word) k ∙ rw other at)
    stands_effect t (task_kill task) vs other at = (
      is_within t.objects (object_at w p task) k,
      get-each t.processes (λ j. process_killed (is_within t.objects (object_at w p task) j)) k ∙ rw at refl,
    )
    stands_effect t _ vs other at = (false, at)

    receiver_apart : (r : Request) → StartsOther k w p r → (receiver_of w p r == k) ≡ false
    receiver_apart (process_start process h word) other = other
    receiver_apart (close h) other = apart
    receiver_apart _ other = apart

    stays_taken : (s : Site) → Stays k x (taken w p s)
    stays_taken s = left_other p k apart (taken_handles s.request) w ∙ stays

    stands_effects : (s : Site) (vs : List ℕ) → StartsOther k w p s.request → Stands k x (with_effect lib w (taken w p s) p s.request vs)
    stands_effects s vs other =
        let done = stands_effect (taken w p s) s.request vs other (stays_taken s) in (
          done.0,
          kept_other p k apart (kept_by s.request vs) _ ∙ (stored_other p k apart (stored_by w p s.request) _
              ∙ (enter_other (receiver_of w p s.request) k (receiver_apart s.request other) _ (new_handles w p s.request) (entering_at s.request vs)
              ∙ done.1)),
        )

    stays_refusal : (s : Site) (o : Outcome) → Stays k x (after_refusal w p s o)
    stays_refusal s (outcome.Answered answer) = replied_other p k apart _ s answer _ ∙ stays_taken s
    stays_refusal s (outcome.Ended code) = ended_other p k apart w code ∙ stays
    stays_refusal s outcome.Blocked = stays

    stands_ok : (s : Site) (vs : List ℕ) (o : Outcome) → StartsOther k w p s.request → Stands k x (after_ok lib w p s vs o)
    stands_ok s vs (outcome.Answered answer) other =
        let done = stands_effects s vs other in (done.0, replied_other p k apart _ s status.Ok _ ∙ done.1)
    stands_ok s vs (outcome.Ended code) other = let done = stands_effects s vs other in (done.0, ended_other p k apart _ code ∙ done.1)
    stands_ok s vs outcome.Blocked other = (false, waiting_other p k apart w s.destinations (awaited_by w p s.request) ∙ stays)

  module _ (lib : Library) (o : OwnWorld) (p : ℕ) (q : Process) (there : get o.world.processes p ≡ Some q) (ready : q.state ≡ Ready)
      (apart : (p == k) ≡ false) (fresh : (o.world.next_koid == k) ≡ false) (stays : Stays k x o.world) where
    starts_other : (r : Request) → refusal lib o.world p r ≡ None → StartsOther k o.world p r
    starts_other (process_start process h word) passes =
        let child = child_of lib o.world p q there ready process h word passes in
        others_apart k x still o.world stays (object_at o.world p process) child.0 child.1 (ap may_be_woken child.2)
    starts_other _ passes = tt

    stands_call : (call : CallName) (s : Site) (refused : Option Outcome) → refusal lib o.world p s.request ≡ refused
        → Stands k x (own_call lib o p call s refused).world
    stands_call call s (Some answer) is = (false, stays_refusal lib o.world p apart fresh stays s answer)
    stands_call call s None is = stands_ok lib o.world p apart fresh stays s (own_values o p s.request) (ok_outcome o.world p s.request)
        (starts_other s.request is)

    stands_act : (n : Next) → Stands k x (own_act lib o p n).world
    unfolding on_process
    stands_act (Moves c) = (false, get-update o.world.processes p _ k ∙ rw apart stays)
    stands_act (AtCall call s) = stands_call call s (refusal lib o.world p s.request) refl
    stands_act IsStuck = (false, ended_other p k apart o.world STUCK ∙ stays)

    stands : (n : Next) → Stands k x (own_behind (own_act lib o p n)).0.world
    stands n =
        let done = stands_act n in
        let settles = stays_settled k (process_killed done.0 x) (still_killed done.0) (own_act lib o p n).world done.1 in
        (done.0, stays_wakes k (process_killed done.0 x) (still_killed done.0) (settled (own_act lib o p n).world) settles)

-- ---- own steps

-- the own step was that of a ready process
pub record StepsFrom (lib : Library) (o : OwnWorld) (p : ℕ) (after : OwnWorld) (y : TraceItem) : Type 0 where
  pub process : Process
  pub there : get o.world.processes p ≡ Some process
  pub ready : process.state ≡ Ready
  pub is : own_behind (own_act lib o p (next_for lib process)) ≡ (after, y)

pub steps_from : (lib : Library) (o after : OwnWorld) (p : ℕ) (y : TraceItem) → own_step lib o p ≡ Some (after, y) → StepsFrom lib o p after y
steps_from lib o after p y step = by_found (get o.world.processes p) refl step
  where
    by_found : (found : Option Process) → get o.world.processes p ≡ found → own_of lib o p found ≡ Some (after, y) → StepsFrom lib o p after y
    by_found None there step = absurd (none-some _ step)
    by_found (Some q) there step = by_test (is_ready q.state) refl step
      where
        by_test : (b : Bool) → is_ready q.state ≡ b → (if b then Some (own_behind (own_act lib o p (next_for lib q))) else None) ≡ Some (after, y)
            → StepsFrom lib o p after y
        by_test false unready step = absurd (none-some _ step)
        by_test true ready step = record { process = q; there = there; ready = is_ready_Ready q.state ready; is = same_Some _ _ step }

-- behind that of another a process stands as it was, or was killed
pub stands_behind : (k : ℕ) (x : Process) → may_be_woken x.state ≡ false → (lib : Library) (o after : OwnWorld) (p : ℕ) (y : TraceItem)
    → IsOrdered o.world → (p == k) ≡ false → get o.world.processes k ≡ Some x → own_step lib o p ≡ Some (after, y) → Stands k x after.world
stands_behind k x still lib o after p y ordered apart stays step =
    let from = steps_from lib o after p y step in
    let below : k < o.world.next_koid = ordered.below k (ap is_some stays) in
    subst (λ (z : OwnWorld × TraceItem). Stands k x z.0.world) from.is
    (stands k x still lib o p from.process from.there from.ready apart (ne_eqb o.world.next_koid k (λ e. omega (arith, e, below))) stays
    (next_for lib from.process))

-- so who is over stays as it is, whoever steps
pub over_stays : (k : ℕ) (x : Process) → lives x.state ≡ false → (lib : Library) (o after : OwnWorld) (p : ℕ) (y : TraceItem) → IsOrdered o.world
    → get o.world.processes k ≡ Some x → own_step lib o p ≡ Some (after, y) → get after.world.processes k ≡ Some x
over_stays k x over lib o after p y ordered stays step =
    let stood = stands_behind k x (rests x.state over) lib o after p y ordered (ne_eqb p k different) stays step in stood.1 ∙ ap Some (killed_same stood.0)
  where
    rests : (s : State) → lives s ≡ false → may_be_woken s ≡ false
    rests Created dead = absurd (true≢false dead)
    rests (Blocked awaited ds) dead = absurd (true≢false dead)
    rests _ dead = refl

    killed_same : (killed : Bool) → process_killed killed x ≡ x
    killed_same true = rw over refl
    killed_same false = refl

    different : p ≡ k → ⊥
    different e =
        let from = steps_from lib o after p y step in
        let same : from.process ≡ x = same_Some from.process x (sym from.there ∙ (ap (get o.world.processes) e ∙ stays)) in
        true≢false (sym (ap lives from.ready) ∙ ((λ i. lives (same i).state) ∙ over))
