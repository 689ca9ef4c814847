-- What other processes compute with tells nothing to a step, which leaves it as it is: beside other Cpus it is the same step.
use Rattle.zl_code.proofs.Common.{AtCall, Awaited, Bool, Created, Entry, IsStuck, Library, List, Moves, Next, None, Option, Process, Ready, Request, STUCK}
use Rattle.zl_code.proofs.Common.{Site, Some, State, Status, World, [], after_ok, after_refusal, ap, awaited_by, cases_Bool, close, created_process, each}
use Rattle.zl_code.proofs.Common.{effect, ended, entering_at, eqb-true, false, false≢true, get, get-each, get-put, get-update}
use Rattle.zl_code.proofs.Common.{if◌then◌else◌, inl, inr, insert_all, is_process, is_ready, is_within, keeping, kept_by, length, lives, map, new_handles}
use Rattle.zl_code.proofs.Common.{next_for, object_at, ok_outcome, on_object, on_process, option_map, process_create, process_ended, process_killed}
use Rattle.zl_code.proofs.Common.{process_settled, process_start, process_with, process_without, receiver_of, refl, refusal, remove_all, replied}
use Rattle.zl_code.proofs.Common.{started_with, state_passes, state_without, stored_by, storing, sym, taken_handles, task_kill, true}
use Rattle.zl_code.proofs.Common.{waiting, wakes, with_effect, with_killed, with_object, with_process, without_others, ℕ, ℤ, ◌==◌, ◌∙◌, ◌∷◌, ◌≡◌}
use Rattle.zl_rights.specs.Settle.{Koids}
use Rattle.zl_rights.specs.World.{ProcessBody}
use Rattle.zl_rights.specs.Settled.{among, keys_of, settled, shrunk}
use Rattle.zl_rights.specs.Values.{Free, coming, new_free}
use Rattle.zl_rights.specs.Map.{Map}
use Rattle.zl_code.specs.declared.history.CallName.{CallName}
use Rattle.zl_code.specs.declared.history.Outcome.{Outcome}
use Rattle.zl_code.specs.declared.history.Outcome.TheVariants as outcome
use Rattle.zl_rights.specs.declared.status.Status.TheVariants as status
use Rattle.zl_code.specs.declared.history.TraceItem.TheVariants as item
use Rattle.zl_code.specs.Own.{OwnWorld, entered_free, free_at, free_in, given_by, left_free, own_values, taken_all}
use Rattle.zl_code.specs.OwnSteps.{OwnAct, own_act, own_behind, own_call, own_ending, own_of, own_step}
use Rattle.zl_code.proofs.TaskLaws.{child_of}
use Rattle.zl_explore.specs.Cpus.{Cpus, with_cpu, with_cpus, own_with, may_be_woken, Spares}
use Rattle.zl_explore.proofs.Beside.{get_spared, settled_beside, wakes_beside}
use Rattle.zl_explore.proofs.BesideCalls.{SparesStarted, choosing_same, ended_beside, handles_same, ok_beside, on_spared, outcome_same, receiver_same}
use Rattle.zl_explore.proofs.BesideCalls.{refusal_beside, refusal_same}

-- ---- who is spared stays so

module _ (f : Cpus) where
  spares_on : (t : World) (k : ℕ) (h : Process → Process) → f k ≡ None → Spares f t → Spares f (on_process t k h)
  unfolding on_process is_process
  spares_on t k h spared spares j rest = elim (cases_Bool (k == j)) as (λ _. f j ≡ None) [
    | inl here ↦ ap f (sym (eqb-true k j here)) ∙ spared
    | inr apart ↦ spares j (rw (get-update, apart) at rest)
  ]

  spares_insert : (t : World) (k : ℕ) (es : List Entry) (vs : List ℕ) → f k ≡ None → Spares f t → Spares f (insert_all t k es vs)
  unfolding insert_all
  spares_insert t k [] vs spared spares = spares
  spares_insert t k (e ∷ es) [] spared spares = spares
  spares_insert t k (e ∷ es) (v ∷ vs) spared spares = spares_insert (on_process t k (process_with v e)) k es vs spared (spares_on t k
      (process_with v e) spared spares)

  spares_remove : (t : World) (k : ℕ) (hs : List ℕ) → f k ≡ None → Spares f t → Spares f (remove_all t k hs)
  unfolding remove_all
  spares_remove t k [] spared spares = spares
  spares_remove t k (h ∷ hs) spared spares = spares_remove (on_process t k (process_without h)) k hs spared (spares_on t k (process_without h) spared spares)

  spares_stored : (t : World) (k : ℕ) (at : ℕ × List ℕ) → f k ≡ None → Spares f t → Spares f (storing t k at)
  spares_stored t k (address, []) spared spares = spares
  spares_stored t k (address, b ∷ bytes) spared spares = spares_on t k _ spared spares

  spares_kept : (t : World) (k : ℕ) (kept : Option (ℕ × List ℕ)) → f k ≡ None → Spares f t → Spares f (keeping t k kept)
  spares_kept t k None spared spares = spares
  spares_kept t k (Some x) spared spares = spares_on t k _ spared spares

  spares_replied : (t : World) (k : ℕ) (s : Site) (answer : Status) (values : List ℕ) → f k ≡ None → Spares f t → Spares f (replied t k s answer values)
  unfolding replied
  spares_replied t k s answer values spared spares = spares_on t k _ spared spares

  spares_ended : (t : World) (k : ℕ) (code : ℤ) → f k ≡ None → Spares f t → Spares f (ended t k code)
  unfolding ended is_process
  spares_ended t k code spared spares = spares_on t k (process_ended code) spared spares

  spares_waiting : (t : World) (k : ℕ) (ds : List ℕ) (awaited : Option Awaited) → f k ≡ None → Spares f t → Spares f (waiting t k ds awaited)
  unfolding is_process
  spares_waiting t k ds None spared spares = spares
  spares_waiting t k ds (Some awaited) spared spares = spares_on t k _ spared spares

  spares_process : (t : World) (k : ℕ) (q : Process) → f k ≡ None → Spares f t → Spares f (with_process t k q)
  unfolding is_process
  spares_process t k q spared spares j rest = elim (cases_Bool (k == j)) as (λ _. f j ≡ None) [
    | inl here ↦ ap f (sym (eqb-true k j here)) ∙ spared
    | inr apart ↦ spares j (rw (get-put, apart) at rest)
  ]

  woken_killed : (killed : Bool) (q : Process) → may_be_woken (process_killed killed q).state ≡ true → may_be_woken q.state ≡ true
  woken_killed true q rest = elim (cases_Bool (lives q.state)) as (λ _. may_be_woken q.state ≡ true) [
    | inl alive ↦ absurd (false≢true (rw alive at rest))
    | inr over ↦ rw over at rest
  ]
  woken_killed false q rest = rest

  spares_kill : (t : World) (k : ℕ) → Spares f t → Spares f (with_killed t k)
  unfolding with_killed is_process
  spares_kill t k spares j rest = spares j (by_found (get t.processes j) (rw get-each at rest))
    where
      by_found : (found : Option Process) → state_passes may_be_woken (option_map (process_killed (is_within t.objects k j)) found) ≡ true
          → state_passes may_be_woken found ≡ true
      by_found None rest = rest
      by_found (Some q) rest = woken_killed (is_within t.objects k j) q rest

  woken_without : (kept : Bool) (s : State) → may_be_woken (state_without kept s) ≡ true → may_be_woken s ≡ true
  woken_without kept Created rest = refl
  woken_without kept s rest = rest

  woken_settled : (K : Koids) (j : ℕ) (found : Option Process) → state_passes may_be_woken (option_map (process_settled K j) found) ≡ true
      → state_passes may_be_woken found ≡ true
  woken_settled K j None rest = rest
  woken_settled K j (Some q) rest = woken_without (K j) q.state rest

  spares_others : (t : World) (K : Koids) → Spares f t → Spares f (without_others t K)
  unfolding without_others is_process
  spares_others t K spares j rest = spares j (woken_settled K j (get t.processes j) (rw get-each at rest))

  spares_settled : (t : World) → Spares f t → Spares f (settled t)
  spares_settled t spares = spares_others t (among (shrunk t (length (keys_of t.objects)) (keys_of t.objects))) spares

-- ---- what a process does

module _ (lib : Library) (f : Cpus) (w : World) (p : ℕ) (spared : f p ≡ None) (fresh : f w.next_koid ≡ None) where
  receiver_spared : (r : Request) → SparesStarted f w p r → f (receiver_of w p r) ≡ None
  receiver_spared (process_start process h word) starts = starts
  receiver_spared (close h) starts = spared
  receiver_spared _ starts = spared

  spares_effect : (t : World) (r : Request) (vs : List ℕ) → SparesStarted f w p r → Spares f t → Spares f (effect lib w t p r vs)
  unfolding effect on_object with_object is_process
  spares_effect t (process_create job program) vs starts spares = spares_process f (with_object t (ProcessBody (object_at w p job))) w.next_koid
      (created_process lib program) fresh spares
  spares_effect t (process_start process h word) vs starts spares = spares_on f t (object_at w p process) (started_with vs word) starts spares
  spares_effect t (task_kill task) vs starts spares = spares_kill f t (object_at w p task) spares
  spares_effect t _ vs starts spares = spares

  spares_effects : (t : World) (r : Request) (vs : List ℕ) → SparesStarted f w p r → Spares f t → Spares f (with_effect lib w t p r vs)
  spares_effects t r vs starts spares = spares_kept f _ p (kept_by r vs) spared (spares_stored f _ p (stored_by w p r) spared
      (spares_insert f _ (receiver_of w p r) (new_handles w p r) (entering_at r vs) (receiver_spared r starts) (spares_effect t r vs starts spares)))

  spares_refusal : (s : Site) (o : Outcome) → Spares f w → Spares f (after_refusal w p s o)
  spares_refusal s (outcome.Answered answer) spares = spares_replied f _ p s answer _ spared (spares_remove f w p (taken_handles s.request) spared spares)
  spares_refusal s (outcome.Ended code) spares = spares_ended f w p code spared spares
  spares_refusal s outcome.Blocked spares = spares

  spares_ok : (s : Site) (vs : List ℕ) (o : Outcome) → SparesStarted f w p s.request → Spares f w → Spares f (after_ok lib w p s vs o)
  spares_ok s vs (outcome.Answered answer) starts spares =
      spares_replied f _ p s status.Ok _ spared (spares_effects _ s.request vs starts (spares_remove f w p (taken_handles s.request) spared spares))
  spares_ok s vs (outcome.Ended code) starts spares =
      spares_ended f _ p code spared (spares_effects _ s.request vs starts (spares_remove f w p (taken_handles s.request) spared spares))
  spares_ok s vs outcome.Blocked starts spares = spares_waiting f w p s.destinations (awaited_by w p s.request) spared spares

-- what was done, beside other Cpus
abbrev act_with : Cpus → OwnAct → OwnAct
act_with f a = record a { world = with_cpus f a.world }

module _ (lib : Library) (f : Cpus) (o : OwnWorld) (p : ℕ) (q : Process) (there : get o.world.processes p ≡ Some q) (ready : q.state ≡ Ready) where
  module _ (spared : f p ≡ None) (fresh : f o.world.next_koid ≡ None) (spares : Spares f o.world) where
    abbrev w : World
    w = o.world

    starts : (r : Request) → refusal lib w p r ≡ None → SparesStarted f w p r
    unfolding is_process
    starts (process_start process h word) passes =
        let child = child_of lib w p q there ready process h word passes in
        spares (object_at w p process) (rw (child.1, child.2) refl)
    starts _ passes = tt

    left_same : (r : Request) → left_free (own_with f o) p r ≡ left_free o p r
    left_same r = λ i k. if p == k then given_by (get_spared f w p spared i) (taken_handles r) (free_at o.free p) else free_at o.free k

    values_same : (r : Request) → own_values (own_with f o) p r ≡ own_values o p r
    values_same r = λ i. coming (length (choosing_same lib f w p spared r i)) (left_same r i (receiver_same lib f w p spared r i))

    entered_same : (r : Request) → entered_free (own_with f o) p r ≡ entered_free o p r
    entered_same r = λ i k. if receiver_same lib f w p spared r i == k then taken_all (length (handles_same lib f w p spared r i))
        (left_same r i k) else left_same r i k

    call_beside : (call : CallName) (s : Site) (refused : Option Outcome) → refusal lib w p s.request ≡ refused
        → own_call lib (own_with f o) p call s refused ≡ act_with f (own_call lib o p call s refused)
    call_beside call s (Some answer) is = λ i. record {
      world = refusal_beside lib f w p spared fresh s answer i;
      free = left_same s.request i;
      item = item.Call p call answer;
    }
    call_beside call s None is = λ i. record {
      world = ((λ j. after_ok lib (with_cpus f w) p s (values_same s.request j) (outcome_same lib f w p spared fresh s.request j))
          ∙ ok_beside lib f w p spared fresh s (own_values o p s.request) (ok_outcome w p s.request) (starts s.request is)) i;
      free = entered_same s.request i;
      item = item.Call p call (outcome_same lib f w p spared fresh s.request i);
    }

    act_beside : (n : Next) → own_act lib (own_with f o) p n ≡ act_with f (own_act lib o p n)
    act_beside (Moves c) = λ i. record { world = on_spared f w p (λ x. record x { cpu = c }) spared i; free = free_at o.free; item = item.Run p 1 }
    act_beside (AtCall call s) =
        ap (own_call lib (own_with f o) p call s) (refusal_same lib f w p spared s.request) ∙ call_beside call s (refusal lib w p s.request) refl
    act_beside IsStuck = λ i. record { world = ended_beside f w p STUCK i; free = free_at o.free; item = item.Stuck p }

    spares_call : (call : CallName) (s : Site) (refused : Option Outcome) → refusal lib w p s.request ≡ refused
        → Spares f (own_call lib o p call s refused).world
    spares_call call s (Some answer) is = spares_refusal lib f w p spared fresh s answer spares
    spares_call call s None is = spares_ok lib f w p spared fresh s (own_values o p s.request) (ok_outcome w p s.request) (starts s.request is) spares

    spares_act : (n : Next) → Spares f (own_act lib o p n).world
    spares_act (Moves c) = spares_on f w p _ spared spares
    spares_act (AtCall call s) = spares_call call s (refusal lib w p s.request) refl
    spares_act IsStuck = spares_ended f w p STUCK spared spares

-- ---- what follows

free_beside : (f : Cpus) (t : World) (free : ℕ → Free) → free_in (with_cpus f t) free ≡ free_in t free
unfolding each
free_beside f t free = by_entries t.processes
  where
    by_entries : (m : Map Process) → map {B = ℕ × Free} (λ e. (e.0, if lives e.1.state then free e.0 else new_free)) (each (λ k x. with_cpu (f k) x) m)
        ≡ map {B = ℕ × Free} (λ e. (e.0, if lives e.1.state then free e.0 else new_free)) m
    by_entries [] = refl
    by_entries (e ∷ m) = λ i. (e.0, if lives e.1.state then free e.0 else new_free) ∷ by_entries m i

behind_beside : (f : Cpus) (a : OwnAct) → Spares f a.world → own_behind (act_with f a) ≡ (own_with f (own_behind a).0, a.item)
behind_beside f a spares =
    let ending : own_ending (with_cpus f a.world) ≡ with_cpus f (own_ending a.world) =
    ap wakes (settled_beside f a.world) ∙ wakes_beside f (settled a.world) (spares_settled f a.world spares) in
    λ i. (record { world = ending i; free = (ap (λ t. free_in t a.free) ending ∙ free_beside f (own_ending a.world) a.free) i }, a.item)

pub is_ready_Ready : (s : State) → is_ready s ≡ true → s ≡ Ready
is_ready_Ready Ready is = refl
is_ready_Ready _ is = absurd (false≢true is)

-- the own step beside other Cpus, which no process has that others may change, nor the one that steps
pub own_step_beside : (lib : Library) (f : Cpus) (o : OwnWorld) (p : ℕ) → f p ≡ None → f o.world.next_koid ≡ None → Spares f o.world
    → own_step lib (own_with f o) p ≡ option_map (λ y. (own_with f y.0, y.1)) (own_step lib o p)
own_step_beside lib f o p spared fresh spares = ap (own_of lib (own_with f o) p) (get_spared f o.world p spared) ∙ by_found (get o.world.processes p) refl
  where
    by_found : (found : Option Process) → get o.world.processes p ≡ found
        → own_of lib (own_with f o) p found ≡ option_map (λ y. (own_with f y.0, y.1)) (own_of lib o p found)
    by_found None there = refl
    by_found (Some q) there = elim (cases_Bool (is_ready q.state))
        as (λ _. own_of lib (own_with f o) p (Some q) ≡ option_map (λ y. (own_with f y.0, y.1)) (own_of lib o p (Some q))) [
          | inl is ↦
              let state = is_ready_Ready q.state is in
              rw is (ap Some (ap own_behind (act_beside lib f o p q there state spared fresh spares (next_for lib q))
              ∙ behind_beside f (own_act lib o p (next_for lib q)) (spares_act lib f o p q there state spared fresh spares (next_for lib q))))
          | inr not ↦ rw not refl
        ]
