-- The lab's own call is a call, and its own step a step.
use Rattle.zl_rights.proofs.Common.{◌≡◌, ℕ, ◌≤◌, [], length, refl, sym, ap, subst, ◌∙◌, Option, Some, None, IsTrue, arith}
use Rattle.zl_rights.proofs.Common.{same_Some, none-some, is_some, eq-eqb, false≢true, Bool, true, false, if◌then◌else◌, get, Process, Ready, runs, State}
use Rattle.zl_rights.proofs.Common.{World, is_process, is_ready, state_passes}
use Rattle.std.specs.Option.{option_to_list}
use Rattle.zl_rights.proofs.Settling.{Settles-exists}
use Rattle.zl_rights.specs.Settled.{settled}
use Rattle.zl_code.specs.declared.history.CallName.{CallName}
use Rattle.zl_code.specs.declared.history.Outcome.{Outcome}
use Rattle.zl_code.specs.declared.history.TraceItem.{TraceItem}
use Rattle.zl_code.specs.Image.{Library}
use Rattle.zl_code.specs.Request.{Site}
use Rattle.zl_code.specs.CallTable.{Request, choosing, new_handles, receiver_of, process_start, close}
use Rattle.zl_code.specs.Tests.{entry_at, object_at}
use Rattle.zl_code.specs.Refusals.{refusal}
use Rattle.zl_code.specs.Calls.{Refused, Values, may_choose, ok_outcome, taken_handles}
use Rattle.zl_code.specs.Effects.{gets_all, remove_all}
use Rattle.zl_code.specs.Sound.{IsSound}
use Rattle.zl_code.specs.Steps.{Acts, AtCall, IsStuck, Moves, Next, Step, next_for}
use Rattle.zl_code.proofs.Entering.{HaveRoom, left_behind}
use Rattle.zl_code.proofs.CallLaws.{laws}
use Rattle.zl_code.proofs.TaskLaws.{leave_other, child_of, child_apart, one_entry}
use Rattle.zl_code.specs.OwnSteps.{own_act, own_behind, own_call, own_of, own_step}
use Rattle.zl_code.specs.Own.{OwnWorld, IsFreeOf, AreFree, all_without, free_at, left_free, own_values}
use Rattle.zl_code.proofs.OwnValues.{all_leave, may_get_coming, without_there}

-- ---- it is a step

module _ (lib : Library) (o : OwnWorld) (p : ℕ) (q : Process) (there : get o.world.processes p ≡ Some q) (ready : q.state ≡ Ready) (fine : AreFree o) where
  abbrev w : World
  w = o.world

  -- the caller without the handles that are taken
  left_fine : (r : Request) → IsFreeOf (all_without (taken_handles r) q) (left_free o p r p)
  left_fine r = rw (eq-eqb p p refl, there) (all_leave (taken_handles r) q (free_at o.free p) (fine p q there))

  own_chosen : (r : Request) → receiver_of w p r ≡ p → refusal lib w p r ≡ None
      → IsTrue (may_choose w (remove_all w p (taken_handles r)) p r (own_values o p r))
  unfolding may_choose
  own_chosen r own passes =
      let behind = left_behind w p q (taken_handles r) there in
      let lawful = laws lib w p q there ready r behind.0 behind.1 passes in
      let mine : get (remove_all w p (taken_handles r)).processes p ≡ Some (all_without (taken_handles r) q) = without_there w p q (taken_handles r) there in
      let same : behind.0 ≡ all_without (taken_handles r) q = same_Some behind.0 (all_without (taken_handles r) q) (sym behind.1.is_there ∙ mine) in
      let room : HaveRoom (all_without (taken_handles r) q) (choosing w p r) = subst (λ x. HaveRoom x (choosing w p r)) same (lawful.room own) in
      rw (own, mine) (may_get_coming (choosing w p r) (all_without (taken_handles r) q) (left_free o p r p) (left_fine r) room)

  -- the child of a start
  child_chosen : (process h word : ℕ) → IsSound w → refusal lib w p (process_start process h word) ≡ None
      → IsTrue (may_choose w (remove_all w p (taken_handles (process_start process h word))) p (process_start process h word)
      (own_values o p (process_start process h word)))
  unfolding may_choose new_handles
  child_chosen process h word sound passes =
      let child = child_of lib w p q there ready process h word passes in
      let empty : child.0.handles ≡ [] = ((sound.tables (object_at w p process) child.0 child.1).idle (ap runs child.2)).0 in
      let few : length (option_to_list (entry_at w p h)) ≤ 1 = one_entry lib w p q there ready (entry_at w p h) in
      let apart = child_apart lib w p q there ready process h word passes in
      let start = process_start process h word in
      let untouched : left_free o p start (object_at w p process) ≡ free_at o.free (object_at w p process) = rw apart refl in
      ap (λ x. gets_all x (option_to_list (entry_at w p h)) (own_values o p start))
      (leave_other lib w p q there ready w (object_at w p process) (taken_handles start) apart ∙ child.1)
      ∙ may_get_coming (option_to_list (entry_at w p h)) child.0 (left_free o p start (object_at w p process))
      (subst (IsFreeOf child.0) (sym untouched) (fine (object_at w p process) child.0 child.1)) (rw empty (omega (arith, few)))

  chosen : (r : Request) → IsSound w → refusal lib w p r ≡ None → IsTrue (may_choose w (remove_all w p (taken_handles r)) p r (own_values o p r))
  chosen (process_start process h word) sound passes = child_chosen process h word sound passes
  chosen (close h) sound passes = own_chosen (close h) refl passes
  chosen r sound passes = own_chosen r refl passes

  call_is : IsSound w → (call : CallName) (s : Site) (refused : Option Outcome) → refusal lib w p s.request ≡ refused
      → Acts lib w p (AtCall call s) (own_call lib o p call s refused).item (own_call lib o p call s refused).world
  call_is sound call s (Some answer) is = (answer, refl, (Refused, rw is (refl, refl)))
  call_is sound call s None is = (ok_outcome w p s.request, refl, (Values (own_values o p s.request), rw is (chosen s.request sound is, refl, refl)))

  act_is : IsSound w → (n : Next) → Acts lib w p n (own_act lib o p n).item (own_act lib o p n).world
  act_is sound (Moves c) = (refl, refl)
  act_is sound (AtCall call s) = call_is sound call s (refusal lib w p s.request) refl
  act_is sound IsStuck = (refl, refl)

  own_acts : IsSound w → Step lib w p (own_behind (own_act lib o p (next_for lib q))).1 (own_behind (own_act lib o p (next_for lib q))).0.world
  own_acts sound = record {
    process = q;
    is_there = there;
    is_ready = ready;
    acted = (own_act lib o p (next_for lib q)).world;
    acts = act_is sound (next_for lib q);
    settled = settled (own_act lib o p (next_for lib q)).world;
    settles = Settles-exists (own_act lib o p (next_for lib q)).world;
    ends_awake = refl;
  }

is_ready_Ready : (s : State) → is_ready s ≡ true → s ≡ Ready
is_ready_Ready Ready is = refl
is_ready_Ready _ is = absurd (false≢true is)

pub own_is_step : (lib : Library) (o : OwnWorld) (p : ℕ) (x : TraceItem) (o2 : OwnWorld) → IsSound o.world → AreFree o → own_step lib o p ≡ Some (o2, x)
    → Step lib o.world p x o2.world
own_is_step lib o p x o2 sound fine is = by_found (get o.world.processes p) refl is
  where
    by_found : (found : Option Process) → get o.world.processes p ≡ found → own_of lib o p found ≡ Some (o2, x) → Step lib o.world p x o2.world
    by_found None there is = absurd (none-some _ is)
    by_found (Some q) there is = by_test (is_ready q.state) refl is
      where
        by_test : (b : Bool) → is_ready q.state ≡ b → (if b then Some (own_behind (own_act lib o p (next_for lib q))) else None) ≡ Some (o2, x)
            → Step lib o.world p x o2.world
        by_test false unready is = absurd (none-some _ is)
        by_test true ready is =
            let same = same_Some _ _ is in
            subst (λ (y : OwnWorld × TraceItem). Step lib o.world p y.1 y.0.world) same (own_acts lib o p q there (is_ready_Ready q.state ready) fine sound)

-- a ready process has one
pub own_step_there : (lib : Library) (o : OwnWorld) (p : ℕ) → is_process o.world is_ready p ≡ true → is_some (own_step lib o p) ≡ true
unfolding is_process
own_step_there lib o p ready = by_found (get o.world.processes p) ready
  where
    by_found : (found : Option Process) → state_passes is_ready found ≡ true → is_some (own_of lib o p found) ≡ true
    by_found None ready = absurd (false≢true ready)
    by_found (Some q) ready = rw ready refl
