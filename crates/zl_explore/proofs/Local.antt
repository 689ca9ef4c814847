-- A local instruction of one process beside the own step of another: both orders lead to the same, or the step ends the process.
use Rattle.zl_code.proofs.Common.{AtCall, Bool, IsStuck, Library, Map, Moves, Next, None, Option, Process, Ready, Some, World, [], ap, arith, cases_Bool}
use Rattle.zl_code.proofs.Common.{each, eqb-true, false, false≢true, get, get-each, get-update, if◌then◌else◌, inl, inr, is_process, is_ready, is_some}
use Rattle.zl_code.proofs.Common.{lives, ne_eqb, next_for, on_process, option_map, process_killed, refl, refusal, sym, true, update, wakes, ℕ, ◌<◌, ◌==◌}
use Rattle.zl_code.proofs.Common.{◌∙◌, ◌∷◌, ◌≡◌, ◌⊎◌}
use Rattle.std.specs.Bool.{passes}
use Rattle.zl_rights.specs.Values.{Free}
use Rattle.zl_rights.specs.World.{Cpu}
use Rattle.zl_rights.proofs.Canonical.{same_map}
use Rattle.zl_rights.proofs.MapEdits.{is_sorted-update}
use Rattle.zl_code.specs.declared.history.Outcome.{Outcome}
use Rattle.zl_code.specs.declared.history.TraceItem.{TraceItem}
use Rattle.zl_code.specs.declared.history.TraceItem.TheVariants as item
use Rattle.zl_code.specs.Own.{OwnWorld, free_at, free_in}
use Rattle.zl_code.specs.OwnHistory.{tells_run}
use Rattle.zl_code.specs.OwnSteps.{own_act, own_behind, own_call, own_ending, own_of, own_step}
use Rattle.zl_code.proofs.MapKept.{in_order-each}
use Rattle.zl_calls.specs.Rested.{own_rested, rested, rested_process}
use Rattle.zl_explore.specs.Cpus.{Cpus, Spares, may_be_woken, own_with, with_cpu, with_cpus}
use Rattle.zl_explore.specs.Ordered.{IsOrdered}
use Rattle.zl_calls.specs.World.{Machine, own_here}
use Rattle.zl_explore.specs.Private.{IsStill, is_local, moves_now, runs_alone}
use Rattle.zl_explore.proofs.Beside.{settled_beside, wakes_beside}
use Rattle.zl_explore.proofs.BesideSteps.{own_step_beside}
use Rattle.zl_explore.proofs.Standing.{Stands, StepsFrom, stands_behind, steps_from}
use Rattle.zl_explore.proofs.Still.{own_value, still_behind, valued}

-- ---- a local instruction

-- the process is ready, and moves on to this Cpu
pub record MovesOn (lib : Library) (o : OwnWorld) (p : ℕ) : Type 0 where
  pub process : Process
  pub there : get o.world.processes p ≡ Some process
  pub ready : process.state ≡ Ready
  pub to : Cpu
  pub next : next_for lib process ≡ Moves to

-- the item tells of a local instruction just where one stands next
run_told : (lib : Library) (o : OwnWorld) (p : ℕ) (n : Next) → tells_run (own_act lib o p n).item ≡ moves_now n
run_told lib o p (Moves c) = refl
run_told lib o p (AtCall call s) = by_refused (refusal lib o.world p s.request)
  where
    by_refused : (refused : Option Outcome) → tells_run (own_call lib o p call s refused).item ≡ false
    by_refused None = refl
    by_refused (Some answer) = refl
run_told lib o p IsStuck = refl

pub moves_on : (lib : Library) (o after : OwnWorld) (p : ℕ) (y : TraceItem) → own_step lib o p ≡ Some (after, y) → tells_run y ≡ true → MovesOn lib o p
moves_on lib o after p y step runs =
    by_next (next_for lib from.process) refl (sym (run_told lib o p (next_for lib from.process)) ∙ ((λ i. tells_run (from.is i).1) ∙ runs))
  where
    from : StepsFrom lib o p after y
    from = steps_from lib o after p y step

    by_next : (n : Next) → next_for lib from.process ≡ n → moves_now n ≡ true → MovesOn lib o p
    by_next (Moves c) is now = record { process = from.process; there = from.there; ready = from.ready; to = c; next = is }
    by_next (AtCall call s) is now = absurd (false≢true now)
    by_next IsStuck is now = absurd (false≢true now)

-- so a ready process is at one, where one stands next for it
pub local_next : (m : Machine) (p : ℕ) (q : Process) → get m.world.processes p ≡ Some q → q.state ≡ Ready → is_local m p ≡ moves_now (next_for m.programs q)
unfolding is_local
local_next m p q there ready =
    ap (λ found. runs_alone (own_of m.programs (own_here m) p found)) there
    ∙ ((λ i. runs_alone (if is_ready (ready i) then Some (own_behind (own_act m.programs (own_here m) p (next_for m.programs q))) else None))
    ∙ run_told m.programs (own_here m) p (next_for m.programs q))

-- a Cpu for one process
abbrev pub cpu_for : ℕ → Cpu → Cpus
cpu_for p c k = if p == k then Some c else None

none_given : (found : Option Process) → option_map (with_cpu None) found ≡ found
none_given None = refl
none_given (Some q) = refl

module _ (w : World) (order : IsOrdered w) (p : ℕ) (c : Cpu) where
  moved_with : on_process w p (λ q. record q { cpu = c }) ≡ with_cpus (cpu_for p c) w
  unfolding on_process
  moved_with = λ i. record w {
    processes = same_map (update w.processes p (λ q. record q { cpu = c })) (each (λ k q. with_cpu (cpu_for p c k) q) w.processes)
        (passes _ (is_sorted-update w.processes p (λ q. record q { cpu = c }) ∙ order.order))
        (passes _ (in_order-each w.processes (λ k q. with_cpu (cpu_for p c k) q) ∙ order.order)) alike i;
  }
    where
      alike : (k : ℕ) → get (update w.processes p (λ q. record q { cpu = c })) k ≡ get (each (λ j q. with_cpu (cpu_for p c j) q) w.processes) k
      alike k = elim (cases_Bool (p == k))
          as (λ _. get (update w.processes p (λ q. record q { cpu = c })) k ≡ get (each (λ j q. with_cpu (cpu_for p c j) q) w.processes) k) [
            | inl here ↦ rw (get-update, get-each, here) refl
            | inr apart ↦ rw (get-update, get-each, apart) (sym (none_given (get w.processes k)))
          ]

  -- who is over rests all the same with it
  over_forgets : (x : Process) → get w.processes p ≡ Some x → lives x.state ≡ false → rested (with_cpus (cpu_for p c) w) ≡ rested w
  over_forgets x there over = λ i. record w {
    processes = same_map
        (each (λ k q. rested_process q) (each (λ k q. with_cpu (cpu_for p c k) q) w.processes)) (each (λ k q. rested_process q) w.processes)
        (passes _ (in_order-each (each (λ k q. with_cpu (cpu_for p c k) q) w.processes) (λ k q. rested_process q)
        ∙ (in_order-each w.processes (λ k q. with_cpu (cpu_for p c k) q) ∙ order.order)))
        (passes _ (in_order-each w.processes (λ k q. rested_process q) ∙ order.order)) alike i;
  }
    where
      by_key : (k : ℕ) → option_map rested_process (option_map (with_cpu (cpu_for p c k)) (get w.processes k)) ≡ option_map rested_process (get w.processes k)
      by_key k = elim (cases_Bool (p == k))
          as (λ _. option_map rested_process (option_map (with_cpu (cpu_for p c k)) (get w.processes k)) ≡ option_map rested_process (get w.processes k)) [
            | inl here ↦ rw (here, ← eqb-true p k here, there, over) refl
            | inr apart ↦ rw apart (ap (option_map rested_process) (none_given (get w.processes k)))
          ]

      alike : (k : ℕ)
          → get (each (λ j q. rested_process q) (each (λ j q. with_cpu (cpu_for p c j) q) w.processes)) k ≡ get (each (λ j q. rested_process q) w.processes) k
      alike k = get-each (each (λ j q. with_cpu (cpu_for p c j) q) w.processes) (λ j q. rested_process q) k
          ∙ (ap (option_map rested_process) (get-each w.processes (λ j q. with_cpu (cpu_for p c j) q) k)
          ∙ (by_key k ∙ sym (get-each w.processes (λ j q. rested_process q) k)))

-- the same values, whatever the processes compute with
values_beside : (f : Cpus) (free : ℕ → Free) (m : Map Process) → valued (own_value free) (each (λ k q. with_cpu (f k) q) m) ≡ valued (own_value free) m
unfolding each
values_beside f free [] = refl
values_beside f free (e ∷ m) = ap (λ (vs : Map Free). (e.0, own_value free e.0 e.1) ∷ vs) (values_beside f free m)

module _ (lib : Library) (o : OwnWorld) (still : IsStill o) (p : ℕ) (moves : MovesOn lib o p) where
  abbrev pub moved : Cpus
  moved = cpu_for p moves.to

  spares_moved : Spares moved o.world
  unfolding is_process
  spares_moved k may = elim (cases_Bool (p == k)) as (λ _. moved k ≡ None) [
    | inl here ↦ absurd (false≢true (rw (← eqb-true p k here, moves.there, moves.ready) at may))
    | inr apart ↦ rw apart refl
  ]

  fresh_moved : moved o.world.next_koid ≡ None
  fresh_moved =
      let below : p < o.world.next_koid = still.order.below p (ap is_some moves.there) in
      rw (ne_eqb p o.world.next_koid (λ e. omega (arith, e, below))) refl

  pub ending_moved : own_ending (on_process o.world p (λ q. record q { cpu = moves.to })) ≡ with_cpus moved o.world
  ending_moved =
      ap own_ending (moved_with o.world still.order p moves.to)
      ∙ (ap wakes (settled_beside moved o.world ∙ ap (with_cpus moved) still.all_held)
      ∙ (wakes_beside moved o.world spares_moved ∙ ap (with_cpus moved) still.none_wakes))

  -- it gives the process its Cpu, and changes nothing else
  pub local_step : own_step lib o p ≡ Some (own_with moved o, item.Run p 1)
  local_step =
      ap (own_of lib o p) moves.there
      ∙ ((λ i. if is_ready (moves.ready i) then Some (own_behind (own_act lib o p (moves.next i))) else None)
      ∙ λ i. Some (
        record {
          world = ending_moved i;
          free = (ap (λ t. free_in t (free_at o.free)) ending_moved ∙ (values_beside moved (free_at o.free) o.world.processes ∙ still.values)) i;
        },
        item.Run p 1,
      ))

  -- the step of another is the same behind it
  pub other_step : (q : ℕ) → (q ≡ p → ⊥) → (after : OwnWorld) (y : TraceItem) → own_step lib o q ≡ Some (after, y)
      → own_step lib (own_with moved o) q ≡ Some (own_with moved after, y)
  other_step q different after y step =
      own_step_beside lib moved o q (rw (ne_eqb p q (λ e. different (sym e))) refl) fresh_moved spares_moved
      ∙ ap (option_map (λ z. (own_with moved z.0, z.1))) step

-- behind the step of another it is the same; or that step ended the process, so that it makes no difference
pub either : (lib : Library) (o : OwnWorld) → IsStill o → (p : ℕ) (moves : MovesOn lib o p) (q : ℕ) → (q ≡ p → ⊥) → (after : OwnWorld) (y : TraceItem)
    → own_step lib o q ≡ Some (after, y)
    → (own_step lib after p ≡ Some (own_with (cpu_for p moves.to) after, item.Run p 1)) ⊎ (own_rested (own_with (cpu_for p moves.to) after) ≡ own_rested after)
either lib o still p moves q different after y step = by_killed stood.0 stood.1
  where
    stood : Stands p moves.process after.world
    stood = stands_behind p moves.process (ap may_be_woken moves.ready) lib o after q y still.order (ne_eqb q p different) moves.there step

    after_still : IsStill after
    after_still = still_behind lib o after q y still.order step

    by_killed : (killed : Bool) → get after.world.processes p ≡ Some (process_killed killed moves.process)
        → (own_step lib after p ≡ Some (own_with (cpu_for p moves.to) after, item.Run p 1))
        ⊎ (own_rested (own_with (cpu_for p moves.to) after) ≡ own_rested after)
    by_killed true there =
        inr (λ i. record after { world = over_forgets after.world after_still.order p moves.to _ there (rw moves.ready refl) i })
    by_killed false there =
        inl (local_step lib after after_still p
        (record { process = moves.process; there = there; ready = moves.ready; to = moves.to; next = moves.next }))
