-- What a process computed with that is over counts for no step.
use Rattle.zl_code.proofs.Common.{Library, None, Option, Process, Some, State, World, ap, arith, cases_Bool, each, false, false≢true, get, get-each}
use Rattle.zl_code.proofs.Common.{if◌then◌else◌, inl, inr, is_process, is_some, lives, next_for, option_map, refl, same_Some, state_passes, subst, sym}
use Rattle.zl_code.proofs.Common.{true, ℕ, ◌<◌, ◌∙◌, ◌≡◌}
use Rattle.zl_rights.specs.World.{Blocked, Cpu, Created}
use Rattle.std.specs.Bool.{passes}
use Rattle.zl_rights.proofs.Canonical.{same_map}
use Rattle.zl_code.specs.declared.history.TraceItem.{TraceItem}
use Rattle.zl_code.specs.Own.{OwnWorld}
use Rattle.zl_code.specs.OwnSteps.{own_act, own_step}
use Rattle.zl_code.proofs.MapKept.{in_order-each}
use Rattle.zl_explore.specs.Cpus.{Cpus, Spares, may_be_woken, own_with, with_cpu, with_cpus}
use Rattle.zl_calls.specs.Rested.{no_cpu, own_rested, rested, rested_process}
use Rattle.zl_explore.specs.Ordered.{IsOrdered}
use Rattle.zl_explore.proofs.Ordered.{ordered_act, ordered_ending}
use Rattle.zl_explore.proofs.BesideSteps.{own_step_beside}
use Rattle.zl_explore.proofs.Standing.{StepsFrom, over_stays, steps_from}

-- ---- the Cpus of those that are over

abbrev cpu_over : Option Process → Option Cpu
cpu_over None = None
cpu_over (Some q) = if lives q.state then None else Some no_cpu

abbrev pub cpus_over : World → Cpus
cpus_over w k = cpu_over (get w.processes k)

living_none : (found : Option Process) → state_passes lives found ≡ true → cpu_over found ≡ None
living_none None alive = refl
living_none (Some q) alive = rw alive refl

lives_woken : (found : Option Process) → state_passes may_be_woken found ≡ true → state_passes lives found ≡ true
lives_woken None may = may
lives_woken (Some q) may = by_state q.state may
  where
    by_state : (s : State) → may_be_woken s ≡ true → lives s ≡ true
    by_state Created may = refl
    by_state (Blocked awaited ds) may = refl
    by_state _ may = absurd (false≢true may)

module _ (w : World) (ordered : IsOrdered w) where
  spares_over : Spares (cpus_over w) w
  unfolding is_process
  spares_over k may = living_none (get w.processes k) (lives_woken (get w.processes k) may)

  fresh_over : cpus_over w w.next_koid ≡ None
  fresh_over = by_found (get w.processes w.next_koid) refl
    where
      by_found : (found : Option Process) → get w.processes w.next_koid ≡ found → cpu_over found ≡ None
      by_found None there = refl
      by_found (Some q) there = let below : w.next_koid < w.next_koid = ordered.below w.next_koid (ap is_some there) in absurd (omega (arith, below))

  -- to rest is to get these
  pub rested_with : rested w ≡ with_cpus (cpus_over w) w
  rested_with = λ i. record w {
    processes = same_map (each (λ k q. rested_process q) w.processes) (each (λ k q. with_cpu (cpus_over w k) q) w.processes)
        (passes _ (in_order-each w.processes (λ k q. rested_process q) ∙ ordered.order))
        (passes _ (in_order-each w.processes (λ k q. with_cpu (cpus_over w k) q) ∙ ordered.order)) alike i;
  }
    where
      by_found : (found : Option Process) → option_map rested_process found ≡ option_map (with_cpu (cpu_over found)) found
      by_found None = refl
      by_found (Some q) = elim (cases_Bool (lives q.state)) as (λ _. Some (rested_process q) ≡ Some (with_cpu (cpu_over (Some q)) q)) [
        | inl alive ↦ rw alive refl
        | inr over ↦ rw over refl
      ]

      alike : (k : ℕ) → get (each (λ j q. rested_process q) w.processes) k ≡ get (each (λ j q. with_cpu (cpus_over w j) q) w.processes) k
      alike k = rw (get-each, get-each) (by_found (get w.processes k))

-- ---- the step of a rested world

module _ (w w2 : World) (ordered : IsOrdered w2) (stays : (k : ℕ) (x : Process) → get w.processes k ≡ Some x → lives x.state ≡ false → get w2.processes k
    ≡ Some x) where
  cpu_gone : (k : ℕ) (before after : Option Process) → get w.processes k ≡ before → get w2.processes k ≡ after
      → option_map rested_process (option_map (with_cpu (cpu_over before)) after) ≡ option_map rested_process after
  cpu_gone k None None was is = refl
  cpu_gone k None (Some y) was is = refl
  cpu_gone k (Some x) None was is = refl
  cpu_gone k (Some x) (Some y) was is =
      elim (cases_Bool (lives x.state)) as (λ _. Some (rested_process (with_cpu (cpu_over (Some x)) y)) ≡ Some (rested_process y)) [
        | inl alive ↦ rw alive refl
        | inr over ↦ let same : y ≡ x = same_Some y x (sym is ∙ stays k x was over) in rw (over, same, over) refl
      ]

  -- who is over behind the step, or was before it, rests all the same
  pub rested_again : rested (with_cpus (cpus_over w) w2) ≡ rested w2
  rested_again = λ i. record w2 {
    processes = same_map
        (each (λ k q. rested_process q) (each (λ k q. with_cpu (cpus_over w k) q) w2.processes)) (each (λ k q. rested_process q) w2.processes)
        (passes _ (in_order-each (each (λ k q. with_cpu (cpus_over w k) q) w2.processes) (λ k q. rested_process q)
        ∙ (in_order-each w2.processes (λ k q. with_cpu (cpus_over w k) q) ∙ ordered.order)))
        (passes _ (in_order-each w2.processes (λ k q. rested_process q) ∙ ordered.order)) alike i;
  }
    where
      alike : (k : ℕ)
          → get (each (λ j q. rested_process q) (each (λ j q. with_cpu (cpus_over w j) q) w2.processes)) k ≡ get (each (λ j q. rested_process q) w2.processes) k
      alike k = get-each (each (λ j q. with_cpu (cpus_over w j) q) w2.processes) (λ j q. rested_process q) k
          ∙ (ap (option_map rested_process) (get-each w2.processes (λ j q. with_cpu (cpus_over w j) q) k)
          ∙ (cpu_gone k (get w.processes k) (get w2.processes k) refl refl ∙ sym (get-each w2.processes (λ j q. rested_process q) k)))

pub ordered_behind : (lib : Library) (o after : OwnWorld) (p : ℕ) (x : TraceItem) → IsOrdered o.world → own_step lib o p ≡ Some (after, x)
    → IsOrdered after.world
ordered_behind lib o after p x ordered step =
    let from = steps_from lib o after p x step in
    subst (λ (y : OwnWorld × TraceItem). IsOrdered y.0.world) from.is
    (ordered_ending (own_act lib o p (next_for lib from.process)).world (ordered_act lib o p ordered (next_for lib from.process)))

-- the rested world does the same step, and where that leads, rested, is where it led
pub rested_steps : (lib : Library) (o after : OwnWorld) (p : ℕ) (x : TraceItem) → IsOrdered o.world → own_step lib o p ≡ Some (after, x)
    → (behind : OwnWorld) × (own_step lib (own_rested o) p ≡ Some (behind, x)) × (own_rested behind ≡ own_rested after)
rested_steps lib o after p x ordered step = (
  own_with (cpus_over o.world) after,
  ap (λ w. own_step lib (record o { world = w }) p) (rested_with o.world ordered)
      ∙ (own_step_beside lib (cpus_over o.world) o p spared (fresh_over o.world ordered) (spares_over o.world ordered)
      ∙ ap (option_map (λ y. (own_with (cpus_over o.world) y.0, y.1))) step),
  λ i. record after { world = rested_again o.world after.world (ordered_behind lib o after p x ordered step) stays i },
)
  where
    from : StepsFrom lib o p after x
    from = steps_from lib o after p x step

    spared : cpus_over o.world p ≡ None
    spared = ap cpu_over from.there ∙ living_none (Some from.process) (ap lives from.ready)

    stays : (k : ℕ) (y : Process) → get o.world.processes k ≡ Some y → lives y.state ≡ false → get after.world.processes k ≡ Some y
    stays k y there over = over_stays k y over lib o after p x ordered there step
