-- What is true of worlds behind all that follows a step: it is so behind each own step, and of the own boot world.
use Rattle.zl_code.proofs.Common.{IsSound, IsTrue, Library, List, Map, None, Option, Process, Some, State, World, [], ap, cases_Bool, eqb-true, false, get}
use Rattle.zl_code.proofs.Common.{if◌then◌else◌, in_order, inl, inr, length, lives, map, next_for, option_map, refl, runs, subst, sym, true≢false, ℕ, ◌==◌}
use Rattle.zl_code.proofs.Common.{◌∙◌, ◌∷◌, ◌≡◌}
use Rattle.std.specs.Bool.{passes}
use Rattle.std.specs.FinMap.Entries.{below_all}
use Rattle.std.specs.Ordering.{nat_cmp}
use Rattle.zl_rights.specs.Settled.{settled}
use Rattle.zl_rights.specs.Values.{Free, new_free}
use Rattle.zl_rights.specs.World.{Ended, Gone}
use Rattle.zl_rights.proofs.Canonical.{same_map}
use Rattle.zl_rights.proofs.Settling.{Settles-exists}
use Rattle.zl_rights.proofs.Waking.{wakes-again}
use Rattle.zl_code.specs.Boot.{IsBoot}
use Rattle.zl_code.specs.Own.{OwnWorld, free_at, free_in}
use Rattle.zl_code.specs.OwnBoot.{fresh_free, own_boot}
use Rattle.zl_code.specs.OwnSteps.{OwnAct, own_act, own_ending, own_step}
use Rattle.zl_code.specs.declared.boot.Statement.{Statement}
use Rattle.zl_code.specs.declared.history.TraceItem.{TraceItem}
use Rattle.zl_code.proofs.AwakeRuns.{boot_awake}
use Rattle.zl_code.proofs.SoundRuns.{boot_sound}
use Rattle.zl_explore.specs.Ordered.{IsOrdered}
use Rattle.zl_explore.specs.Private.{IsStill}
use Rattle.zl_explore.proofs.Resting.{ordered_behind}
use Rattle.zl_explore.proofs.Standing.{StepsFrom, steps_from}
use Rattle.zl_explore.proofs.StaysSettled.{settled_again, settled_awake}

-- ---- values of processes

module _ (h : ℕ → Process → Free) where
  abbrev pub valued : Map Process → Map Free
  valued m = map (λ e. (e.0, h e.0 e.1)) m

  values_get : (m : Map Process) (k : ℕ) → get (valued m) k ≡ option_map (h k) (get m k)
  unfolding get
  values_get [] k = refl
  values_get (e ∷ m) k = elim (cases_Bool (e.0 == k)) as (λ _. get (valued (e ∷ m)) k ≡ option_map (h k) (get (e ∷ m) k)) [
    | inl here ↦ rw (here, eqb-true e.0 k here) refl
    | inr apart ↦ rw apart (values_get m k)
  ]

  values_below : (k : ℕ) (m : Map Process) → below_all nat_cmp k (valued m) ≡ below_all nat_cmp k m
  values_below k [] = refl
  values_below k (e ∷ m) = rw (values_below k m) refl

  values_order : (m : Map Process) → in_order (valued m) ≡ in_order m
  values_order [] = refl
  values_order (e ∷ m) = rw (values_below e.0 m, values_order m) refl

-- what a process has, of a table that gives these
abbrev pub own_value : (ℕ → Free) → ℕ → Process → Free
own_value free k q = if lives q.state then free k else new_free

-- where those that are over have those of a new table, these are the values of all
values_again : (h : ℕ → Process → Free) (w : World) → IsTrue (in_order w.processes)
    → ((k : ℕ) (q : Process) → get w.processes k ≡ Some q → lives q.state ≡ false → h k q ≡ new_free)
    → free_in w (free_at (valued h w.processes)) ≡ valued h w.processes
values_again h w order dead = same_map (free_in w (free_at (valued h w.processes))) (valued h w.processes)
    (passes _ (values_order (own_value (free_at (valued h w.processes))) w.processes ∙ order)) (passes _ (values_order h w.processes ∙ order)) alike
  where
    by_found : (k : ℕ) (found : Option Process) → get w.processes k ≡ found
        → option_map (own_value (free_at (valued h w.processes)) k) found ≡ option_map (h k) found
    by_found k None there = refl
    by_found k (Some q) there = elim (cases_Bool (lives q.state)) as (λ _. Some (own_value (free_at (valued h w.processes)) k q) ≡ Some (h k q)) [
      | inl alive ↦ rw (alive, values_get h, there) refl
      | inr over ↦ rw over (ap Some (sym (dead k q there over)))
    ]

    alike : (k : ℕ) → get (free_in w (free_at (valued h w.processes))) k ≡ get (valued h w.processes) k
    alike k = values_get (own_value (free_at (valued h w.processes))) w.processes k
        ∙ (by_found k (get w.processes k) refl ∙ sym (values_get h w.processes k))

-- ---- still worlds

-- each own step leads to one
pub still_behind : (lib : Library) (o after : OwnWorld) (p : ℕ) (y : TraceItem) → IsOrdered o.world → own_step lib o p ≡ Some (after, y) → IsStill after
still_behind lib o after p y ordered step = subst (λ (z : OwnWorld × TraceItem). IsStill z.0) from.is (record {
  order = order;
  all_held = settled_awake act.world (settled act.world) (Settles-exists act.world);
  none_wakes = wakes-again (settled act.world);
  values = values_again (own_value act.free) (own_ending act.world) order.order (λ k q there over. rw over refl);
})
  where
    from : StepsFrom lib o p after y
    from = steps_from lib o after p y step

    act : OwnAct
    act = own_act lib o p (next_for lib from.process)

    order : IsOrdered (own_ending act.world)
    order = subst (λ (z : OwnWorld × TraceItem). IsOrdered z.0.world) (sym from.is) (ordered_behind lib o after p y ordered step)

-- the own boot world is one
pub still_boot : (lib : Library) (statements : List Statement) (o : OwnWorld) → IsBoot lib statements o.world → o ≡ own_boot lib statements → IsStill o
still_boot lib statements o boot is = record {
  order = record { order = sound.handles.processes; below = sound.processes };
  all_held = settled_again boot.made o.world boot.settles;
  none_wakes = boot_awake lib statements o.world boot;
  values = subst (λ (free : Map Free). free_in o.world (free_at free) ≡ free) (sym fresh) (values_again made_all o.world sound.handles.processes dead);
}
  where
    sound : IsSound o.world
    sound = boot_sound lib statements o.world boot

    fresh : o.free ≡ fresh_free o.world
    fresh = (λ i. (is i).free) ∙ sym (λ i. fresh_free (is i).world)

    made_all : ℕ → Process → Free
    made_all k q = record { freed = []; made = length q.handles }

    over_idle : (s : State) → lives s ≡ false → runs s ≡ false
    over_idle (Ended code) over = refl
    over_idle Gone over = refl
    over_idle _ over = absurd (true≢false over)

    dead : (k : ℕ) (q : Process) → get o.world.processes k ≡ Some q → lives q.state ≡ false → made_all k q ≡ new_free
    dead k q there over = λ i. record { freed = []; made = length (((sound.tables k q there).idle (over_idle q.state over)).0 i) }
