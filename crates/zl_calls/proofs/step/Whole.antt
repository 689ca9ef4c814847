-- The invariant of the world behind each step, whether something was due or not.
use Rattle.zl_calls.proofs.Common.{AreBlocked, AreLeft, AreOrdered, AreSought, DoesNext, DoesOwn, EndsUnheld, FallsAsleep, FiresWaits, IsConsistent, IsWhole}
use Rattle.zl_calls.proofs.Common.{KeepSleepers, Library, List, Objects, Process, Seeks, StepsAndWakes, StepsOwn, TakesStep, TraceItem, Wakes, Woke, ap}
use Rattle.zl_calls.proofs.Common.{awaited_of, false, fired, holds_now, is_due, length, list_any, own_beside, refl, sym, then_blocked, wakes, world_blocked}
use Rattle.zl_calls.proofs.Common.{world_left, ℕ, ◌∙◌, ◌≡◌, ◌≤◌}
use Rattle.zl_objects.specs.declared.awaited.Awaited.{Awaited}
use Rattle.zl_calls.specs.declared.told.Woke.TheVariants as woke
use Rattle.zl_calls.proofs.objects.SameButWaits.{beside_consistent}
use Rattle.zl_calls.proofs.step.Covered.{stepped_covered}
use Rattle.zl_calls.proofs.step.OwnStep.{own_stepped}
use Rattle.zl_calls.proofs.step.StepItems.{machine_value, stepped_awake, stepped_programs, stepped_sound, takes_step, woken_to, just_started}
use Rattle.zl_calls.proofs.waking.Ordered.{same_ordered}
use Rattle.zl_calls.proofs.waking.Quiet.{none_holding, quiet_fires, quiet_wakes}
use Rattle.zl_calls.proofs.waking.StillBlocked.{acted_ordered, acted_sought, asleep_world, moved_last, same_seeks}
use Rattle.zl_calls.proofs.Common.{Option, None, fell_asleep, option_to_list, pids_told}

module _ (lib : Library) (ps : List Process) (r : Objects) (b : List ℕ) (room : ℕ) (pid : ℕ) (x : TraceItem) (whole : IsWhole lib ps r b room) where
  -- a step leads to such a world again
  pub stepped_whole : (ps2 : List Process) (r2 : Objects) (b2 : List ℕ) (room2 : ℕ) → TakesStep (machine_value lib ps r b) pid (machine_value lib ps2 r2 b2) x
      → IsConsistent ps2 r2 → AreBlocked ps2 b2 → AreSought ps2 r2 → AreOrdered ps2 r2 b2 → length ps2 ≤ room2 → IsWhole lib ps2 r2 b2 room2
  stepped_whole ps2 r2 b2 room2 steps consistent list sought ordered enough = record {
    consistent = consistent;
    sound = stepped_sound lib ps ps2 r r2 b b2 pid x steps whole.sound;
    are_blocked = list;
    sought = sought;
    ordered = ordered;
    room = enough;
    awake = stepped_awake lib ps ps2 r r2 b b2 pid x steps;
    programs = stepped_programs lib ps ps2 r r2 b b2 pid x steps whole.programs;
    verified = whole.verified;
    covered = stepped_covered lib whole.verified ps ps2 r r2 b b2 pid x steps whole.sound whole.covered;
  }

  -- the process has acted, waits have ended with their handles, and what it waits for is known
  module _ (ps1 : List Process) (r1 left asleep : Objects) (b1 : List ℕ)
      (does : DoesNext lib (world_blocked ps r b) pid x (world_left ps1 r1 (then_blocked pid x b1))) (list : AreBlocked ps1 (then_blocked pid x b1))
      (left_so : AreLeft b b1) (kept : KeepSleepers r r1) (unheld : EndsUnheld ps1 r1 left) (falls : FallsAsleep ps1 pid (fell_asleep x) left asleep) where
    pub asleep_consistent : IsConsistent ps1 asleep
    asleep_consistent = beside_consistent ps1 left asleep falls.beside unheld.consistent

    both_kept : KeepSleepers r left
    both_kept = (unheld.asleep.0 ∙ kept.0, unheld.asleep.1 ∙ kept.1)

    gets_known : (k : ℕ) (a : Awaited) → Seeks r k a → Seeks asleep k a
    gets_known k a there = falls.others k a (same_seeks r left both_kept k a there)

    pub known : AreSought ps1 asleep
    known = acted_sought lib ps ps1 r r1 asleep b b1 pid x whole.sound does whole.are_blocked list left_so whole.sought gets_known falls.itself

    -- in the order in which they blocked
    pub ordered : AreOrdered ps1 asleep (then_blocked pid x b1)
    ordered = acted_ordered lib ps ps1 r r1 asleep b b1 pid x whole.sound does whole.are_blocked list left_so whole.sought gets_known falls.itself whole.ordered
        (λ silent. let same = falls.same silent in (same.0 ∙ both_kept.0, same.1 ∙ both_kept.1))
        (λ told a is. moved_last pid r left asleep a both_kept (falls.last told a is))

    -- and it is known once waits have fired
    pub fired_known : (fires : Objects) → FiresWaits ps1 asleep fires → AreSought ps1 fires
    fired_known fires fired_so k p a ds at is = same_seeks asleep fires fired_so.asleep k (awaited_of a) (known k p a ds at is)

    pub fired_ordered : (fires : Objects) → FiresWaits ps1 asleep fires → AreOrdered ps1 fires (then_blocked pid x b1)
    fired_ordered fires fired_so = same_ordered ps1 asleep fires (then_blocked pid x b1) fired_so.asleep ordered

    -- nothing is due
    module _ (none : list_any (holds_now asleep.objects) asleep.waits ≡ false) (quiet : (k : ℕ) (a : Awaited) → Seeks asleep k a → is_due asleep.objects a ≡
        false)
      where
        still : world_blocked ps1 asleep (then_blocked pid x b1) ≡ wakes (world_left ps1 r1 (then_blocked pid x b1))
        still =
            woken_to ps1 ps1 r1 left asleep asleep (then_blocked pid x b1) (then_blocked pid x b1) unheld
            ((quiet_fires ps1 asleep asleep_consistent none).world (then_blocked pid x b1)
            ∙ ap fired (asleep_world ps1 pid (fell_asleep x) left asleep falls (then_blocked pid x b1)))
            (sym (quiet_wakes ps1 asleep asleep_consistent (then_blocked pid x b1) (λ k p a ds at is. quiet k (awaited_of a) (known k p a ds at is))
            (then_blocked pid x b1)))

        pub quiet_own : DoesOwn lib (own_beside ps r b) pid x (world_left ps1 r1 (then_blocked pid x b1)) ps1
            → StepsOwn lib (own_beside ps r b) pid x (own_beside ps1 asleep (then_blocked pid x b1))
        quiet_own = own_stepped lib ps r b pid x ps1 ps1 asleep (then_blocked pid x b1) (world_left ps1 r1 (then_blocked pid x b1))
            asleep_consistent.processes_in_order refl does still

        pub quiet_step : (started : Option ℕ) (w : Woke) → pids_told w ≡ option_to_list started
            → StepsAndWakes (machine_value lib ps r b) pid (machine_value lib ps1 asleep (then_blocked pid x b1)) x started w
        quiet_step started w told = takes_step lib ps r b pid ps1 ps1 r1 asleep (then_blocked pid x b1) (then_blocked pid x b1) x started w does still
            (just_started (then_blocked pid x b1) started w told)

        pub quiet_whole : (room2 : ℕ) → length ps1 ≤ room2 → IsWhole lib ps1 asleep (then_blocked pid x b1) room2
        quiet_whole room2 enough = stepped_whole ps1 asleep (then_blocked pid x b1) room2 (quiet_step None woke.Nobody refl).takes asleep_consistent
            list known ordered enough

    -- waits fire, and processes wake
    module _ (fires : Objects) (fired_so : FiresWaits ps1 asleep fires) (ps2 : List Process) (r2 : Objects) (b2 : List ℕ)
        (started : Option ℕ) (w : Woke) (wakes_so : Wakes ps1 fires (then_blocked pid x b1) started w ps2 r2 b2) where
      awake_so : world_blocked ps2 r2 b2 ≡ wakes (world_left ps1 r1 (then_blocked pid x b1))
      awake_so = woken_to ps1 ps2 r1 left fires r2 (then_blocked pid x b1) b2 unheld
          (fired_so.world (then_blocked pid x b1) ∙ ap fired (asleep_world ps1 pid (fell_asleep x) left asleep falls (then_blocked pid x b1))) wakes_so.wakes

      pub woken_own : DoesOwn lib (own_beside ps r b) pid x (world_left ps1 r1 (then_blocked pid x b1)) ps1
          → StepsOwn lib (own_beside ps r b) pid x (own_beside ps2 r2 b2)
      woken_own = own_stepped lib ps r b pid x ps1 ps2 r2 b2 (world_left ps1 r1 (then_blocked pid x b1))
          asleep_consistent.processes_in_order wakes_so.held does awake_so

      pub woken_step : StepsAndWakes (machine_value lib ps r b) pid (machine_value lib ps2 r2 b2) x started w
      woken_step = takes_step lib ps r b pid ps1 ps2 r1 r2 (then_blocked pid x b1) b2 x started w does awake_so wakes_so.told

      pub nothing_holds : list_any (holds_now r2.objects) r2.waits ≡ false
      nothing_holds = none_holding ps2 r2 wakes_so.consistent b2 (stepped_awake lib ps ps2 r r2 b b2 pid x woken_step.takes)

      pub woken_whole : (room2 : ℕ) → length ps2 ≤ room2 → IsWhole lib ps2 r2 b2 room2
      woken_whole room2 enough = stepped_whole ps2 r2 b2 room2 woken_step.takes wakes_so.consistent wakes_so.list wakes_so.sought wakes_so.ordered enough
