-- What is true of each world of a run for its checked programs: a boot makes it so, and each step keeps it.
use Rattle.zl_verify.proofs.Common.{Conforms, Image, IsAsTyped, IsCovered, IsFitStep, IsSizedBoot, IsSound, IsStarted, IsUnderWay, IsVerified, Library, List}
use Rattle.zl_verify.proofs.Common.{None, Option, Process, Some, Statement, Step, TraceItem, World, ap, cases_Bool, eqb-true, false, get, has_ended, inl, inr}
use Rattle.zl_verify.proofs.Common.{is_in_range, pid_of, program_in, refl, runs, same_Some, slice_get, state_passes, step_keeps_processes, subst, sym, true, ℕ}
use Rattle.zl_verify.proofs.Common.{◌==◌, ◌∙◌, ◌≡◌, ◌⊎◌}
use Rattle.zl_verify.proofs.SizedRuns.{boot_sized, step_sized}
use Rattle.zl_verify.proofs.Starting.{starts_conforming}
use Rattle.zl_verify.proofs.CheckedRuns.{StandsIn, stands_still}
use Rattle.zl_verify.proofs.UnstartedRuns.{step_unstarted}
use Rattle.zl_verify.proofs.BootStarts.{Checks, boot_is_proper}
use Rattle.zl_verify.proofs.ChildStarts.{boot_unstarted, child_starts, found_created}
use Rattle.zl_verify.proofs.Headline.{program_in as image_in}
use Rattle.zl_verify.proofs.Idling.{IsIdle, IsStarting, stays_idle}
use Rattle.zl_verify.proofs.Woken.{not_over, lives_then}

module _ (lib : Library) (v : IsVerified lib) where
  in_range : (n : ℕ) (i : Image) → Checks (slice_get lib n) i → is_in_range i ≡ true
  in_range n i at = image_in lib n (record { checked = true; image = i }) v.images at

  -- who has just started properly
  as_started : (i : Image) (n : ℕ) → Checks (slice_get lib n) i → (w : World) (q : ℕ) (y : Process) → get w.processes q ≡ Some y → IsStarted lib i w q
      → IsAsTyped i w q y
  as_started i n at w q y there s =
      let b = v.bounds n i at in
      record {
        typing = b.states;
        types = b.typing;
        conforms = subst (Conforms i b.states w q) (same_Some s.process y (sym s.there ∙ there))
            (starts_conforming i b.states (in_range n i at) b.typing lib w q s.process s.proper);
      }

  pub boot_covered : (statements : List Statement) (boot : World) → IsSizedBoot lib statements boot → IsCovered lib boot
  boot_covered statements boot b = record {
    sized = boot_sized lib statements boot b;
    unstarted = boot_unstarted lib statements boot b;
    typed = λ q y i there running at. as_started i y.program at boot q y there (boot_is_proper lib statements boot b q i (ap (program_in lib) there ∙ at));
  }

  module _ (w : World) (x : TraceItem) (w2 : World) (sound : IsSound w) (c : IsCovered lib w) (step : Step lib w (pid_of x) x w2) where
    abbrev fit : IsFitStep lib w (pid_of x) x w2
    fit = record { images = v.images; sound = sound; sized = c.sized; step = step }

    module _ (q : ℕ) (y : Process) (i : Image) (there : get w2.processes q ≡ Some y) (running : runs y.state ≡ true)
        (at : Checks (slice_get lib y.program) i) where
      -- the program that it had
      listed : (z : Process) → get w.processes q ≡ Some z → Checks (slice_get lib z.program) i
      listed z was =
          let (after, is, same) = step_keeps_processes lib w (pid_of x) x w2 sound step q z was in
          ap (slice_get lib) (sym same ∙ ap (λ (u : Process). u.program) (same_Some after y (sym is ∙ there))) ∙ at

      -- one that ran
      when_ran : (z : Process) → get w.processes q ≡ Some z → runs z.state ≡ true → IsAsTyped i w2 q y
      when_ran z was ran = by (stands_still lib i k.typing (in_range z.program i (listed z was)) k.types w x w2 fit q (inl under)).1
        where
          k : IsAsTyped i w q z
          k = c.typed q z i was ran (listed z was)

          under : IsUnderWay lib i k.typing w q
          under = record { process = z; there = was; running = ran; checked = true; program = listed z was; conforms = k.conforms }

          by : StandsIn lib i k.typing (in_range z.program i (listed z was)) k.types w2 q → IsAsTyped i w2 q y
          by (inl u) = record {
            typing = k.typing;
            types = k.types;
            conforms = subst (Conforms i k.typing w2 q) (same_Some u.process y (sym u.there ∙ there))
                u.conforms;
          }
          by (inr o) = absurd (not_over y.state (lives_then y.state running)
              (subst (λ (u : Process). has_ended u.state ≡ true) (same_Some o.process y (sym o.there ∙ there)) o.over))

      still_idle : IsIdle w2 q → ⊥
      still_idle idle = let bad : true ≡ false = sym running ∙ (sym (ap (state_passes runs) there) ∙ idle) in cc

      -- one that didn't run was started
      when_idle : (pid_of x == q) ≡ false → IsIdle w q → IsAsTyped i w2 q y
      when_idle apart idle = by (stays_idle lib w (pid_of x) x w2 step q apart idle)
        where
          by : IsIdle w2 q ⊎ IsStarting lib w (pid_of x) x w2 step q apart idle → IsAsTyped i w2 q y
          by (inl i2) = absurd (still_idle i2)
          by (inr s) =
              let (z, was, new) = found_created w q s.created in
              as_started i z.program (listed z was) w2 q y there (child_starts lib w (pid_of x) x w2 fit c.unstarted i q s.told s.child
              (ap (program_in lib) was ∙ listed z was))

      -- who steps runs
      not_idle : (pid_of x == q) ≡ true → IsIdle w q → ⊥
      not_idle same idle =
          let bad : true ≡ false = sym (ap runs step.is_ready) ∙ (sym (ap (state_passes runs)
          (subst (λ j. get w.processes j ≡ Some step.process) (eqb-true (pid_of x) q same) step.is_there)) ∙ idle) in
          cc

      typed_still : IsAsTyped i w2 q y
      typed_still = by (get w.processes q) refl
        where
          when_not : IsIdle w q → IsAsTyped i w2 q y
          when_not idle = either (cases_Bool (pid_of x == q))
            where
              either : ((pid_of x == q) ≡ true) ⊎ ((pid_of x == q) ≡ false) → IsAsTyped i w2 q y
              either (inl same) = absurd (not_idle same idle)
              either (inr apart) = when_idle apart idle

          by : (o : Option Process) → get w.processes q ≡ o → IsAsTyped i w2 q y
          by None was = when_not (ap (state_passes runs) was)
          by (Some z) was = by_life (cases_Bool (runs z.state))
            where
              by_life : (runs z.state ≡ true) ⊎ (runs z.state ≡ false) → IsAsTyped i w2 q y
              by_life (inl ran) = when_ran z was ran
              by_life (inr idle) = when_not (ap (state_passes runs) was ∙ idle)

    pub step_covered : IsCovered lib w2
    step_covered = record {
      sized = step_sized lib v.images w (pid_of x) x w2 sound c.sized step;
      unstarted = step_unstarted lib w (pid_of x) x w2 fit sound c.unstarted;
      typed = typed_still;
    }
