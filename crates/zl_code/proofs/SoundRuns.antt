-- What steps keep, along runs and histories from a boot world.
use Rattle.zl_code.proofs.Common.{All-nil, Boots, HandlesAreNamed, HandlesAreSound, HasGivenKoids, HasPeer, IsBoot, IsLegalHistory, IsSound, IsSoundWait}
use Rattle.zl_code.proofs.Common.{IsTrue, JobBody, KeepsKoids, KeepsProcesses, Library, List, None, Object, Option, Runs, Some, StandsBelow, Statement, Step}
use Rattle.zl_code.proofs.Common.{TraceItem, World, [], arith, boot_effect, boot_fault, cases_Bool, eqb-true, false, false≢true, flat_map, get}
use Rattle.zl_code.proofs.Common.{has_default_rights, inl, inr, is_process, is_some, list_all, may_boot, none-some, on_object, origin, pid_of, queue_of}
use Rattle.zl_code.proofs.Common.{raisable, refl, same_Some, single, subst, with_object, within, ℕ, ◌<◌, ◌==◌, ◌∙◌, ◌∷◌, ◌≡◌}
use Rattle.zl_code.specs.Handles.{Throughout}
use Rattle.zl_code.proofs.Changes.{Changes, kept}
use Rattle.zl_code.proofs.StepChanges.{NoneKilled, is_killed, boot_kills_none, step_changes, settling_changes, boot_changes}
use Rattle.zl_code.proofs.StepsBeside.{ActsAndSettles}
use Rattle.zl_code.proofs.HandlesKept.{sound_change, sound_settled}
use Rattle.zl_code.proofs.NamesKept.{QueueNames, no_queue, named_change, named_settled}
use Rattle.zl_code.proofs.NotReused.{Keeps, nothing_changed, follows, koids_kept, Keeps-KeepsKoids, given_still, given_change, given_settled, stay_then}
use Rattle.zl_code.proofs.NotReused.{processes_kept}
use Rattle.zl_code.specs.declared.boot.Statement.TheVariants as statement
use Rattle.zl_code.proofs.WaitsKept.{AreLive, live_awake, live_settled, live_without}
use Rattle.zl_code.proofs.SoundKept.{IsNearlySound, nearly_sound, wholly_sound, none_raised, kept_by_change, kept_by_settling}

-- ---- what each step keeps

module _ (P : World → Type 0) (keeps : (lib : Library) (w : World) (p : ℕ) (x : TraceItem) (after : World) → P w → Step lib w p x after → P after) where
  run_keeps : (lib : Library) (w : World) (items : List TraceItem) (after : World) → P w → Runs lib w items after → P after
  run_keeps lib w [] after s e = rw e s
  run_keeps lib w (x ∷ items) after s (mid, step, rest) = run_keeps lib mid items after (keeps lib w (pid_of x) x mid s step) rest

  throughout : (lib : Library) (w : World) (items : List TraceItem) (after : World) → P w → (run : Runs lib w items after) → Throughout P lib w items after run
  throughout lib w [] after s e = s
  throughout lib w (x ∷ items) after s (mid, step, rest) = (s, throughout lib mid items after (keeps lib w (pid_of x) x mid s step) rest)

weaker : (P Q : World → Type 0) → ((w : World) → P w → Q w)
    → (lib : Library) (w : World) (items : List TraceItem) (after : World) (run : Runs lib w items after)
    → Throughout P lib w items after run → Throughout Q lib w items after run
weaker P Q more lib w [] after e s = more w s
weaker P Q more lib w (x ∷ items) after (mid, step, rest) s = (more w s.0, weaker P Q more lib mid items after rest s.1)

-- ---- koids and handles of a step

pub step_keeps_koids : (lib : Library) (w : World) (p : ℕ) (x : TraceItem) (after : World) → HasGivenKoids w → Step lib w p x after → KeepsKoids w after
step_keeps_koids lib w p x after given step = Keeps-KeepsKoids w after given (koids_kept w w after (step_changes lib w p x after step))

pub step_given : (lib : Library) (w : World) (p : ℕ) (x : TraceItem) (after : World) → HasGivenKoids w → Step lib w p x after → HasGivenKoids after
step_given lib w p x after given step = given_still w after given (koids_kept w w after (step_changes lib w p x after step))

pub step_handles_sound : (lib : Library) (w : World) (p : ℕ) (x : TraceItem) (after : World) → HandlesAreSound w → Step lib w p x after → HandlesAreSound after
step_handles_sound lib w p x after s step = kept w HandlesAreSound (λ u v. sound_change w u v s) sound_settled w after (step_changes lib w p x after step) s

pub step_handles_named : (lib : Library) (w : World) (p : ℕ) (x : TraceItem) (after : World) → HasGivenKoids w → HandlesAreNamed w → Step lib w p x after
    → HandlesAreNamed after
step_handles_named lib w p x after given s step =
    (kept w (λ u. HasGivenKoids u × HandlesAreNamed u) (λ u v c both. (given_change w u v c both.0, named_change w u v s both.0 c both.1))
    (λ u v c both. (given_settled u v c both.0, named_settled u v c both.1)) w after (step_changes lib w p x after step) (given, s)).1

-- ---- sound worlds

nearly_kept : (u v : World) → Changes u u v → IsSound u → IsNearlySound v
nearly_kept u v c s = kept u IsNearlySound (λ a b d. kept_by_change u a b s d) kept_by_settling u v c (nearly_sound u s)

pub step_sound : (lib : Library) (w : World) (p : ℕ) (x : TraceItem) (after : World) → IsSound w → Step lib w p x after → IsSound after
step_sound lib w p x after s step = wholly_sound after live (nearly_kept w after (step_changes lib w p x after step) s)
  where
    live : AreLive after
    live = rw step.ends_awake (live_awake step.settled (live_settled step.acted step.settled step.settles))

-- what isn't held has gone, and nothing has woken yet
pub settled_sound : (lib : Library) (w : World) (p : ℕ) (x : TraceItem) (after : World) → IsSound w → ActsAndSettles lib w p x after → IsSound after
settled_sound lib w p x after s step =
    wholly_sound after (live_settled step.acted after step.settles) (nearly_kept w after (settling_changes lib w p x after step) s)

-- a boot registers no wait
pub no_wait_booted : (lib : Library) (w : World) (s : Statement) (vs : List ℕ) → (boot_effect lib w s vs).waits ≡ w.waits
unfolding boot_effect with_object on_object
no_wait_booted lib w (statement.Process job program word handles) vs = refl
no_wait_booted lib w _ vs = refl

-- What is true of a world within a boot.
pub record IsBooting (w : World) : Type 0 where
  pub sound : IsSound w
  pub alive : NoneKilled w
  pub unwatched : w.waits ≡ []

pub still_booting : (lib : Library) (w : World) (s : Statement) (vs : List ℕ) → boot_fault lib w s ≡ None → IsTrue (may_boot lib w s vs) → IsBooting w
    → IsBooting (boot_effect lib w s vs)
still_booting lib w s vs fine may b =
    let none : (boot_effect lib w s vs).waits ≡ [] = no_wait_booted lib w s vs ∙ b.unwatched in
    record {
      sound = wholly_sound (boot_effect lib w s vs) (live_without (boot_effect lib w s vs) none)
          (nearly_kept w (boot_effect lib w s vs) (boot_changes lib w s vs b.sound.objects b.alive fine may) b.sound);
      alive = boot_kills_none lib w s vs b.alive;
      unwatched = none;
    }

boots_booting : (lib : Library) (w : World) (statements : List Statement) (after : World) → IsBooting w → Boots lib w statements after → IsBooting after
boots_booting lib w [] after b e = rw e b
boots_booting lib w (s ∷ statements) after b (vs, fine, may, rest) =
    boots_booting lib (boot_effect lib w s vs) statements after (still_booting lib w s vs fine may b) rest

-- the root job is alone in the world where a boot begins
root_alone : (P : ℕ → Object → Type 0) → P 1 (record { body = JobBody 0 1 [] false; raised = 0 }) → (k : ℕ) (o : Object) → get origin.objects k ≡ Some o → P k o
unfolding get
root_alone P root k o there = elim (cases_Bool (1 == k)) as (λ _. P k o) [
  | inl here ↦ subst (λ j. P j o) (eqb-true 1 k here) (subst (P 1) (same_Some _ o (rw here at there)) root)
  | inr other ↦ absurd (none-some o (rw other at there))
]

origin_is_sound : IsSound origin
unfolding get is_process
origin_is_sound = record {
  handles = record {
    processes = refl;
    objects = refl;
    places = λ p q there. absurd (none-some q there);
    rights = λ p v q e there at. absurd (none-some q there);
    queued = root_alone (λ k o. IsTrue (list_all (λ m. list_all has_default_rights m.handles) (queue_of o.body))) refl;
  };
  named = record {
    tables = λ p v q e there at. absurd (none-some q there);
    queues = root_alone (λ k. QueueNames origin.objects) (no_queue origin.objects (JobBody 0 1 [] false) refl);
  };
  objects = record { below = λ k there. by_object k (get origin.objects k) refl there };
  processes = λ p there. absurd (false≢true there);
  tables = λ p q there. absurd (none-some q there);
  living = λ p q there. absurd (none-some q there);
  blocked = λ p. refl;
  tree = root_alone (λ k o. StandsBelow origin.objects k o.body)
      (record { later = omega arith; shallow = omega arith; policy_known = refl; above = λ e. inl (refl, refl) });
  peers = root_alone (λ k o. HasPeer origin.objects 2 o.body) tt;
  waits = All-nil (IsSoundWait origin);
  raised = root_alone (λ k o. IsTrue (within o.raised (raisable o.body))) (none_raised (raisable (JobBody 0 1 [] false)));
}
  where
    by_object : (k : ℕ) (o : Option Object) → get origin.objects k ≡ o → IsTrue (is_some o) → k < 2
    by_object k None is h = absurd (false≢true h)
    by_object k (Some o) is h = root_alone (λ j x. j < 2) (omega arith) k o is

pub origin_booting : IsBooting origin
origin_booting = record { sound = origin_is_sound; alive = root_alone (λ k o. is_killed o.body ≡ false) refl; unwatched = refl }

pub boot_sound : (lib : Library) (statements : List Statement) (w : World) → IsBoot lib statements w → IsSound w
boot_sound lib statements w boot =
    wholly_sound w (live_settled boot.made w boot.settles)
    (kept_by_settling boot.made w boot.settles (nearly_sound boot.made (boots_booting lib origin statements boot.made origin_booting boot.boots).sound))

-- ---- runs and histories from a boot world

pub run_sound : (lib : Library) (statements : List Statement) (boot after : World) (items : List TraceItem) → IsBoot lib statements boot
    → Runs lib boot items after → IsSound after
run_sound lib statements boot after items is_boot run = run_keeps IsSound step_sound lib boot items after (boot_sound lib statements boot is_boot) run

-- what every sound world has is true of every world of a legal history
pub history_keeps : (Q : World → Type 0) → ((w : World) → IsSound w → Q w)
    → (lib : Library) (statements : List Statement) (boot after : World) (history : List TraceItem) → IsBoot lib statements boot
    → (legal : IsLegalHistory lib boot history after) → Throughout Q lib boot (flat_map single history) after legal.run × Q after
history_keeps Q of_sound lib statements boot after history is_boot legal = (
  weaker IsSound Q of_sound lib boot (flat_map single history) after legal.run
      (throughout IsSound step_sound lib boot (flat_map single history) after (boot_sound lib statements boot is_boot) legal.run),
  of_sound after (run_sound lib statements boot after (flat_map single history) is_boot legal.run),
)

pub runs_keep_koids : (lib : Library) (statements : List Statement) (boot w after : World) (items more : List TraceItem) → IsBoot lib statements boot
    → Runs lib boot items w → Runs lib w more after → KeepsKoids w after
runs_keep_koids lib statements boot w after items more is_boot first second =
    Keeps-KeepsKoids w after (run_sound lib statements boot w items is_boot first).objects
    (run_keeps (Keeps w) (λ l u p x v k step. follows w u v k (koids_kept u u v (step_changes l u p x v step))) lib w more after (nothing_changed w) second)

pub step_keeps_processes : (lib : Library) (w : World) (p : ℕ) (x : TraceItem) (after : World) → IsSound w → Step lib w p x after → KeepsProcesses w after
step_keeps_processes lib w p x after s step = processes_kept w w after s (step_changes lib w p x after step)

pub runs_keep_processes : (lib : Library) (statements : List Statement) (boot w after : World) (items more : List TraceItem) → IsBoot lib statements boot
    → Runs lib boot items w → Runs lib w more after → KeepsProcesses w after
runs_keep_processes lib statements boot w after items more is_boot first second =
    (run_keeps (λ u. IsSound u × KeepsProcesses w u)
    (λ l u p x v both step. (step_sound l u p x v both.0 step, stay_then w u v both.1 (step_keeps_processes l u p x v both.0 step)))
    lib w more after (run_sound lib statements boot w items is_boot first, (λ p q there. (q, there, refl))) second).1
