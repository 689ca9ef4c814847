-- The processes of checked programs stay as their typings say, behind a step and behind what one of them did by itself.
use Rattle.zl_calls.proofs.Common.{Bool, IsAbleIn, IsAsTyped, IsCovered, IsSound, IsVerified, Library, List, Objects, Process, Program, Runs, Some, TakesStep}
use Rattle.zl_calls.proofs.Common.{TraceItem, World, [], able_of, after_locals, ap, get, is_ready, map, pid_of, process_entry, process_value, program_in}
use Rattle.zl_calls.proofs.Common.{replicate, runs, set, slice_get, state_value, step_covered, step_sound, subst, sym, true, wakes, world_blocked, ℕ, ◌∙◌, ◌∷◌}
use Rattle.zl_calls.proofs.Common.{◌≡◌}
use Rattle.zl_code.specs.declared.history.TraceItem.TheVariants as item
use Rattle.zl_calls.proofs.step.Advancing.{advances}
use Rattle.zl_calls.proofs.step.Performing.{AtTurn, ready_state}
use Rattle.zl_calls.proofs.step.StepItems.{machine_value}

module _ (lib : Library) (v : IsVerified lib) where
  -- what each step keeps, a run keeps
  runs_covered : (w : World) (xs : List TraceItem) (w2 : World) → IsSound w → IsCovered lib w → Runs lib w xs w2 → IsCovered lib w2
  runs_covered w [] w2 sound c e = subst (IsCovered lib) (sym e) c
  runs_covered w (x ∷ xs) w2 sound c (mid, step, rest) =
      runs_covered mid xs w2 (step_sound lib w (pid_of x) x mid sound step) (step_covered lib v w x mid sound c step) rest

  pub stepped_covered : (ps ps2 : List Process) (r r2 : Objects) (blocked blocked2 : List ℕ) (pid : ℕ) (x : TraceItem)
      → TakesStep (machine_value lib ps r blocked) pid (machine_value lib ps2 r2 blocked2) x
      → IsSound (world_blocked ps r blocked) → IsCovered lib (world_blocked ps r blocked) → IsCovered lib (world_blocked ps2 r2 blocked2)
  stepped_covered ps ps2 r r2 blocked blocked2 pid x takes sound c =
      step_covered lib v (world_blocked ps r blocked) x (world_blocked ps2 r2 blocked2) sound c takes.steps.step

  -- the process p stands at the place, under the pid, is ready and runs this program
  module _ {ps : List Process} {r : Objects} {blocked : List ℕ} {pid place : ℕ} {p : Process} (turn : AtTurn ps r blocked pid place p)
      (quiet : wakes (world_blocked ps r blocked) ≡ world_blocked ps r blocked) (g : Program) (at : slice_get lib p.program ≡ Some g)
      (n : ℕ) (p2 : Process) (cpu : p2 ≡ record p { cpu = p2.cpu }) (follows : after_locals g.image n p.cpu ≡ Some p2.cpu) where
    pub advanced_covered : IsCovered lib (world_blocked ps r blocked) → IsCovered lib (world_blocked (set ps place p2) r blocked)
    advanced_covered c = runs_covered (world_blocked ps r blocked) (replicate n (item.Run pid 1)) (world_blocked (set ps place p2) r blocked) turn.sound c
        (advances turn lib quiet g at n p2 cpu follows)

  -- ---- a Cpu by itself

  -- the Cpu of a process that is ready is as a typing of its program says, if that is checked
  pub able_there : (ps : List Process) (r : Objects) (blocked : List ℕ) (pid : ℕ) (p : Process) (g : Program) → IsSound (world_blocked ps r blocked)
      → IsCovered lib (world_blocked ps r blocked) → get (map process_entry ps) pid ≡ Some (process_value p) → is_ready (state_value p.state) ≡ true
      → slice_get lib p.program ≡ Some g → IsAbleIn g p.cpu
  able_there ps r blocked pid p g sound c there ready at checked =
      let listed : slice_get lib p.program ≡ Some (record { checked = true; image = g.image }) =
      at ∙ ap (λ (b : Bool). Some (record { checked = b; image = g.image })) checked in
      let k : IsAsTyped g.image (world_blocked ps r blocked) pid (process_value p) =
      c.typed pid (process_value p) g.image there (ap runs (ready_state p.state ready)) listed in
      able_of g.image k.typing (world_blocked ps r blocked) pid (process_value p) (program_in lib p.program g v.images at) k.types sound.handles there
      k.conforms
