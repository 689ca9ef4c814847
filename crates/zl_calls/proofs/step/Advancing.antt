-- What a process did by itself comes back to the world: what stands there for it, and the steps that these instructions are.
use Rattle.zl_calls.proofs.Common.{Cpu, Err, HavePrograms, IfOk, IsPlaceOf, IsSound, IsTrue, Library, List, None, Objects, Ok, Option, Process, Program, Result}
use Rattle.zl_calls.proofs.Common.{Runs, Settles, Some, Stands, World, after_locals, ap, arith, false≢true, get, get_or, is_process, is_ready, is_ready_in}
use Rattle.zl_calls.proofs.Common.{is_some, length, map, on_process, option_map, process_entry, process_value, refl, replicate, same_Some, set, slice_get}
use Rattle.zl_calls.proofs.Common.{slice_get-get_or, slice_get_within, state_value, step_programs, step_sound, subst, sym, true, wakes, world_blocked, ℕ, ◌<◌}
use Rattle.zl_calls.proofs.Common.{◌∙◌, ◌≡◌, ◌≤◌}
use Rattle.zl_code.specs.declared.history.TraceItem.TheVariants as item
use Rattle.zl_calls.proofs.step.LocalMoves.{stands, moved_awake, moved_rests, moved_world}
use Rattle.zl_calls.proofs.step.LocalRuns.{along, locals_run}
use Rattle.zl_calls.proofs.step.Performing.{AtTurn, ready}
use Rattle.zl_calls.proofs.step.StepItems.{machine_value}

-- ---- what stands there

-- the process that is read at its place is what the world has
pub read_there : (ps : List Process) (pid place : ℕ) (p : Process) → IsPlaceOf ps pid place → p ≡ get_or ps place p
    → get (map process_entry ps) pid ≡ Some (process_value p)
read_there ps pid place p at read = at.holds ∙ ap (option_map process_value) (slice_get-get_or ps place p at.within ∙ ap (λ (q : Process). Some q) (sym read))

module _ (lib : Library) (ps : List Process) (r : Objects) (blocked : List ℕ) (pid : ℕ) where
  -- nor is it ready
  pub none_ready : get (map process_entry ps) pid ≡ None → IsTrue (is_ready_in (machine_value lib ps r blocked) pid) → ⊥
  unfolding is_process
  none_ready gone ready = false≢true (rw gone at ready)

  module _ (p : Process) (there : get (map process_entry ps) pid ≡ Some (process_value p)) where
    pub program_stands : (g : Program) (c : Cpu) → Stands (machine_value lib ps r blocked) pid g c → slice_get lib p.program ≡ Some g
    program_stands g c h = rw there at h.program_is

    pub cpu_stands : (g : Program) (c : Cpu) → Stands (machine_value lib ps r blocked) pid g c → p.cpu ≡ c
    cpu_stands g c h = same_Some p.cpu c (rw there at h.cpu_is)

    pub ready_there : IsTrue (is_ready_in (machine_value lib ps r blocked) pid) → is_ready (state_value p.state) ≡ true
    unfolding is_process
    ready_there ready = rw there at ready

    pub they_stand : (g : Program) (c : Cpu) → slice_get lib p.program ≡ Some g → p.cpu ≡ c → Stands (machine_value lib ps r blocked) pid g c
    they_stand g c program cpu = record { program_is = rw there program; cpu_is = rw there (ap (λ (x : Cpu). Some x) cpu) }

-- a program of the library isn't missing there
pub listed_there : (lib : Library) (n : ℕ) → length lib ≤ n → IsTrue (is_some (slice_get lib n)) → ⊥
listed_there lib n past there = by_program (slice_get lib n) refl there
  where
    by_program : (o : Option Program) → slice_get lib n ≡ o → IsTrue (is_some o) → ⊥
    by_program None is h = false≢true h
    by_program (Some g) is h = let bound : n < length lib = slice_get_within lib n g is in omega (arith, bound, past)

-- what is made, if it is, passes
pub made_passes : {T E : Type 0} (P : T → Type 0) (x : T) (o : Result T E) → IfOk o (λ t. t ≡ x) → P x → IfOk o P
made_passes P x (Ok t) is passes = subst P (sym is) passes
made_passes P x (Err e) is passes = tt

-- ---- the steps

-- the process p stands at the place, under the pid, is ready and runs this program
module _ {ps : List Process} {r : Objects} {blocked : List ℕ} {pid place : ℕ} {p : Process} (turn : AtTurn ps r blocked pid place p) (lib : Library)
    (quiet : wakes (world_blocked ps r blocked) ≡ world_blocked ps r blocked) (g : Program) (runs : slice_get lib p.program ≡ Some g) where
  abbrev before : World
  before = world_blocked ps r blocked

  at_rest : (c : Cpu) → Settles (on_process before pid (λ q. record q { cpu = c })) (on_process before pid (λ q. record q { cpu = c }))
  at_rest c = subst (λ (w : World). Settles w w) (moved_world turn (record p { cpu = c }) refl) (moved_rests turn (record p { cpu = c }) refl)

  awake : (c : Cpu) → wakes (on_process before pid (λ q. record q { cpu = c })) ≡ on_process before pid (λ q. record q { cpu = c })
  awake c = subst (λ (w : World). wakes w ≡ w) (moved_world turn (record p { cpu = c }) refl) (moved_awake turn (record p { cpu = c }) refl quiet)

  module _ (n : ℕ) (p2 : Process) (cpu : p2 ≡ record p { cpu = p2.cpu }) (follows : after_locals g.image n p.cpu ≡ Some p2.cpu) where
    -- as many steps as were done lead to the world with the new Cpu
    pub advances : Runs lib before (replicate n (item.Run pid 1)) (world_blocked (set ps place p2) r blocked)
    advances = subst (Runs lib before (replicate n (item.Run pid 1))) (sym (moved_world turn p2 cpu))
        (locals_run lib before pid (process_value p) (stands turn) (ready turn) g runs at_rest awake n p2.cpu follows)

    pub advanced_sound : IsSound (world_blocked (set ps place p2) r blocked)
    advanced_sound = along lib IsSound (λ w k x w2 s step. step_sound lib w k x w2 s step) before (replicate n (item.Run pid 1))
        (world_blocked (set ps place p2) r blocked) turn.sound advances

    pub advanced_programs : HavePrograms lib before → HavePrograms lib (world_blocked (set ps place p2) r blocked)
    advanced_programs all = along lib (HavePrograms lib) (λ w k x w2 h step. step_programs lib w k x w2 h step) before (replicate n (item.Run pid 1))
        (world_blocked (set ps place p2) r blocked) all advances
