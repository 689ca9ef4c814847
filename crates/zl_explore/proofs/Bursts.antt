-- A burst of a process that is ready, taken back by its world: the process has gone ahead.
use Rattle.zl_code.proofs.Common.{AtCall, IsStuck, IsTrue, Moves, Next, None, Option, Process, Runs, Some, ap, eq-eqb, false, false≢true, get, get-update}
use Rattle.zl_code.proofs.Common.{inl, inr, is_process, is_ready, next_for, on_process, option_map, refl, replicate, slice_get, state_passes, sym, true}
use Rattle.zl_code.proofs.Common.{ℕ, ◌∙◌, ◌≡◌, ◌≤◌, ◌⊎◌}
use Rattle.zl_code.specs.Starting.{program_in, program_of}
use Rattle.zl_code.specs.Steps.{next_at, next_in}
use Rattle.zl_interp.specs.Bursts.{Agrees, Done, IsBurst, Turn, stop_at}
use Rattle.zl_interp.specs.declared.bursts.Stop.{Stop}
use Rattle.zl_interp.specs.declared.bursts.Stop.TheVariants as stop
use Rattle.zl_calls.specs.Turns.{Fits, IsTurn, advanced, steps_done}
use Rattle.zl_calls.specs.World.{Machine, is_ready_in, own_here}
use Rattle.zl_explore.specs.GoesAhead.{gone_ahead}
use Rattle.zl_explore.specs.Paths.{IsPath, after}
use Rattle.zl_explore.specs.Private.{IsStill, is_local, moves_now}
use Rattle.zl_explore.specs.Running.{ready_of, rested_machine, turned}
use Rattle.zl_explore.proofs.Advanced.{advanced_is, advanced_still, gone_no_more, gone_path}
use Rattle.zl_explore.proofs.BesideSteps.{is_ready_Ready}
use Rattle.zl_explore.proofs.Local.{local_next}
use Rattle.zl_explore.proofs.Steps.{no_step}
use Rattle.zl_explore.proofs.Turns.{process_rested}

no_more : (n : Next) → (stop_at n ≡ stop.More → ⊥) → moves_now n ≡ false
no_more (Moves c) isnt = absurd (isnt refl)
no_more (AtCall call site) isnt = refl
no_more IsStuck isnt = refl

-- a burst of a turn fits where that was taken
pub fits_of : (m : Machine) (pid : ℕ) (t : Turn) (d : Done) → IsTurn m pid t → d.pid ≡ t.pid → d.from ≡ t.cpu → d.version ≡ t.program.image.version
    → Agrees t.program.image.code d.places → Fits m d
fits_of m pid t d is process from version agrees = record {
  program = t.program;
  stands = record {
    program_is = ap (program_of m.programs m.world) (process ∙ is.pid_is) ∙ is.stands.program_is;
    cpu_is = ap (λ k. option_map (λ p. p.cpu) (get m.world.processes k)) (process ∙ is.pid_is) ∙ (is.stands.cpu_is ∙ ap Some (sym from));
  };
  matches = record { version = sym version; agrees = agrees };
}

-- where it ended elsewhere than at a local instruction, none comes next
burst_stops : (m : Machine) (d : Done) → Fits m d → IsBurst d → IsTrue (is_ready_in m d.pid) → (d.stop ≡ stop.More → ⊥)
    → is_local (advanced m d) d.pid ≡ false
unfolding is_process on_process
burst_stops m d fits burst ready isnt = by_found (get m.world.processes d.pid) refl ready
  where
    by_found : (found : Option Process) → get m.world.processes d.pid ≡ found → state_passes is_ready found ≡ true → is_local (advanced m d) d.pid ≡ false
    by_found None there is = absurd (false≢true is)
    by_found (Some q) there is =
        let behind : Process = record q { cpu = d.to } in
        let stands : get (advanced m d).world.processes d.pid ≡ Some behind = rw (get-update, eq-eqb d.pid d.pid refl, there) refl in
        let program : slice_get m.programs q.program ≡ Some fits.program = sym (ap (program_in m.programs) there) ∙ fits.stands.program_is in
        let next : next_for m.programs behind ≡ next_at fits.program.image d.to = ap (λ g. next_in g d.to) program in
        local_next (advanced m d) d.pid behind stands (is_ready_Ready q.state is)
        ∙ (ap moves_now next
        ∙ no_more (next_at fits.program.image d.to) (λ more. isnt (burst.stops fits.program.image fits.matches ∙ more)))

either_way : (s : Stop) → (s ≡ stop.More) ⊎ (s ≡ stop.More → ⊥)
either_way stop.More = inl refl
either_way stop.AtCall = inr (λ e. absurd cc)
either_way stop.Stuck = inr (λ e. absurd cc)

-- what it did leads to where the process has gone ahead
pub record Gone (m m2 : Machine) (most pid count : ℕ) : Type 0 where
  pub still : IsStill (own_here m2)
  pub next : rested_machine m2 ≡ gone_ahead turned is_local most (rested_machine m) pid
  pub is_path : IsPath ready_of turned (rested_machine m) (replicate count pid)
  pub leads : after ready_of turned (rested_machine m) (replicate count pid) ≡ rested_machine m2

pub burst_goes : (m m2 : Machine) (d : Done) (most : ℕ) → IsStill (own_here m) → IsTrue (is_ready_in m d.pid) → Fits m d → IsBurst d → d.ran ≤ most
    → (d.stop ≡ stop.More → d.ran ≡ most) → m2 ≡ advanced m d → Runs m.programs m.world (steps_done d) m2.world → Gone m m2 most d.pid d.ran
burst_goes m m2 d most still ready fits burst few whole is runs = record {
  still = advanced_still d.pid d.ran m m2 still (λ i. (is i).programs) (λ i. (is i).free) runs;
  next = sym (advanced_is d.pid d.ran most m m2 still (λ i. (is i).programs) (λ i. (is i).free) runs few stops);
  is_path = path.0;
  leads = path.1;
}
  where
    stops : (d.ran ≡ most) ⊎ (is_local m2 d.pid ≡ false)
    stops = elim (either_way d.stop) [
      | inl more ↦ inl (whole more)
      | inr isnt ↦ inr (ap (λ x. is_local x d.pid) is ∙ burst_stops m d fits burst ready isnt)
    ]

    path : IsPath ready_of turned (rested_machine m) (replicate d.ran d.pid)
        × (after ready_of turned (rested_machine m) (replicate d.ran d.pid) ≡ rested_machine m2)
    path = gone_path d.pid d.ran m m2 still (λ i. (is i).programs) (λ i. (is i).free) runs

-- who isn't ready goes nowhere
pub stays : (m : Machine) (p most : ℕ) → is_process m.world is_ready p ≡ false → rested_machine m ≡ gone_ahead turned is_local most (rested_machine m) p
unfolding is_local
stays m p most unready = sym (gone_no_more p most (rested_machine m) (inr (rw
    (no_step m.programs (own_here (rested_machine m)) p (process_rested m.world is_ready p ∙ unready)) refl)))
