-- Local instructions that a process did away from the world: it has gone ahead by them.
use Rattle.zl_code.proofs.Common.{AtCall, IsStuck, Moves, Next, Runs, Some, Step, ap, arith, false, inl, inr, next_for, refl, replicate, subst, suc, sym}
use Rattle.zl_code.proofs.Common.{true, true≢false, wakes, zero, ℕ, ◌+◌, ◌-◌, ◌∙◌, ◌≡◌, ◌≤◌, ◌⊎◌}
use Rattle.zl_rights.specs.Settled.{settled}
use Rattle.zl_rights.proofs.Settling.{Settles-exists, Settles-unique}
use Rattle.zl_code.specs.Steps.{Acts}
use Rattle.zl_code.specs.declared.history.TraceItem.TheVariants as item
use Rattle.zl_code.specs.OwnHistory.{tells_run}
use Rattle.zl_code.specs.OwnSteps.{own_ending, own_step}
use Rattle.zl_calls.specs.World.{Machine, own_here}
use Rattle.zl_explore.specs.Cpus.{with_cpus}
use Rattle.zl_explore.specs.GoesAhead.{gone_ahead}
use Rattle.zl_explore.specs.Private.{IsStill, is_local, runs_alone}
use Rattle.zl_explore.specs.Paths.{IsPath, after}
use Rattle.zl_explore.specs.Running.{ready_of, rested_machine, turned}
use Rattle.zl_explore.proofs.Local.{MovesOn, cpu_for, ending_moved, local_step}
use Rattle.zl_explore.proofs.Private.{local_ready, local_rested, rests_start, same_machine, turn_is}
use Rattle.zl_explore.proofs.Still.{still_behind}

-- ---- one of them

-- it is the own step, which leaves the values as they are
module _ (m m2 : Machine) (still : IsStill (own_here m)) (p : ℕ) (programs : m2.programs ≡ m.programs) (free : m2.free ≡ m.free)
    (step : Step m.programs m.world p (item.Run p 1) m2.world) where
  own_local : own_step m.programs (own_here m) p ≡ Some (own_here m2, item.Run p 1)
  own_local = by_next (next_for m.programs step.process) refl step.acts
    where
      by_next : (n : Next) → next_for m.programs step.process ≡ n → Acts m.programs m.world p n (item.Run p 1) step.acted
          → own_step m.programs (own_here m) p ≡ Some (own_here m2, item.Run p 1)
      by_next (Moves c) is acts =
          let moves : MovesOn m.programs (own_here m) p = record { process = step.process; there = step.is_there; ready = step.is_ready; to = c; next = is } in
          let world : m2.world ≡ with_cpus (cpu_for p c) m.world =
          step.ends_awake ∙ (ap wakes (Settles-unique step.acted step.settled (settled step.acted) step.settles (Settles-exists step.acted))
          ∙ (ap own_ending acts.1 ∙ ending_moved m.programs (own_here m) still p moves)) in
          local_step m.programs (own_here m) still p moves ∙ λ i. Some (record { world = sym world i; free = sym free i }, item.Run p 1)
      by_next (AtCall call s) is acts = absurd (true≢false (ap tells_run acts.1))
      by_next IsStuck is acts = absurd (true≢false (ap tells_run acts.0))

  local_first : is_local (rested_machine m) p ≡ true
  unfolding is_local
  local_first = local_rested m p still.order ∙ ap runs_alone own_local

  turn_first : turned (rested_machine m) p ≡ rested_machine m2
  turn_first = same_machine (turned (rested_machine m) p) (rested_machine m2) (sym programs)
      (turn_is (rested_machine m) (rests_start m still) p (own_here m2) (item.Run p 1) own_local)

-- ---- all of them

module _ (p : ℕ) where
  pub advanced_still : (n : ℕ) (m m2 : Machine) → IsStill (own_here m) → m2.programs ≡ m.programs → m2.free ≡ m.free
      → Runs m.programs m.world (replicate n (item.Run p 1)) m2.world → IsStill (own_here m2)
  advanced_still zero m m2 still programs free same = subst IsStill (λ i. record { world = sym same i; free = sym free i }) still
  advanced_still (suc n) m m2 still programs free (mid, step, more) =
      let own = own_local m (record m { world = mid }) still p refl refl step in
      advanced_still n (record m { world = mid }) m2
      (still_behind m.programs (own_here m) (record { world = mid; free = m.free }) p (item.Run p 1) still.order own) programs free more

  gone_along : (n : ℕ) (m m2 : Machine) → IsStill (own_here m) → m2.programs ≡ m.programs → m2.free ≡ m.free
      → Runs m.programs m.world (replicate n (item.Run p 1)) m2.world → (k total : ℕ) → total ≡ n + k
      → gone_ahead turned is_local total (rested_machine m) p ≡ gone_ahead turned is_local k (rested_machine m2) p
  unfolding gone_ahead
  gone_along zero m m2 still programs free same k total is =
      let count : total ≡ k = omega (arith, is) in
      λ i. gone_ahead turned is_local (count i) (rested_machine (same_machine m m2 (sym programs) (λ j. record { world = sym same j; free = sym free j }) i)) p
  gone_along (suc n) m m2 still programs free run k zero is = absurd (omega (arith, is))
  gone_along (suc n) m m2 still programs free (mid, step, more) k (suc total) is =
      let own = own_local m (record m { world = mid }) still p refl refl step in
      rw (local_first m (record m { world = mid }) still p refl refl step)
      (ap (λ s. gone_ahead turned is_local total s p) (turn_first m (record m { world = mid }) still p refl refl step)
      ∙ gone_along n (record m { world = mid }) m2
      (still_behind m.programs (own_here m) (record { world = mid; free = m.free }) p (item.Run p 1) still.order own) programs free more k total
      (omega (arith, is)))

  pub gone_no_more : (k : ℕ) (s : Machine) → ((k ≡ 0) ⊎ (is_local s p ≡ false)) → gone_ahead turned is_local k s p ≡ s
  unfolding gone_ahead
  gone_no_more zero s stops = refl
  gone_no_more (suc k) s (inl none) = absurd (omega (arith, none))
  gone_no_more (suc k) s (inr stops) = rw stops refl

  -- who did so many local instructions, and no more as there were that many or none came next, has gone ahead
  pub advanced_is : (n most : ℕ) (m m2 : Machine) → IsStill (own_here m) → m2.programs ≡ m.programs → m2.free ≡ m.free
      → Runs m.programs m.world (replicate n (item.Run p 1)) m2.world → n ≤ most → ((n ≡ most) ⊎ (is_local m2 p ≡ false))
      → gone_ahead turned is_local most (rested_machine m) p ≡ rested_machine m2
  advanced_is n most m m2 still programs free run few stops =
      gone_along n m m2 still programs free run (most - n) most (omega (arith, few)) ∙ gone_no_more (most - n) (rested_machine m2) (elim stops [
        | inl all ↦ inl (omega (arith, all))
        | inr none ↦ inr (local_rested m2 p (advanced_still n m m2 still programs free run).order ∙ none)
      ])

  -- its instructions are turns that lead there
  pub gone_path : (n : ℕ) (m m2 : Machine) → IsStill (own_here m) → m2.programs ≡ m.programs → m2.free ≡ m.free
      → Runs m.programs m.world (replicate n (item.Run p 1)) m2.world → IsPath ready_of turned (rested_machine m) (replicate n p)
      × (after ready_of turned (rested_machine m) (replicate n p) ≡ rested_machine m2)
  unfolding IsPath after
  gone_path zero m m2 still programs free same =
      (tt, λ i. rested_machine (same_machine m m2 (sym programs) (λ j. record { world = sym same j; free = sym free j }) i))
  gone_path (suc n) m m2 still programs free (mid, step, more) =
      let own = own_local m (record m { world = mid }) still p refl refl step in
      let first = turn_first m (record m { world = mid }) still p refl refl step in
      let rest = gone_path n (record m { world = mid }) m2
      (still_behind m.programs (own_here m) (record { world = mid; free = m.free }) p (item.Run p 1) still.order own) programs free more in (
        (
          local_ready (rested_machine m) (rests_start m still) p (local_first m (record m { world = mid }) still p refl refl step),
          subst (λ s. IsPath ready_of turned s (replicate n p)) (sym first) rest.0,
        ),
        ap (λ s. after ready_of turned s (replicate n p)) first ∙ rest.1,
      )
