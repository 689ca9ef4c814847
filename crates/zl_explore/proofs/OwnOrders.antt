-- Orders of own turns of a still world, and the states that reduced turns meet.
use Rattle.zl_code.proofs.Common.{Library, List, Some, [], ap, none-some, refl, slice_get, subst, sym, true, ℕ, ◌∙◌, ◌∷◌, ◌≡◌}
use Rattle.zl_code.specs.declared.history.TraceItem.{TraceItem}
use Rattle.zl_code.specs.Own.{OwnWorld}
use Rattle.zl_code.specs.OwnHistory.{tells_run}
use Rattle.zl_code.specs.OwnSteps.{own_step}
use Rattle.zl_calls.specs.Rested.{own_rested}
use Rattle.zl_calls.specs.World.{Machine, own_here}
use Rattle.zl_explore.specs.Orders.{OwnTurns, ready_in}
use Rattle.zl_explore.specs.Paths.{IsIn, IsPath, after}
use Rattle.zl_explore.specs.Private.{IsLocal, IsStill, RestsStill, Tells}
use Rattle.zl_explore.specs.Reduced.{Ahead, IsReduced}
use Rattle.zl_explore.specs.Running.{ready_of, rested_machine, turned}
use Rattle.zl_explore.specs.Searching.{CanEnd}
use Rattle.zl_explore.specs.Sights.{AreSeen, sights_in}
use Rattle.zl_explore.specs.declared.fact.Fact.{Fact}
use Rattle.zl_explore.proofs.Ending.{Ends}
use Rattle.zl_explore.proofs.Endless.{endless_met}
use Rattle.zl_explore.proofs.Machines.{ends_own}
use Rattle.zl_explore.proofs.Private.{local_turns, rested_step, rests_behind, rests_start, sights_still, steps_in, tells_still}
use Rattle.zl_explore.proofs.Reduced.{meets}
use Rattle.zl_explore.proofs.Seeing.{sights_same}
use Rattle.zl_explore.proofs.Turns.{ready_same}

-- own turns are turns of what counts, and what is true where they lead
own_along : (lib : Library) (holds : Machine → Type 0) (o : OwnWorld)
    → ((u : Machine) (still : IsStill o) → u.programs ≡ lib → own_here u ≡ own_rested o → holds u)
    → (turns : List ℕ) (s : Machine) (rests : RestsStill s) → s.programs ≡ lib → OwnTurns s.programs rests.own turns o
    → IsPath ready_of turned s turns × holds (after ready_of turned s turns)
unfolding IsPath after
own_along lib holds o there [] s rests programs same =
    (tt, there s (subst IsStill (sym same) rests.still) programs (rests.is ∙ ap own_rested (sym same)))
own_along lib holds o there (p ∷ turns) s rests programs (mid, x, step, more) =
    let rest = own_along lib holds o there turns (turned s p) (rests_behind s rests p mid x step) programs more in
    ((steps_in s rests p mid x step, rest.0), rest.1)

-- where each reduced turn leads from what was met to what was met
module _ (m : Machine) (still : IsStill (own_here m)) (reduced : Machine → ℕ → Machine)
    (is_reduced : IsReduced ready_of turned RestsStill IsLocal reduced) (t : Machine) (begins : Ahead ready_of turned IsLocal (rested_machine m) t)
    (met : Machine → Type 0) (closed : (u : Machine) (q : ℕ) → met u → IsIn (ready_of u) q → met (reduced u q)) (is_met : met t)
    (turns : List ℕ) (o : OwnWorld) (leads : OwnTurns m.programs (own_here m) turns o) where
  -- each order of own turns that comes to an end comes to one that was met
  pub ends_met : ready_in o ≡ [] → (u : Machine) × met u × (own_here u ≡ own_rested o)
  ends_met nobody =
      let along = own_along m.programs ends o (λ u still_o programs is. (is, ap ready_in is ∙ (ready_same o ∙ nobody))) turns (rested_machine m)
      (rests_start m still) refl leads in
      let it = meets ready_of turned RestsStill IsLocal local_turns reduced is_reduced (rested_machine m) t (rests_start m still) begins met closed is_met
      ends (λ u p rests is_in local here. absurd (none-some p (subst (λ (ks : List ℕ). slice_get ks is_in.0 ≡ Some p) here.1 is_in.1)))
      turns along.0 along.1 in (it.0, it.1, it.2.0)
    where
      ends : Machine → Type 0
      ends u = (own_here u ≡ own_rested o) × (ready_of u ≡ [])

  -- where it leads to a world from which none lead to an end, a state was met from which no turns do
  pub endless_own : (CanEnd m.programs o → ⊥) → (u : Machine) × met u × (Ends ready_of turned u → ⊥)
  endless_own never =
      let along = own_along m.programs (λ u. Ends ready_of turned u → ⊥) o none turns (rested_machine m) (rests_start m still) refl leads in
      endless_met ready_of turned RestsStill IsLocal local_turns reduced is_reduced (rested_machine m) t (rests_start m still) begins met closed is_met
      turns along.0 along.1
    where
      none : (u : Machine) → IsStill o → u.programs ≡ m.programs → own_here u ≡ own_rested o → Ends ready_of turned u → ⊥
      none u still_o programs here ends = never (subst (λ lib. CanEnd lib o) programs (ends_own u o still_o.order here ends))

  -- what is seen where it leads, is seen in a state that was met
  pub seen_met : (together : List Fact) → AreSeen together (sights_in o) → (u : Machine) × met u × AreSeen together (sights_in (own_here u))
  seen_met together seen =
      let along = own_along m.programs (λ u. AreSeen together (sights_in (own_here u))) o
      (λ u still_o programs is. subst (AreSeen together) (sym (ap sights_in is ∙ sights_same o)) seen) turns (rested_machine m) (rests_start m still) refl
      leads in
      meets ready_of turned RestsStill IsLocal local_turns reduced is_reduced (rested_machine m) t (rests_start m still) begins met closed is_met
      (λ u. AreSeen together (sights_in (own_here u))) (sights_still together) turns along.0 along.1

  -- and an item that some own turn has behind them, a turn has of a state that was met
  pub tells_met : (passes : TraceItem → Type 0) → ((x : TraceItem) → tells_run x ≡ true → passes x → ⊥) → (p : ℕ) (o2 : OwnWorld) (x : TraceItem)
      → own_step m.programs o p ≡ Some (o2, x) → passes x → (u : Machine) × met u × Tells passes u
  tells_met passes fails p o2 x step is =
      let along = own_along m.programs (Tells passes) o told turns (rested_machine m) (rests_start m still) refl leads in
      meets ready_of turned RestsStill IsLocal local_turns reduced is_reduced (rested_machine m) t (rests_start m still) begins met closed is_met
      (Tells passes) (tells_still passes fails) turns along.0 along.1
    where
      told : (u : Machine) → IsStill o → u.programs ≡ m.programs → own_here u ≡ own_rested o → Tells passes u
      told u still_o programs here =
          let rests : RestsStill u = record { own = o; still = still_o; is = here } in
          let step_here = ap (λ lib. own_step lib o p) programs ∙ step in
          let rest = rested_step u rests p o2 x step_here in
          record { pid = p; is_ready = steps_in u rests p o2 x step_here; to = rest.0; told = x; step = rest.1; is = is }
