-- Local instructions are private turns of a running world that rests.
use Rattle.zl_code.proofs.OwnSteps.{own_step_there}
use Rattle.zl_code.proofs.Common.{List, None, Option, Some, [], ap, cases_Bool, eq-eqb, eqb-true, false, false≢true, inl, inr, is_process, is_ready}
use Rattle.zl_code.proofs.Common.{is_some, refl, same_Some, subst, sym, true, ℕ, ◌==◌, ◌∙◌, ◌∷◌, ◌≡◌, ◌⊎◌}
use Rattle.zl_code.specs.declared.history.TraceItem.{TraceItem}
use Rattle.zl_code.specs.declared.history.TraceItem.TheVariants as item
use Rattle.zl_code.specs.Own.{OwnWorld}
use Rattle.zl_code.specs.OwnHistory.{tells_run}
use Rattle.zl_code.specs.OwnSteps.{own_step}
use Rattle.zl_calls.specs.Rested.{own_rested, rested}
use Rattle.zl_calls.specs.World.{Machine, own_here}
use Rattle.zl_explore.specs.Cpus.{Cpus, own_with}
use Rattle.zl_explore.specs.Orders.{next_in, ready_in}
use Rattle.zl_explore.specs.Ordered.{IsOrdered}
use Rattle.zl_explore.specs.Paths.{IsIn, IsPath}
use Rattle.zl_explore.specs.GoesAhead.{reduced_start, reduced_turn}
use Rattle.zl_explore.specs.Private.{IsLocal, IsStill, RestsStill, Tells, is_local, runs_alone}
use Rattle.zl_explore.specs.Reduced.{Ahead, ArePrivate, Commutes, Forgets, IsReduced, IsSteady}
use Rattle.zl_explore.specs.Running.{ready_of, rested_machine, turned}
use Rattle.zl_explore.specs.Sights.{AreSeen, sights_in}
use Rattle.zl_explore.specs.declared.fact.Fact.{Fact}
use Rattle.zl_explore.proofs.GoesAhead.{start_ahead, turns_ahead}
use Rattle.zl_explore.proofs.Local.{MovesOn, cpu_for, either, local_step, moves_on, other_step}
use Rattle.zl_explore.proofs.Resting.{rested_steps}
use Rattle.zl_explore.proofs.Seeing.{sights_same, sights_with}
use Rattle.zl_explore.proofs.Still.{still_behind}
use Rattle.zl_explore.proofs.Standing.{steps_from}
use Rattle.zl_explore.proofs.Turns.{next_is, process_rested, turns_are, turns_rest}

pub same_machine : (m n : Machine) → m.programs ≡ n.programs → own_here m ≡ own_here n → m ≡ n
same_machine m n programs own = λ i. record { programs = programs i; world = (own i).world; free = (own i).free }

-- ---- one turn

-- who is ready has its own step
record HasStep (s : Machine) (o : OwnWorld) (p : ℕ) : Type 0 where
  to : OwnWorld
  tells : TraceItem
  step : own_step s.programs o p ≡ Some (to, tells)

module _ (s : Machine) (rests : RestsStill s) (p : ℕ) where
  step_of : IsIn (ready_of s) p → HasStep s rests.own p
  unfolding IsPath
  step_of inside =
      let turn = turns_are s.programs (p ∷ []) rests.own rests.still.order (subst (λ (t : OwnWorld). IsIn (ready_in t) p) rests.is inside, tt) in
      record { to = turn.1.0; tells = turn.1.1; step = turn.1.2 }

  module _ (to : OwnWorld) (tells : TraceItem) (step : own_step s.programs rests.own p ≡ Some (to, tells)) where
    pub steps_in : IsIn (ready_of s) p
    unfolding IsPath
    steps_in =
        let path = turns_rest s.programs (p ∷ []) rests.own to rests.still.order (to, tells, step, refl) in
        subst (λ (t : OwnWorld). IsIn (ready_in t) p) (sym rests.is) path.0.0

    pub turn_is : own_here (turned s p) ≡ own_rested to
    turn_is = ap (λ t. next_in s.programs t p) rests.is ∙ next_is s.programs rests.own to p tells rests.still.order step

    abbrev pub rests_behind : RestsStill (turned s p)
    rests_behind = record { own = to; still = still_behind s.programs rests.own to p tells rests.still.order step; is = turn_is }

    pub rested_step : (behind : OwnWorld) × (own_step s.programs (own_here s) p ≡ Some (behind, tells))
    rested_step =
        let rest = rested_steps s.programs rests.own to p tells rests.still.order step in
        (rest.0, ap (λ t. own_step s.programs t p) rests.is ∙ rest.1)

  local_here : (to : OwnWorld) → own_step s.programs rests.own p ≡ Some (to, item.Run p 1) → IsLocal s p
  unfolding is_local
  local_here to step = ap runs_alone (rested_step to (item.Run p 1) step).1

  moves_here : IsIn (ready_of s) p → IsLocal s p → MovesOn s.programs rests.own p
  unfolding is_local
  moves_here inside local =
      let has = step_of inside in
      moves_on s.programs rests.own has.to p has.tells has.step (sym (ap runs_alone (rested_step has.to has.tells has.step).1) ∙ local)

  -- who has a step here is ready
  ready_by : (y : OwnWorld × TraceItem) → own_step s.programs (own_here s) p ≡ Some y → IsIn (ready_of s) p
  unfolding is_process
  ready_by y step =
      let from = steps_from s.programs (own_rested rests.own) y.0 p y.1 (ap (λ t. own_step s.programs t p) (sym rests.is) ∙ step) in
      let ready : is_process (rested rests.own.world) is_ready p ≡ true = rw (from.there, from.ready) refl in
      has_step (own_step s.programs rests.own p) refl
      (own_step_there s.programs rests.own p (sym (process_rested rests.own.world is_ready p) ∙ ready))
    where
      has_step : (r : Option (OwnWorld × TraceItem)) → own_step s.programs rests.own p ≡ r → is_some r ≡ true → IsIn (ready_of s) p
      has_step None is some = absurd (false≢true some)
      has_step (Some z) is some = steps_in z.0 z.1 is

  -- and so is who is at a local instruction
  pub local_ready : IsLocal s p → IsIn (ready_of s) p
  unfolding is_local
  local_ready local = by_step (own_step s.programs (own_here s) p) refl local
    where
      by_step : (r : Option (OwnWorld × TraceItem)) → own_step s.programs (own_here s) p ≡ r → runs_alone r ≡ true → IsIn (ready_of s) p
      by_step None is runs = absurd (false≢true runs)
      by_step (Some y) is runs = ready_by y is

-- ---- a local instruction, and a turn of another

module _ (s : Machine) (rests : RestsStill s) (p q : ℕ) (moves : MovesOn s.programs rests.own p) (different : q ≡ p → ⊥) (to : OwnWorld) (tells : TraceItem)
    (step : own_step s.programs rests.own q ≡ Some (to, tells)) where
  abbrev f : Cpus
  f = cpu_for p moves.to

  first : own_step s.programs rests.own p ≡ Some (own_with f rests.own, item.Run p 1)
  first = local_step s.programs rests.own rests.still p moves

  abbrev rests_first : RestsStill (turned s p)
  rests_first = rests_behind s rests p (own_with f rests.own) (item.Run p 1) first

  second : own_step s.programs (own_with f rests.own) q ≡ Some (own_with f to, tells)
  second = other_step s.programs rests.own rests.still p moves q different to tells step

  ready_still : IsIn (ready_of (turned s p)) q
  ready_still = steps_in (turned s p) rests_first q (own_with f to) tells second

  told_still : (behind : OwnWorld) × (own_step s.programs (own_here (turned s p)) q ≡ Some (behind, tells))
  told_still = rested_step (turned s p) rests_first q (own_with f to) tells second

  both : own_here (turned (turned s p) q) ≡ own_rested (own_with f to)
  both = turn_is (turned s p) rests_first q (own_with f to) tells second

  private_beside : Commutes ready_of turned IsLocal s p q ⊎ Forgets ready_of turned s p q
  private_beside = elim (either s.programs rests.own rests.still p moves q different to tells step) [
    | inl later ↦
        let rests_second = rests_behind s rests q to tells step in inl (record {
          p_ready = steps_in (turned s q) rests_second p (own_with f to) (item.Run p 1) later;
          p_private = local_here (turned s q) rests_second p (own_with f to) later;
          q_ready = ready_still;
          same = same_machine _ _ refl (both ∙ sym (turn_is (turned s q) rests_second p (own_with f to) (item.Run p 1) later));
        })
    | inr over ↦ inr (record {
      q_ready = ready_still;
      same = same_machine _ _ refl (both ∙ (over ∙ sym (turn_is s rests q to tells step)));
    })
  ]

-- the law
pub local_turns : ArePrivate ready_of turned RestsStill IsLocal
local_turns = record {
  kept = λ s q rests inside. let has = step_of s rests q inside in rests_behind s rests q has.to has.tells has.step;
  beside = λ s p q rests p_in is_local q_in. elim (cases_Bool (q == p)) as (λ _. (q ≡ p) ⊎ (Commutes ready_of turned IsLocal s p q
      ⊎ Forgets ready_of turned s p q)) [
        | inl here ↦ inl (eqb-true q p here)
        | inr apart ↦
            let has = step_of s rests q q_in in
            inr (private_beside s rests p q (moves_here s rests p p_in is_local) (λ e. false≢true (sym apart ∙ eq-eqb q p e)) has.to has.tells has.step)
      ];
}

-- an item that no local instruction has is told all the same behind one
pub tells_still : (passes : TraceItem → Type 0) → ((x : TraceItem) → tells_run x ≡ true → passes x → ⊥)
    → IsSteady ready_of turned RestsStill IsLocal (Tells passes)
unfolding is_local
tells_still passes fails s p rests is_in local tells =
    let has = step_of s rests tells.pid tells.is_ready in
    let same = same_Some _ _ (sym (rested_step s rests tells.pid has.to has.tells has.step).1 ∙ tells.step) in
    let moves = moves_here s rests p is_in local in
    let still = told_still s rests p tells.pid moves different has.to has.tells has.step in record {
      pid = tells.pid;
      is_ready = ready_still s rests p tells.pid moves different has.to has.tells has.step;
      to = still.0;
      told = has.tells;
      step = still.1;
      is = subst passes (λ i. (sym same i).1) tells.is;
    }
  where
    different : tells.pid ≡ p → ⊥
    different here = fails tells.told (ap runs_alone (sym tells.step ∙ ap (own_step s.programs (own_here s)) here) ∙ local) tells.is

-- a local instruction leaves what is seen
pub sights_still : (together : List Fact) → IsSteady ready_of turned RestsStill IsLocal (λ u. AreSeen together (sights_in (own_here u)))
sights_still together s p rests is_in local seen =
    let moves = moves_here s rests p is_in local in
    let step = local_step s.programs rests.own rests.still p moves in
    subst (AreSeen together) (sym (ap sights_in (turn_is s rests p (own_with (cpu_for p moves.to) rests.own) (item.Run p 1) step)
    ∙ (sights_same (own_with (cpu_for p moves.to) rests.own)
    ∙ (sights_with (cpu_for p moves.to) rests.own ∙ (sym (sights_same rests.own) ∙ sym (ap sights_in rests.is)))))) seen

-- what counts of a still world rests
abbrev pub rests_start : (m : Machine) → IsStill (own_here m) → RestsStill (rested_machine m)
rests_start m still = record { own = own_here m; still = still; is = refl }

-- and who is at a local instruction there, is here
pub local_rested : (m : Machine) (p : ℕ) → IsOrdered m.world → is_local (rested_machine m) p ≡ is_local m p
unfolding is_local is_process
local_rested m p order = by_step (own_step m.programs (own_here m) p) refl
  where
    none : (r : Option (OwnWorld × TraceItem)) → own_step m.programs (own_rested (own_here m)) p ≡ r → is_some (own_step m.programs (own_here m) p) ≡ false
        → runs_alone r ≡ false
    none None is over = refl
    none (Some y) is over =
        let from = steps_from m.programs (own_rested (own_here m)) y.0 p y.1 is in
        let ready : is_process (rested m.world) is_ready p ≡ true = rw (from.there, from.ready) refl in
        absurd (false≢true (sym over ∙ own_step_there m.programs (own_here m) p (sym (process_rested m.world is_ready p) ∙ ready)))

    by_step : (r : Option (OwnWorld × TraceItem)) → own_step m.programs (own_here m) p ≡ r
        → runs_alone (own_step m.programs (own_rested (own_here m)) p) ≡ runs_alone (own_step m.programs (own_here m) p)
    by_step None is = none (own_step m.programs (own_rested (own_here m)) p) refl (ap is_some is) ∙ sym (ap runs_alone is)
    by_step (Some y) is = ap runs_alone (rested_steps m.programs (own_here m) y.0 p y.1 order is).1 ∙ sym (ap runs_alone is)

-- so processes may go ahead by local instructions, at the start and behind each turn
module _ (most : ℕ) where
  tells : (s : Machine) (p : ℕ) → RestsStill s → is_local s p ≡ true → IsIn (ready_of s) p × IsLocal s p
  tells s p rests local = (local_ready s rests p local, local)

  pub local_start : (s : Machine) → RestsStill s → Ahead ready_of turned IsLocal s (reduced_start ready_of turned is_local most s)
  local_start = start_ahead ready_of turned RestsStill IsLocal local_turns is_local tells most

  pub local_reduced : IsReduced ready_of turned RestsStill IsLocal (reduced_turn ready_of turned is_local most)
  local_reduced = turns_ahead ready_of turned RestsStill IsLocal local_turns is_local tells most
