-- Turns of the machine are turns of the worlds that count.
use Rattle.zl_code.proofs.Common.{Library, List, Some, [], ap, option_map, refl, same_Some, subst, sym, ℕ, ◌++◌, ◌∙◌, ◌∷◌, ◌≡◌}
use Rattle.zl_code.specs.declared.history.TraceItem.{TraceItem}
use Rattle.zl_code.specs.Own.{OwnWorld}
use Rattle.zl_code.specs.OwnSteps.{own_step}
use Rattle.zl_calls.specs.Rested.{own_rested}
use Rattle.zl_calls.specs.World.{Machine, own_here}
use Rattle.zl_explore.specs.Bad.{Fits}
use Rattle.zl_explore.specs.Ordered.{IsOrdered}
use Rattle.zl_explore.specs.Orders.{OwnTurns, next_in, ready_in, told_in}
use Rattle.zl_explore.specs.Paths.{IsIn, IsPath, after}
use Rattle.zl_explore.specs.Running.{ready_of, rested_machine, told_at, turned}
use Rattle.zl_explore.specs.Searching.{CanEnd, IsBadOrder, IsEnd, IsEndless}
use Rattle.zl_explore.specs.Sights.{AreSeen, IsBadWorld, sights_in}
use Rattle.zl_explore.specs.declared.bad.Bad.{Bad}
use Rattle.zl_explore.specs.declared.fact.Fact.{Fact}
use Rattle.zl_explore.proofs.Ending.{Ends}
use Rattle.zl_explore.proofs.Resting.{ordered_behind, rested_steps}
use Rattle.zl_explore.proofs.Seeing.{sights_same}
use Rattle.zl_explore.proofs.Turns.{ready_same, told_same, turns_are, turns_rest}

path_own : (turns : List ℕ) (m : Machine) → IsPath ready_of turned m turns → IsPath ready_in (next_in m.programs) (own_here m) turns
unfolding IsPath
path_own [] m path = tt
path_own (p ∷ turns) m path = (path.0, path_own turns (turned m p) path.1)

after_own : (turns : List ℕ) (m : Machine) → own_here (after ready_of turned m turns) ≡ after ready_in (next_in m.programs) (own_here m) turns
unfolding after
after_own [] m = refl
after_own (p ∷ turns) m = after_own turns (turned m p)

own_path : (turns : List ℕ) (m : Machine) → IsPath ready_in (next_in m.programs) (own_here m) turns → IsPath ready_of turned m turns
unfolding IsPath
own_path [] m path = tt
own_path (p ∷ turns) m path = (path.0, own_path turns (turned m p) path.1)

programs_stay : (turns : List ℕ) (m : Machine) → (after ready_of turned m turns).programs ≡ m.programs
unfolding after
programs_stay [] m = refl
programs_stay (p ∷ turns) m = programs_stay turns (turned m p)

ordered_along : (lib : Library) (turns : List ℕ) (o o2 : OwnWorld) → IsOrdered o.world → OwnTurns lib o turns o2 → IsOrdered o2.world
ordered_along lib [] o o2 ordered same = subst (λ (t : OwnWorld). IsOrdered t.world) (sym same) ordered
ordered_along lib (p ∷ turns) o o2 ordered (mid, x, step, more) = ordered_along lib turns mid o2 (ordered_behind lib o mid p x ordered step) more

-- ---- coming to an end

module _ (at : Machine) (o : OwnWorld) (ordered : IsOrdered o.world) (is : own_here at ≡ own_rested o) where
  -- own steps of a world are turns of what counts of it
  pub own_ends : CanEnd at.programs o → Ends ready_of turned at
  own_ends can =
      let rest = turns_rest at.programs can.turns o can.last ordered can.leads in record {
        turns = can.turns;
        is_path = own_path can.turns at (subst (λ (t : OwnWorld). IsPath ready_in (next_in at.programs) t can.turns) (sym is) rest.0);
        nobody = ap ready_in (after_own can.turns at ∙ (ap (λ t. after ready_in (next_in at.programs) t can.turns) is ∙ rest.1))
            ∙ (ready_same can.last ∙ can.nobody);
      }

  -- and the other way about
  pub ends_own : Ends ready_of turned at → CanEnd at.programs o
  ends_own ends =
      let own = turns_are at.programs ends.turns o ordered
      (subst (λ (t : OwnWorld). IsPath ready_in (next_in at.programs) t ends.turns) is (path_own ends.turns at ends.is_path)) in record {
        turns = ends.turns;
        last = own.0;
        leads = own.1;
        nobody = sym (ready_same own.0)
            ∙ (ap ready_in (own.2 ∙ (ap (λ t. after ready_in (next_in at.programs) t ends.turns) (sym is) ∙ sym (after_own ends.turns at))) ∙ ends.nobody);
      }

-- ---- where turns lead

-- turns that lead to a machine
module _ (m at : Machine) (turns : List ℕ) (ordered : IsOrdered m.world) (path : IsPath ready_of turned (rested_machine m) turns)
    (leads : after ready_of turned (rested_machine m) turns ≡ at) where
  are : (o : OwnWorld) × OwnTurns m.programs (own_here m) turns o × (own_rested o ≡ after ready_in (next_in m.programs) (own_rested (own_here m)) turns)
  are = turns_are m.programs turns (own_here m) ordered (path_own turns (rested_machine m) path)

  is : own_here at ≡ own_rested are.0
  is = sym (ap own_here leads) ∙ (after_own turns (rested_machine m) ∙ sym are.2)

  -- where nobody is ready, they lead by own steps to an end with its states
  pub is_end : ready_of at ≡ [] → IsEnd m.programs (own_here m) turns (told_in (own_here at))
  is_end nobody = record {
    last = are.0;
    leads = are.1;
    nobody = sym (ready_same are.0) ∙ (ap ready_in (sym is) ∙ nobody);
    is = ap told_in is ∙ told_same are.0;
  }

  -- what is seen there, is seen in a world to which they lead by own steps
  pub is_bad_world : (together : List Fact) → AreSeen together (sights_in (own_here at)) → IsBadWorld m.programs (own_here m) turns together
  is_bad_world together seen = record {
    last = are.0;
    leads = are.1;
    seen = subst (AreSeen together) (ap sights_in is ∙ sights_same are.0) seen;
  }

  -- where they lead to one that comes to no end, own steps do
  pub is_endless : (Ends ready_of turned at → ⊥) → IsEndless m.programs (own_here m)
  is_endless never =
      let programs : at.programs ≡ m.programs = ap (λ (s : Machine). s.programs) (sym leads) ∙ programs_stay turns (rested_machine m) in record {
        turns = turns;
        last = are.0;
        leads = are.1;
        never = λ can. never (own_ends at are.0 (ordered_along m.programs turns (own_here m) are.0 ordered are.1) is
            (subst (λ lib. CanEnd lib are.0) (sym programs) can));
      }

  -- and an item of a turn there is that of an own step behind them
  pub is_bad : (p : ℕ) (b : Bad) (x : TraceItem) → IsIn (ready_of at) p → told_at at p ≡ Some x → Fits b x
      → IsBadOrder m.programs (own_here m) (turns ++ (p ∷ [])) b
  unfolding IsPath
  is_bad p b x inside told fits =
      let still_ordered = ordered_along m.programs turns (own_here m) are.0 ordered are.1 in
      let turn = turns_are m.programs (p ∷ []) are.0 still_ordered (subst (λ (t : OwnWorld). IsIn (ready_in t) p) is inside, tt) in
      let rest = rested_steps m.programs are.0 turn.1.0 p turn.1.1 still_ordered turn.1.2 in
      let programs : at.programs ≡ m.programs = ap (λ (s : Machine). s.programs) (sym leads) ∙ programs_stay turns (rested_machine m) in
      let same : turn.1.1 ≡ x = same_Some _ _ (ap (option_map (λ (y : OwnWorld × TraceItem). y.1))
      (sym rest.1 ∙ sym (λ i. own_step (programs i) (is i) p)) ∙ told) in record {
        before = turns;
        pid = p;
        are = refl;
        last = are.0;
        leads = are.1;
        behind = turn.1.0;
        told = turn.1.1;
        step = turn.1.2;
        fits = subst (Fits b) (sym same) fits;
      }
