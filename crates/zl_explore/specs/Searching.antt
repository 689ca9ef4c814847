-- What is told of all orders of turns of a running world.
use Rattle.std.specs.Prelude.{ℕ, ◌≡◌, Bool, false, List, [], ◌∷◌, ◌++◌, Some}
use Rattle.zl_code.specs.declared.history.ProcState.{ProcState}
use Rattle.zl_code.specs.declared.history.TraceItem.{TraceItem}
use Rattle.zl_code.specs.Image.{Library}
use Rattle.zl_code.specs.Own.{OwnWorld}
use Rattle.zl_code.specs.OwnSteps.{own_step}
use Rattle.zl_calls.specs.World.{Machine, own_here}
use Rattle.zl_explore.specs.Bad.{Fits}
use Rattle.zl_explore.specs.GoingAhead.{reduced, start_of}
use Rattle.zl_explore.specs.Orders.{OwnTurns, ready_in, told_in}
use Rattle.zl_explore.specs.Part.{Part}
use Rattle.zl_explore.specs.Parts.{AllComeOn, AreAllOf, HasNoneOf}
use Rattle.zl_explore.specs.Paths.{IsIn}
use Rattle.zl_explore.specs.Running.{ready_of, rested_machine, told_at}
use Rattle.zl_explore.specs.Sights.{StaysClearOf, sights_in}
use Rattle.zl_explore.specs.declared.bad.Bad.{Bad}
use Rattle.zl_explore.specs.declared.fact.Fact.{Fact}

-- what each process is in, by koid
abbrev pub States : Type 0
States = List (ℕ × ProcState)

-- own steps of these processes, one after another, lead to a world in which nobody is ready, and everybody is in these states
pub record IsEnd (lib : Library) (o : OwnWorld) (turns : List ℕ) (states : States) : Type 0 where
  pub last : OwnWorld
  pub leads : OwnTurns lib o turns last
  pub nobody : ready_in last ≡ []
  pub is : states ≡ told_in last

-- every order of own steps, of any length, that comes to a world in which nobody is ready comes to states that are listed
abbrev pub AreAll : Library → OwnWorld → List States → Type 0
AreAll lib o ends = (turns : List ℕ) (last : OwnWorld) → OwnTurns lib o turns last → ready_in last ≡ [] → IsIn ends (told_in last)

-- own steps of these processes, one after another, of which the last one has an item that the pattern names
pub record IsBadOrder (lib : Library) (o : OwnWorld) (turns : List ℕ) (b : Bad) : Type 0 where
  pub before : List ℕ
  pub pid : ℕ
  pub are : turns ≡ before ++ (pid ∷ [])
  pub last : OwnWorld
  pub leads : OwnTurns lib o before last
  pub behind : OwnWorld
  pub told : TraceItem
  pub step : own_step lib last pid ≡ Some (behind, told)
  pub fits : Fits b told

-- no order of own steps, of any length, has an item that a pattern names
abbrev pub HasNone : Library → OwnWorld → List Bad → Type 0
HasNone lib o bad = (turns : List ℕ) (b : Bad) → IsIn bad b → IsBadOrder lib o turns b → ⊥

-- further own steps lead from the world to one in which nobody is ready
pub record CanEnd (lib : Library) (o : OwnWorld) : Type 0 where
  pub turns : List ℕ
  pub last : OwnWorld
  pub leads : OwnTurns lib o turns last
  pub nobody : ready_in last ≡ []

-- own steps lead to a world from which none lead to an end
pub record IsEndless (lib : Library) (o : OwnWorld) : Type 0 where
  pub turns : List ℕ
  pub last : OwnWorld
  pub leads : OwnTurns lib o turns last
  pub never : CanEnd lib last → ⊥

-- what is known of the orders of a part from the machine on, each turn up to the next call
pub record IsKnown (m : Machine) (part : Part) (ends : List States) (bad : List Bad) (never : List (List Fact)) (endless : Bool) : Type 0 where
  -- those that come to an end come to one of these
  pub all : AreAllOf ready_of reduced (start_of (rested_machine m)) part (λ u. told_in (own_here u)) ends
  -- none has an item that a pattern names
  pub none : HasNoneOf ready_of reduced (start_of (rested_machine m)) part told_at bad
  -- none leads to where all that is listed together is so at once
  pub clear : StaysClearOf ready_of reduced (start_of (rested_machine m)) part (λ u. sights_in (own_here u)) never
  -- and where none goes on for ever, each comes to an end or out of the part
  pub come : endless ≡ false → AllComeOn ready_of reduced (start_of (rested_machine m)) part

-- a search: what counts of the world that it began with, the states of the ends that it told, what no order may have, what may not be so at
-- once, of which part the orders are, how many worlds there may be, how many it met, and how many it may still go on from
pub record Search : Type 0 where
  pub root : Machine
  pub told : List States
  pub bad : List Bad
  pub never : List (List Fact)
  pub part : Part
  pub most : ℕ
  pub worlds : ℕ
  pub left : ℕ

-- it began with the world
abbrev pub BeganWith : Machine → Search → Type 0
BeganWith m s = s.root ≡ rested_machine m
