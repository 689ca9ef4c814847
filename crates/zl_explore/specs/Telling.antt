-- What a search tells as it goes on.
use Rattle.std.specs.Prelude.{ℕ, true, false, ◌≡◌, ◌<◌, ◌≤◌, List, [], ◌∷◌, ◌++◌, Option, Some}
use Rattle.zl_calls.specs.World.{Machine, own_here}
use Rattle.zl_explore.specs.Part.{IsOnly}
use Rattle.zl_explore.specs.Paths.{IsIn}
use Rattle.zl_explore.specs.Private.{IsStill}
use Rattle.zl_explore.specs.Sights.{IsBadWorld, StaysClear}
use Rattle.zl_explore.specs.Searching.{AreAll, BeganWith, HasNone, IsBadOrder, IsEnd, IsEndless, IsKnown, Search, States}
use Rattle.zl_explore.specs.declared.bad.Bad.{Bad}
use Rattle.zl_explore.specs.declared.fact.Fact.{Fact}
use Rattle.zl_explore.specs.declared.ends.Next.{Next}
use Rattle.zl_explore.specs.declared.ends.Next.TheVariants as next

-- an end comes behind those that were told; nothing else changes them
abbrev pub Tells : Option Next → (old new : List States) → Type 0
Tells (Some (next.End e)) old new = new ≡ old ++ (e.states.items ∷ [])
Tells _ old new = new ≡ old

-- the pattern is one of the search, and names the item of the last of these turns from the world that it began with
pub record LeadsToBad (s : Search) (turns : List ℕ) (b : Bad) : Type 0 where
  pub is_in : IsIn s.bad b
  pub leads : (m : Machine) → IsStill (own_here m) → BeganWith m s → IsBadOrder m.programs (own_here m) turns b

-- what is so at once is so listed, in a world to which these turns lead from the one that the search began with
pub record LeadsToWorld (s : Search) (turns : List ℕ) (together : List Fact) : Type 0 where
  pub is_in : IsIn s.never together
  pub leads : (m : Machine) → IsStill (own_here m) → BeganWith m s → IsBadWorld m.programs (own_here m) turns together

-- the turns of the end lead to it from the world that the search began with, and so do those of a bad one
abbrev pub Leads : Option Next → Search → Type 0
Leads (Some (next.End e)) s = (m : Machine) → IsStill (own_here m) → BeganWith m s → IsEnd m.programs (own_here m) e.turns.items e.states.items
Leads (Some (next.Bad b)) s = LeadsToBad s b.turns.items b.bad
Leads (Some (next.BadWorld b)) s = LeadsToWorld s b.turns.items b.together.items
Leads _ s = Unit {0}

-- behind an end there are fewer worlds to go on from, and so there are where they have doubled
abbrev pub Lessens : Next → (old new : ℕ) → Type 0
Lessens (next.End e) old new = new < old
Lessens next.Doubled old new = new < old
Lessens _ old new = Unit {0}

-- where it told all of its part, that is known of the orders of the part from the world that it began with
abbrev pub TellsPart : Next → Search → Type 0
TellsPart (next.All endless) s = (m : Machine) → IsStill (own_here m) → BeganWith m s → IsKnown m s.part s.told s.bad s.never endless
TellsPart _ s = Unit {0}

-- where that is the only part, every order from the world that it began with comes to one of those, if it comes to an end
abbrev pub TellsAll : Next → Search → Type 0
TellsAll (next.All endless) s = IsOnly s.part → (m : Machine) → IsStill (own_here m) → BeganWith m s → AreAll m.programs (own_here m) s.told
TellsAll _ s = Unit {0}

-- and none has an item that a pattern names
abbrev pub TellsNone : Next → Search → Type 0
TellsNone (next.All endless) s = IsOnly s.part → (m : Machine) → IsStill (own_here m) → BeganWith m s → HasNone m.programs (own_here m) s.bad
TellsNone _ s = Unit {0}

-- and none leads to a world in which what may not be so at once is
abbrev pub TellsClear : Next → Search → Type 0
TellsClear (next.All endless) s = IsOnly s.part → (m : Machine) → IsStill (own_here m) → BeganWith m s → StaysClear m.programs (own_here m) s.never
TellsClear _ s = Unit {0}

-- where it says so, own steps lead to a world from which none lead to an end; and where not, if that is the only part, none do
abbrev pub TellsEndless : Next → Search → Type 0
TellsEndless (next.All true) s = (m : Machine) → IsStill (own_here m) → BeganWith m s → IsEndless m.programs (own_here m)
TellsEndless (next.All false) s = IsOnly s.part → (m : Machine) → IsStill (own_here m) → BeganWith m s → IsEndless m.programs (own_here m) → ⊥
TellsEndless _ s = Unit {0}

-- it is cut only where as many worlds were met as there may be
abbrev pub TellsCut : Next → Search → Type 0
TellsCut next.Cut s = s.most ≤ s.worlds
TellsCut _ s = Unit {0}
