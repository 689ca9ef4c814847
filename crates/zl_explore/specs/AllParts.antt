-- What searches of all parts told, each of its own.
use Rattle.std.specs.Prelude.{ℕ, ◌<◌, ◌≤◌, Bool, List}
use Rattle.zl_calls.specs.World.{Machine, own_here}
use Rattle.zl_explore.specs.Part.{Part}
use Rattle.zl_explore.specs.Paths.{IsIn}
use Rattle.zl_explore.specs.Private.{IsStill}
use Rattle.zl_explore.specs.Searching.{IsKnown, States}
use Rattle.zl_explore.specs.declared.bad.Bad.{Bad}
use Rattle.zl_explore.specs.declared.fact.Fact.{Fact}

-- the part of that number, of so many, which so many turns tell apart
abbrev pub part_of : (parts from number : ℕ) → Part
part_of parts from number = record { number = number; parts = parts; from = from }

-- each of them told all of its part from the machine on, with these ends, and whether an order goes on for ever
pub record AreKnown (m : Machine) (parts from : ℕ) (told : ℕ → List States) (bad : List Bad) (never : List (List Fact)) (endless : ℕ → Bool) : Type 0 where
  pub still : IsStill (own_here m)
  pub some : 0 < parts
  pub known : (k : ℕ) → 1 ≤ k → k ≤ parts → IsKnown m (part_of parts from k) (told k) bad never (endless k)

-- the ends that one of them told are among these
abbrev pub AreAmong : (parts : ℕ) → (told : ℕ → List States) → List States → Type 0
AreAmong parts told ends = (k : ℕ) (x : States) → 1 ≤ k → k ≤ parts → IsIn (told k) x → IsIn ends x
