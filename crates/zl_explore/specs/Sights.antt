-- What may not be so in one world, at once.
use Rattle.std.specs.Prelude.{ℕ, ◌≡◌, ◌<◌, Bool, true, false, List, map, Option, None, Some, slice_get, IsTrue}
use Rattle.zl_rights.specs.Common.{bits, Process}
use Rattle.zl_rights.specs.declared.kind.Kind.{Kind}
use Rattle.zl_code.specs.declared.history.ProcState.{ProcState}
use Rattle.zl_code.specs.Image.{Library}
use Rattle.zl_code.specs.Own.{OwnWorld}
use Rattle.zl_calls.specs.Sights.{has_queued_in, kind_there}
use Rattle.zl_calls.specs.World.{has_of, seen_of}
use Rattle.zl_explore.specs.Bad.{IsOne, IsState}
use Rattle.zl_explore.specs.Orders.{OwnTurns}
use Rattle.zl_explore.specs.Part.{Part, gone_of, goes_on}
use Rattle.zl_explore.specs.Paths.{IsIn, IsPath, after}
use Rattle.zl_explore.specs.declared.bad.Bad.{Bad}
use Rattle.zl_explore.specs.declared.bad.What.{What}
use Rattle.zl_explore.specs.declared.bad.What.TheVariants as what
use Rattle.zl_explore.specs.declared.fact.Fact.{Fact}
use Rattle.zl_explore.specs.declared.fact.Seen.{Seen}
use Rattle.zl_explore.specs.declared.fact.Seen.TheVariants as seen
use Rattle.zl_explore.specs.declared.met.Node.{Node}
use Rattle.zl_explore.specs.declared.part.Parted.{Parted}

-- what is seen of a process: what it is in, and of which objects it has handles, with which rights at least
abbrev pub Sight : Type 0
Sight = ProcState × (ℕ → ℕ → Bool)

-- so of the process that was looked up
abbrev pub sight_of : Option Process → Sight
sight_of found = (seen_of found, has_of found)

-- what is seen of a world: its processes, by koid; of which objects, with which rights at least, messages that are queued have
-- handles; and the kinds of the objects that are there
pub record Sights : Type 0 where
  pub processes : List (ℕ × Sight)
  pub queued : (koid rights : ℕ) → Bool
  pub kinds : ℕ → Option Kind

abbrev pub sights_in : OwnWorld → Sights
sights_in o = record {
  processes = map (λ e. (e.0, sight_of (Some e.1))) o.world.processes;
  queued = has_queued_in o.world;
  kinds = kind_there o.world;
}

-- this is what the process is in, or has
abbrev pub IsAbout : What → Sight → Type 0
IsAbout (what.Has koid rights) s = IsTrue (s.1 koid (bits rights))
IsAbout w s = IsState w s.0

-- the pattern names one of these processes
pub record NamesOne (b : Bad) (processes : List (ℕ × Sight)) : Type 0 where
  pub process : ℕ × Sight
  pub is_in : IsIn processes process
  pub is_one : IsOne b.pid process.0
  pub is_about : IsAbout b.what process.1

-- that is seen
abbrev pub IsSeen : Seen → Sights → Type 0
IsSeen (seen.Process b) sights = NamesOne b sights.processes
IsSeen (seen.Queued koid rights) sights = IsTrue (sights.queued koid (bits rights))
IsSeen (seen.Object kind koid) sights = sights.kinds koid ≡ Some kind

-- that is seen, or isn't
abbrev pub IsSeenOrNot : Bool → Seen → Sights → Type 0
IsSeenOrNot true it sights = IsSeen it sights
IsSeenOrNot false it sights = IsSeen it sights → ⊥

-- the fact is so
abbrev pub IsSo : Fact → Sights → Type 0
IsSo f sights = IsSeenOrNot f.is_so f.seen sights

-- each of these facts is, at once
abbrev pub AreSeen : List Fact → Sights → Type 0
AreSeen together sights = (f : Fact) → IsIn together f → IsSo f sights

-- none of these lists of facts is
abbrev pub IsClear : List (List Fact) → Sights → Type 0
IsClear never sights = (together : List Fact) → IsIn never together → AreSeen together sights → ⊥

-- this one of them is, or none
abbrev pub Sees : List (List Fact) → Sights → Option (List Fact) → Type 0
Sees never sights (Some together) = IsIn never together × AreSeen together sights
Sees never sights None = IsClear never sights

-- ---- orders

-- own steps of these processes, one after another, lead to a world in which these facts are so at once
pub record IsBadWorld (lib : Library) (o : OwnWorld) (turns : List ℕ) (together : List Fact) : Type 0 where
  pub last : OwnWorld
  pub leads : OwnTurns lib o turns last
  pub seen : AreSeen together (sights_in last)

-- no order of own steps, of any length, leads to a world in which all that is listed together is so at once
abbrev pub StaysClear : Library → OwnWorld → List (List Fact) → Type 0
StaysClear lib o never = (turns : List ℕ) (together : List Fact) → IsIn never together → IsBadWorld lib o turns together → ⊥

-- none of the orders of a part leads to such a state
abbrev pub StaysClearOf : {S : Type 0} → (S → List ℕ) → (S → ℕ → S) → (start : S) → Part → (S → Sights) → List (List Fact) → Type 0
StaysClearOf ready next start part sights never = (turns : List ℕ) → IsPath ready next start turns → IsTrue (goes_on part (gone_of part turns))
    → IsClear never (sights (after ready next start turns))

-- none of the first count states that were met is such a one
abbrev pub AreClear : {S : Type 0} → (S → Sights) → List (List Fact) → List (Node (Parted S)) → ℕ → Type 0
AreClear {S} sights never nodes count = (i : ℕ) (n : Node (Parted S)) → i < count → slice_get nodes i ≡ Some n → IsClear never (sights n.at.at)
