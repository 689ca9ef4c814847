-- What a search keeps.
use Rattle.std.specs.Prelude.{ℕ, ◌≡◌, ◌+◌, ◌-◌, ◌≤◌, false, List, [], length, map, Option, None, Some, slice_get, IfSome, IsTrue}
use Rattle.zl_code.specs.declared.history.TraceItem.{TraceItem}
use Rattle.zl_calls.specs.World.{Machine, own_here}
use Rattle.zl_explore.specs.Edges.{AreEdges, HaveEdges}
use Rattle.zl_explore.specs.Nodes.{AreWidened, IsTree}
use Rattle.zl_explore.specs.Orders.{told_in}
use Rattle.zl_explore.specs.Part.{is_of}
use Rattle.zl_explore.specs.Parts.{AreToldOf, next_in_part, parted, ready_in_part, tells_in_part}
use Rattle.zl_explore.specs.GoingAhead.{reduced, start_of}
use Rattle.zl_explore.specs.Private.{RestsStill}
use Rattle.zl_explore.specs.Running.{ready_of, told_at}
use Rattle.zl_explore.specs.Quiet.{AreQuiet}
use Rattle.zl_explore.specs.Searching.{Search, States}
use Rattle.zl_explore.specs.Sights.{AreClear, Sees, Sights, sights_in}
use Rattle.zl_explore.specs.Telling.{Leads, Tells, TellsCut}
use Rattle.zl_explore.specs.declared.fact.Fact.{Fact}
use Rattle.zl_explore.specs.declared.ends.Next.{Next}
use Rattle.zl_explore.specs.declared.ends.Next.TheVariants as next
use Rattle.zl_explore.specs.declared.kept.Kept.{Kept}
use Rattle.zl_explore.specs.declared.met.Node.{Node}
use Rattle.zl_explore.specs.declared.part.Parted.{Parted}

-- who can go in a world, as far as orders of the part go on
abbrev pub goes_of : Parted Machine → List ℕ
goes_of = ready_in_part ready_of

-- the world behind a turn, and what is told of the turn
abbrev pub next_of : Parted Machine → ℕ → Parted Machine
next_of = next_in_part reduced

abbrev pub tells_of : Parted Machine → ℕ → Option TraceItem
tells_of = tells_in_part told_at

-- what each process is in
abbrev pub states_of : Machine → States
states_of m = told_in (own_here m)

-- the states of the ends that were told
abbrev pub told_of : Kept → List States
told_of k = map (λ states. states.items) k.told.items

-- what is seen of a world
abbrev pub sights_of : Machine → Sights
sights_of m = sights_in (own_here m)

-- what may not be so at once
abbrev pub never_of : Kept → List (List Fact)
never_of k = map (λ together. together.items) k.never.together.items

-- what is seen of it
abbrev pub search_of : Kept → Search
search_of k = record {
  root = k.root;
  told = told_of k;
  bad = k.never.bad.items;
  never = never_of k;
  part = k.part;
  most = k.most;
  worlds = length k.nodes.items;
  left = k.most - k.widened;
}

-- one world more was gone on from
abbrev pub moved_on : Kept → Kept
moved_on k = record k { widened = k.widened + 1 }

-- it says next at so many worlds that they have doubled
abbrev pub doubling_at : Kept → ℕ → Kept
doubling_at k worlds = record k { doubling = worlds }

-- nobody goes on from the world at the place
pub record IsEndAt (nodes : List (Node (Parted Machine))) (place : ℕ) : Type 0 where
  pub node : Node (Parted Machine)
  pub there : slice_get nodes place ≡ Some node
  pub nobody : goes_of node.at ≡ []

-- what may not be so at once and is seen in the world at the place; nothing where none is
abbrev pub SeesNext : Kept → Option (List Fact) → Type 0
SeesNext k found = IfSome (slice_get k.nodes.items k.widened) (λ n. Sees (never_of k) (sights_of n.at.at) found)

-- what each process is in, where an order of the part comes to an end in the world; nothing where none does
abbrev pub IsEndOf : Option States → Parted Machine → Type 0
IsEndOf (Some states) s = IsTrue (is_of s.part s.gone) × (states ≡ states_of s.at)
IsEndOf None s = is_of s.part s.gone ≡ false

-- the states of each end among the first count worlds were told
abbrev pub AreTold : List (Node (Parted Machine)) → ℕ → List States → Type 0
AreTold = AreToldOf ready_of states_of

-- the worlds form a tree, and the first of them were gone on from and, where they are ends, told; no turn from those has a bad item, and each has its edge
pub record IsWhole (k : Kept) : Type 0 where
  pub rests : RestsStill k.root
  pub tree : IsTree goes_of next_of (parted k.part (start_of k.root)) k.nodes.items
  pub widened : AreWidened goes_of next_of k.nodes.items k.widened
  pub told : AreTold k.nodes.items k.widened (told_of k)
  pub edges : AreEdges goes_of next_of k.nodes.items k.course.edges.items
  pub have_edges : HaveEdges goes_of next_of k.nodes.items k.course.edges.items k.widened
  pub quiet : AreQuiet goes_of tells_of k.never.bad.items k.nodes.items k.widened
  pub clear : AreClear sights_of (never_of k) k.nodes.items k.widened
  pub within : k.widened ≤ length k.nodes.items

-- one world more was gone on from, unless the search stops there; it says of no world that it was the last, nor that worlds have doubled
abbrev pub Moves : Option Next → (old new : ℕ) → Type 0
Moves None old new = new ≡ old + 1
Moves (Some (next.End e)) old new = new ≡ old + 1
Moves (Some (next.All endless)) old new = ⊥
Moves (Some next.Doubled) old new = ⊥
Moves (Some _) old new = Unit {0}

-- it is cut only where as many worlds were met as there may be
abbrev pub CutsFull : Option Next → Kept → Type 0
CutsFull (Some n) k = TellsCut n (search_of k)
CutsFull None k = Unit {0}

-- it is no end, and no doubling
abbrev pub IsNoEnd : Next → Type 0
IsNoEnd (next.End e) = ⊥
IsNoEnd next.Doubled = ⊥
IsNoEnd _ = Unit {0}

-- it is that an order has what none may have, or that memory is wanting
abbrev pub IsBadOrMemory : Next → Type 0
IsBadOrMemory (next.Bad b) = Unit {0}
IsBadOrMemory (next.BadWorld b) = Unit {0}
IsBadOrMemory next.Memory = Unit {0}
IsBadOrMemory _ = ⊥

-- it went on from one world
pub record Goes (old : Kept) (n : Option Next) (new : Kept) : Type 0 where
  pub whole : IsWhole new
  pub root : new.root ≡ old.root
  pub part : new.part ≡ old.part
  pub told : Tells n (told_of old) (told_of new)
  pub leads : Leads n (search_of old)
  pub moves : Moves n old.widened new.widened
  pub most : new.most ≡ old.most
  pub cut : CutsFull n new
  pub never : new.never ≡ old.never
