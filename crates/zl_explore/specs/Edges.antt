-- Which states lead to which, by their places.
use Rattle.std.specs.Prelude.{ℕ, ◌≡◌, ◌<◌, ◌+◌, List, Some, slice_get}
use Rattle.zl_explore.specs.Paths.{IsIn}
use Rattle.zl_explore.specs.declared.met.Node.{Node}
use Rattle.zl_explore.specs.declared.search.Widened.{Widened}
use Rattle.zl_explore.specs.declared.search.Widened.TheVariants as widened

module _ {S : Type 0} (ready : S → List ℕ) (next : S → ℕ → S) where
  -- a turn leads from the state at the first place to the one at the second
  pub record IsEdge (nodes : List (Node S)) (edge : ℕ × ℕ) : Type 0 where
    pub from : Node S
    pub there : slice_get nodes edge.0 ≡ Some from
    pub to : Node S
    pub to_there : slice_get nodes edge.1 ≡ Some to
    pub pid : ℕ
    pub is_ready : IsIn (ready from.at) pid
    pub leads : to.at ≡ next from.at pid

  -- so does each of these
  unfoldable pub AreEdges : List (Node S) → List (ℕ × ℕ) → Type 0
  AreEdges nodes edges = (edge : ℕ × ℕ) → IsIn edges edge → IsEdge nodes edge

  -- one leads from the place to the state
  pub record HasEdge (nodes : List (Node S)) (edges : List (ℕ × ℕ)) (place : ℕ) (s : S) : Type 0 where
    pub target : ℕ
    pub is_in : IsIn edges (place, target)
    pub to : Node S
    pub there : slice_get nodes target ≡ Some to
    pub is : to.at ≡ s

  -- all turns from the first count states have theirs
  unfoldable pub HaveEdges : List (Node S) → List (ℕ × ℕ) → ℕ → Type 0
  HaveEdges nodes edges count = (i : ℕ) (n : Node S) (p : ℕ) → i < count → slice_get nodes i ≡ Some n → IsIn (ready n.at) p
      → HasEdge nodes edges i (next n.at p)

  -- so far as the turns from the state at the place were taken
  abbrev pub TurnsHaveEdges : (old : List (Node S)) → ℕ → List ℕ → ℕ → (new : List (Node S)) → List (ℕ × ℕ) → Type 0
  TurnsHaveEdges old place pids count new edges = (n : Node S) (i p : ℕ) → slice_get old place ≡ Some n → i < count → slice_get pids i ≡ Some p
      → HasEdge new edges place (next n.at p)

-- all turns from the state at the place have theirs, where they were taken
abbrev pub Edges : {S : Type 0} → (S → List ℕ) → (S → ℕ → S) → (old : List (Node S)) → (place : ℕ) → (old_edges : List (ℕ × ℕ))
    → (new : List (Node S)) → (edges : List (ℕ × ℕ)) → Widened → Type 0
Edges ready next old place old_edges new edges widened.All = HaveEdges ready next old old_edges place → HaveEdges ready next new edges (place + 1)
Edges ready next old place old_edges new edges _ = Unit {0}

-- ---- who comes to an end

-- none of these leads from the place
abbrev pub IsLast : List (ℕ × ℕ) → ℕ → Type 0
IsLast edges place = (target : ℕ) → IsIn edges (place, target) → ⊥

-- these lead from the place to one from which none does
pub data Comes (edges : List (ℕ × ℕ)) : ℕ → Type 0 where
  at_last : (place : ℕ) → IsLast edges place → Comes edges place
  by_one : (place target : ℕ) → IsIn edges (place, target) → Comes edges target → Comes edges place
