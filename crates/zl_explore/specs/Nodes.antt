-- The states that were met, each with the one that it was met from.
use Rattle.std.specs.Prelude.{ℕ, ◌≡◌, ◌<◌, ◌⊎◌, List, [], ◌∷◌, ◌++◌, Some, slice_get}
use Rattle.zl_explore.specs.Paths.{IsIn, IsPath, after}
use Rattle.zl_explore.specs.declared.met.Node.{Node}

-- the one list begins the other
abbrev pub Extends : {X : Type 0} → (old new : List X) → Type 0
Extends {X} old new = (more : List X) × (new ≡ old ++ more)

module _ {S : Type 0} (ready : S → List ℕ) (next : S → ℕ → S) where
  -- the state stands at the place
  pub record StandsAt (nodes : List (Node S)) (place : ℕ) (s : S) : Type 0 where
    pub node : Node S
    pub there : slice_get nodes place ≡ Some node
    pub is : node.at ≡ s

  -- the state of the node stands at the place; it was there, or comes behind the others
  pub record Stands (old : List (Node S)) (n : Node S) (new : List (Node S)) (place : ℕ) : Type 0 where
    pub is : (new ≡ old) ⊎ (new ≡ old ++ (n ∷ []))
    pub stands : StandsAt new place n.at

  -- the state was met
  pub record IsMet (nodes : List (Node S)) (s : S) : Type 0 where
    pub place : ℕ
    pub node : Node S
    pub there : slice_get nodes place ≡ Some node
    pub is : node.at ≡ s

  -- a turn of a process that is ready in an earlier one leads to it
  pub record ComesFrom (nodes : List (Node S)) (place : ℕ) (n : Node S) : Type 0 where
    pub earlier : n.from < place
    pub node : Node S
    pub there : slice_get nodes n.from ≡ Some node
    pub is_ready : IsIn (ready node.at) n.by
    pub leads : n.at ≡ next node.at n.by

  -- the first is the start, and each other comes from an earlier one
  pub record IsTree (start : S) (nodes : List (Node S)) : Type 0 where
    pub root : Node S
    pub first : slice_get nodes 0 ≡ Some root
    pub starts : root.at ≡ start
    pub others : (place : ℕ) (n : Node S) → 0 < place → slice_get nodes place ≡ Some n → ComesFrom nodes place n

  -- so from whatever start
  abbrev pub IsRooted : List (Node S) → Type 0
  IsRooted nodes = (start : S) × IsTree start nodes

  -- all turns from s lead to states that were met
  unfoldable pub IsWidened : List (Node S) → S → Type 0
  IsWidened nodes s = (p : ℕ) → IsIn (ready s) p → IsMet nodes (next s p)

  -- so for each of the first count states
  unfoldable pub AreWidened : List (Node S) → ℕ → Type 0
  AreWidened nodes count = (i : ℕ) (n : Node S) → i < count → slice_get nodes i ≡ Some n → IsWidened nodes n.at

  -- how far the turns from the state at the place were taken
  pub record Grows (old : List (Node S)) (place : ℕ) (pids : List ℕ) (count : ℕ) (new : List (Node S)) : Type 0 where
    pub more : List (Node S)
    pub items : new ≡ old ++ more
    pub tree : (start : S) → IsTree start old → IsTree start new
    pub taken : (n : Node S) (i p : ℕ) → slice_get old place ≡ Some n → i < count → slice_get pids i ≡ Some p → IsMet new (next n.at p)

  -- the turns lead from the state at the place to the one at the other
  pub record LeadsTo (nodes : List (Node S)) (place target : ℕ) (turns : List ℕ) : Type 0 where
    pub from : Node S
    pub there : slice_get nodes place ≡ Some from
    pub to : Node S
    pub to_there : slice_get nodes target ≡ Some to
    pub is_path : IsPath ready next from.at turns
    pub leads : after ready next from.at turns ≡ to.at
