-- The states that a search met, by the turns that led to them.
use Rattle.std.specs.Prelude.{ℕ, ◌≡◌, List, [], ◌∷◌, ◌++◌, Option, None, Some, IfSome, slice_get}
use Rattle.zl_explore.specs.declared.met.Node.{Node}
use Rattle.zl_explore.specs.declared.met.Slot.{Slot}

-- what is seen of them
pub record Met (S : Type 0) : Type 0 where
  pub items : List (Node S)

-- the first state, from which the others come
abbrev pub first : {S : Type 0} → S → Node S
first start = record { at = start; from = 0; by = 0 }

-- the slot without its state
abbrev pub emptied : {S : Type 0} → Slot S → Slot S
emptied s = record s { live = None }

module _ {S : Type 0} (next : S → ℕ → S) where
  -- the state to which a turn leads
  abbrev pub state_from : (start : S) → Option (Node S) → ℕ → S
  state_from start None p = start
  state_from start (Some n) p = next n.at p

  -- the state of the slot, behind those before it
  abbrev pub node_of : (start : S) → List (Node S) → Slot S → Node S
  node_of start nodes s = record { at = state_from start (slice_get nodes s.from) s.by; from = s.from; by = s.by }

  -- those of the slots come behind these, one after another
  unfoldable pub met_behind : (start : S) → List (Node S) → List (Slot S) → List (Node S)
  met_behind start nodes [] = nodes
  met_behind start nodes (s ∷ slots) = met_behind start (nodes ++ (node_of start nodes s ∷ [])) slots

  -- those of all slots
  abbrev pub met : (start : S) → List (Slot S) → List (Node S)
  met start slots = met_behind start [] slots

  -- a turn leads to the node from the one that it says
  pub record Came (nodes : List (Node S)) (n : Node S) : Type 0 where
    pub from : Node S
    pub there : slice_get nodes n.from ≡ Some from
    pub leads : n.at ≡ next from.at n.by

-- a slot that has a state has the one of its place
unfoldable pub AreLive : {S : Type 0} → List (Node S) → List (Slot S) → Type 0
AreLive {S} nodes slots = (i : ℕ) (s : Slot S) (n : Node S) → slice_get slots i ≡ Some s → slice_get nodes i ≡ Some n
    → IfSome s.live (λ at. n.at ≡ at.value)
