-- The states of which no turn has an item that a pattern names.
use Rattle.std.specs.Prelude.{ℕ, ◌≡◌, ◌<◌, ◌+◌, List, Option, Some, slice_get}
use Rattle.zl_code.specs.declared.history.TraceItem.{TraceItem}
use Rattle.zl_explore.specs.Bad.{IsQuiet, NamesItem}
use Rattle.zl_explore.specs.Nodes.{AreWidened}
use Rattle.zl_explore.specs.Paths.{IsIn}
use Rattle.zl_explore.specs.declared.bad.Bad.{Bad}
use Rattle.zl_explore.specs.declared.met.Node.{Node}
use Rattle.zl_explore.specs.declared.search.Widened.{Widened}
use Rattle.zl_explore.specs.declared.search.Widened.TheVariants as widened

module _ {S : Type 0} (ready : S → List ℕ) (tells : S → ℕ → Option TraceItem) (bad : List Bad) where
  -- no turn from any of the first count states has such an item
  unfoldable pub AreQuiet : List (Node S) → ℕ → Type 0
  AreQuiet nodes count = (i : ℕ) (n : Node S) (p : ℕ) → i < count → slice_get nodes i ≡ Some n → IsIn (ready n.at) p → IsQuiet bad (tells n.at p)

  -- so far as the turns from the state at the place were taken
  abbrev pub TurnsQuiet : List (Node S) → ℕ → List ℕ → ℕ → Type 0
  TurnsQuiet nodes place pids count = (n : Node S) (i p : ℕ) → slice_get nodes place ≡ Some n → i < count → slice_get pids i ≡ Some p
      → IsQuiet bad (tells n.at p)

  -- a turn of the process, which is ready in the state at the place, has an item that the pattern names
  pub record IsBadTurnAt (nodes : List (Node S)) (place pid : ℕ) (b : Bad) : Type 0 where
    pub node : Node S
    pub there : slice_get nodes place ≡ Some node
    pub is_ready : IsIn (ready node.at) pid
    pub names : NamesItem bad (tells node.at pid) b

-- how far the turns from the state at the place were taken
abbrev pub Widens : {S : Type 0} → (S → List ℕ) → (S → ℕ → S) → (S → ℕ → Option TraceItem) → List Bad → (old : List (Node S)) → (place : ℕ)
    → (new : List (Node S)) → Widened → Type 0
Widens ready next tells bad old place new widened.All =
    (AreWidened ready next old place → AreWidened ready next new (place + 1)) × (AreQuiet ready tells bad old place → AreQuiet ready tells bad new
    (place + 1))
Widens ready next tells bad old place new widened.Full = Unit {0}
Widens ready next tells bad old place new (widened.Bad pid b) = IsBadTurnAt ready tells bad old place pid b
