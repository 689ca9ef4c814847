-- Marks of the places that come to one from which none leads on.
use Rattle.std.specs.Prelude.{ℕ, suc, ◌≡◌, ◌<◌, Bool, true, false, List, [], ◌∷◌, length, Some, slice_get}
use Rattle.zl_explore.specs.Edges.{Comes, IsLast}
use Rattle.zl_explore.specs.Paths.{IsIn}

-- both ends of each are below
unfoldable pub AreWithin : List (ℕ × ℕ) → ℕ → Type 0
AreWithin edges count = (edge : ℕ × ℕ) → IsIn edges edge → (edge.0 < count) × (edge.1 < count)

-- none of the places below comes there / each does
abbrev pub IsEndlessPlace : List (ℕ × ℕ) → ℕ → ℕ → Type 0
IsEndlessPlace edges count place = (place < count) × (Comes edges place → ⊥)

abbrev pub AllCome : List (ℕ × ℕ) → ℕ → Type 0
AllCome edges count = (place : ℕ) → place < count → Comes edges place

abbrev pub IsMarked : List Bool → ℕ → Type 0
IsMarked marks place = slice_get marks place ≡ Some true

-- how many aren't marked
abbrev pub unmarked : List Bool → ℕ
unmarked [] = 0
unmarked (true ∷ marks) = unmarked marks
unmarked (false ∷ marks) = suc (unmarked marks)

-- the marked ones come there, and those from which none leads on are marked
pub record AreMarks (edges : List (ℕ × ℕ)) (marks : List Bool) : Type 0 where
  pub come : (place : ℕ) → IsMarked marks place → Comes edges place
  pub last : (place : ℕ) → place < length marks → IsLast edges place → IsMarked marks place

-- who leads to a marked one is marked
unfoldable pub AreClosed : List (ℕ × ℕ) → List Bool → Type 0
AreClosed edges marks = (from to : ℕ) → IsIn edges (from, to) → IsMarked marks to → IsMarked marks from
