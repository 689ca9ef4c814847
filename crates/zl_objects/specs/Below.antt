-- Listing a task with what stands below it, and what is done with those that were listed.
use Rattle.std.specs.Prelude.{ℕ, ◌≡◌, ◌≤◌, ◌<◌, Bool, false, ◌&&◌, ◌==◌, List, Option, Some, None, IsTrue, if◌then◌else◌}
use Rattle.std.specs.List.{list_any}
use Rattle.zl_rights.specs.Map.{Map, each, has_key}
use Rattle.zl_objects.specs.declared.children.Children.{Children}
use Rattle.zl_objects.specs.declared.object.Object.{Object}
use Rattle.zl_objects.specs.Index.{IsIndexed, lists}
use Rattle.zl_objects.specs.Jobs.{is_below_by, is_within_here, killed_if, parent_at}
use Rattle.zl_objects.specs.Release.{all_koids}

-- k is among these
abbrev pub is_one_of : ℕ → List ℕ → Bool
is_one_of k ks = list_any (λ x. x == k) ks

-- k is the least listed under the job behind the last one
pub record IsListedNext (children : Children) (job last k : ℕ) : Type 0 where
  pub later : last < k
  pub least : (j : ℕ) → last < j → IsTrue (lists children job j) → k ≤ j

-- the first listed under the job behind the last one, if there is one
abbrev pub IsNextListed : Children → ℕ → ℕ → Option ℕ → Type 0
IsNextListed children job last None = (j : ℕ) → last < j → lists children job j ≡ false
IsNextListed children job last (Some k) = IsListedNext children job last k

-- whoever comes to the job, going up so many times at most, is among these; 0 is no koid
abbrev pub HasBelow : Children → ℕ → ℕ → List ℕ → Type 0
HasBelow children job levels ks = (m : Map Object) → IsIndexed children m → has_key m 0 ≡ false → (job == 0) ≡ false
    → (k : ℕ) → IsTrue (is_below_by m job levels k) → IsTrue (is_one_of k ks)

-- the job above the task is among these, the task, and what stands below it
pub record HasTask (m : Map Object) (task : ℕ) (ks : List ℕ) : Type 0 where
  pub above : IsTrue (is_one_of (parent_at m task) ks)
  pub within : (k : ℕ) → IsTrue (is_within_here m task k) → IsTrue (is_one_of k ks)

-- the objects, where of these the task and what stands below it was killed
abbrev pub killed_among : Map Object → ℕ → List ℕ → Map Object
killed_among m task ks = each (λ j. killed_if (is_within_here m task j && is_one_of j ks)) m

-- these, if all that matter were listed, and else all objects
abbrev pub looked_at : Bool → List ℕ → Map Object → List ℕ
looked_at listed ks m = if listed then ks else all_koids m
