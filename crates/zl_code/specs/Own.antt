-- Which of the unused values the new handles of a call get, as the lab chooses.
use Rattle.std.specs.Prelude.{◌≡◌, ◌==◌, ℕ, zero, suc, List, [], ◌∷◌, length, Option, None, Some, map, if◌then◌else◌, IfSome, IsTrue}
use Rattle.std.specs.Ordering.{nat_cmp}
use Rattle.std.specs.FinMap.Entries.{is_sorted}
use Rattle.zl_rights.specs.Common.{Map, get, has_key, World, Process, lives}
use Rattle.zl_code.specs.CallTable.{Request, new_handles, choosing, receiver_of}
use Rattle.zl_code.specs.Effects.{process_without}
use Rattle.zl_code.specs.Calls.{taken_handles}
use Rattle.zl_rights.specs.Values.{Free, IsFree, coming, given_back, new_free, offered, taken}

-- a world, and by process the values that new handles get
pub record OwnWorld : Type 0 where
  pub world : World
  pub free : Map Free

abbrev pub free_or : Option Free → Free
free_or None = new_free
free_or (Some f) = f

-- the values of the process; of one that has none they are those of a new table
abbrev pub free_at : Map Free → ℕ → Free
free_at fs p = free_or (get fs p)

-- what is left after so many insertions
unfoldable pub taken_all : ℕ → Free → Free
taken_all zero f = f
taken_all (suc n) f = taken_all n (taken f)

-- the process without the handles, which leave its table from left to right
unfoldable pub all_without : List ℕ → Process → Process
all_without [] q = q
all_without (h ∷ hs) q = all_without hs (process_without h q)

-- its values then; a value that isn't live changes nothing
unfoldable pub all_given : List ℕ → Process → Free → Free
all_given [] q f = f
all_given (h ∷ hs) q f = all_given hs (process_without h q) (if has_key q.handles h then given_back h f else f)

abbrev pub given_by : Option Process → List ℕ → Free → Free
given_by None hs f = f
given_by (Some q) hs f = all_given hs q f

-- the values of each process once the operands that are always consumed are gone
abbrev pub left_free : OwnWorld → ℕ → Request → ℕ → Free
left_free o p r k = if p == k then given_by (get o.world.processes p) (taken_handles r) (free_at o.free p) else free_at o.free k

-- the values that the new handles get
abbrev pub own_values : OwnWorld → ℕ → Request → List ℕ
own_values o p r = coming (length (choosing o.world p r)) (left_free o p r (receiver_of o.world p r))

-- the values of each process once the new handles have theirs
abbrev pub entered_free : OwnWorld → ℕ → Request → ℕ → Free
entered_free o p r k =
    if receiver_of o.world p r == k then taken_all (length (new_handles o.world p r)) (left_free o p r k) else left_free o p r k

-- those of the processes of the world; one that is over has an empty new table
abbrev pub free_in : World → (ℕ → Free) → Map Free
free_in w free = map (λ e. (e.0, if lives e.1.state then free e.0 else new_free)) w.processes

-- what is true of the values of a process
pub record IsFreeOf (q : Process) (f : Free) : Type 0 where
  pub sorted : IsTrue (is_sorted nat_cmp q.handles)
  pub free : IsFree q.handles f
  pub again : IfSome q.last (λ v. v ≡ offered f)

-- so it is of each
abbrev pub AreFree : OwnWorld → Type 0
AreFree o = (p : ℕ) (q : Process) → get o.world.processes p ≡ Some q → IsFreeOf q (free_at o.free p)
