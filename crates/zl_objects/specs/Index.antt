-- The index of what stands directly below a job, beside the objects. No public clause cites this module.
use Rattle.std.specs.Prelude.{⊤, ℕ, ◌≡◌, ◌^◌, Bool, false, ◌&&◌, ◌||◌, ◌==◌, nat_lt, IsTrue, Option, Some, None}
use Rattle.std.specs.BTreeSet.{BTreeSet, contains}
use Rattle.std.specs.declared.cmp.Ordering.{Ordering}
use Rattle.std.specs.Ordering.{nat_cmp, ordering_then}
use Rattle.std.specs.FinMap.Entries.{is_sorted}
use Rattle.zl_rights.specs.Map.{Map, get}
use Rattle.zl_objects.specs.declared.children.Children.{Children}
use Rattle.zl_objects.specs.declared.object.Body.{Body}
use Rattle.zl_objects.specs.declared.object.Body.TheVariants as body
use Rattle.zl_objects.specs.declared.object.Object.{Object}
use Rattle.zl_objects.specs.Jobs.{is_job_below_here, is_process_below, parent_held}
use Rattle.zl_objects.specs.Objects.{is_koid, keeper_of, peer_of}

-- a job comes before another, and under a job its children come in the order of their koids
abbrev pub pair_cmp : ℕ × ℕ → ℕ × ℕ → Ordering
pair_cmp x y = ordering_then (nat_cmp x.0 y.0) (nat_cmp x.1 y.1)

-- the child k of the job is among these
abbrev pub has_pair : BTreeSet (ℕ × ℕ) → ℕ → ℕ → Bool
has_pair pairs job k = nat_lt k (2 ^ 64) && contains pair_cmp pairs (job, k)

-- all children stay among these, but perhaps one
abbrev pub KeepPairs : ℕ → BTreeSet (ℕ × ℕ) → BTreeSet (ℕ × ℕ) → Type 0
KeepPairs koid pairs pairs2 = (job k : ℕ) → (koid == k) ≡ false → IsTrue (has_pair pairs job k) → IsTrue (has_pair pairs2 job k)

-- k is listed under the job
abbrev pub lists : Children → ℕ → ℕ → Bool
lists children = has_pair children.pairs

-- what is listed, living or not, stays so
abbrev pub StayListed : Children → Children → Type 0
StayListed children children2 = (job k : ℕ) → IsTrue (lists children job k) → IsTrue (lists children2 job k)

-- k is listed under the job as a living job or process
abbrev pub lists_living : Children → ℕ → ℕ → Bool
lists_living children job k = has_pair children.jobs job k || has_pair children.processes job k

-- nothing comes to be listed as living
abbrev pub NoMoreLive : Children → Children → Type 0
NoMoreLive children children2 = (job k : ℕ) → IsTrue (lists_living children2 job k) → IsTrue (lists_living children job k)

-- the job directly above a job or a process
abbrev pub above_of : Body → Option ℕ
above_of (body.Job job) = Some job.parent
above_of (body.Process job l) = Some job
above_of _ = None

-- a job or a process directly below the job
abbrev pub is_under : ℕ → Body → Bool
is_under job b = is_koid job (above_of b)

-- an object with this body is listed as k under its job, if it has one, and as a living job or process too, if it is one
pub record ListsChild (children : Children) (k : ℕ) (b : Body) : Type 0 where
  pub under : (j : ℕ) → IsTrue (is_under j b) → IsTrue (lists children j k)
  pub jobs : (j : ℕ) → IsTrue (is_job_below_here j b) → IsTrue (has_pair children.jobs j k)
  pub processes : (j : ℕ) → IsTrue (is_process_below j b) → IsTrue (has_pair children.processes j k)

-- whatever is listed stays so, but perhaps for one child
abbrev pub OthersStayListed : ℕ → Children → Children → Type 0
OthersStayListed koid children children2 = (k : ℕ) (b : Body) → (koid == k) ≡ false → ListsChild children k b → ListsChild children2 k b

-- what was found at k isn't listed as living, if it is dead
abbrev pub IsBuried : Children → ℕ → Option Object → Type 0
IsBuried children k None = ⊤
IsBuried children k (Some o) = keeper_of o.body ≡ None → lists_living children (parent_held o.body) k ≡ false

-- the body of what was found passes the test
abbrev pub passes_in : (Body → Bool) → Option Object → Bool
passes_in test None = false
passes_in test (Some o) = test o.body

-- each end is the peer of its peer
abbrev pub ArePaired : Map Object → Type 0
ArePaired m = (k p : ℕ) (o q : Object) → get m k ≡ Some o → get m p ≡ Some q → peer_of o.body ≡ Some p → peer_of q.body ≡ Some k

-- the objects are in the order of their koids, each job and process is listed under its job, and as living while it lives, and
-- perhaps others are, and ends are paired
pub record IsIndexed (children : Children) (m : Map Object) : Type 0 where
  pub in_order : IsTrue (is_sorted nat_cmp m)
  pub listed : (k : ℕ) (o : Object) → get m k ≡ Some o → ListsChild children k o.body
  pub paired : ArePaired m
