-- What the definitions of settling and of active signals see of the objects.
use Rattle.std.specs.Prelude.{ℕ, ◌≡◌, ◌+◌, ◌<◌, IsTrue, Bool, true, false, not, ◌||◌, ◌==◌, List, [], map, Option, Some, None}
use Rattle.std.specs.List.{count_by}
use Rattle.std.specs.Ordering.{nat_cmp}
use Rattle.std.specs.FinMap.Entries.{is_sorted}
use Rattle.zl_rights.specs.Counts.{handles_to}
use Rattle.zl_rights.specs.Map.{Map, get, has_key}
use Rattle.zl_rights.specs.World.{World, Object as ObjectValue, Body as BodyValue, ChannelEnd, EventBody, PairEnd, PortBody, JobBody, ProcessBody}
use Rattle.zl_rights.specs.Signals.{has_ended, is_process, lives, runs}
use Rattle.zl_rights.specs.Settle.{Settles, without_others}
use Rattle.zl_objects.specs.declared.object.Body.{Body}
use Rattle.zl_objects.specs.declared.object.Body.TheVariants as body
use Rattle.zl_objects.specs.declared.object.Life.{Life}
use Rattle.zl_objects.specs.declared.object.Object.{Object}
use Rattle.zl_objects.specs.Objects.{Objects, is_alive, is_job_at, is_running, keeper_of}
use Rattle.zl_objects.specs.Release.{AreKeptBut}

-- ---- views

-- what an object is
abbrev pub body_value : Body → BodyValue
body_value (body.Job job) = JobBody job.parent job.depth job.policy job.killed
body_value (body.Process job l) = ProcessBody job
body_value body.Event = EventBody
body_value (body.ChannelEnd peer queue) = ChannelEnd peer queue
body_value (body.Port port) = PortBody port.packets
body_value (body.PairEnd peer) = PairEnd peer

-- an object; how many handles name it isn't seen
abbrev pub object_value : Object → ObjectValue
object_value o = record { body = body_value o.body; raised = o.signals.raised }

-- an object of the world under its koid
abbrev pub object_entry : ℕ × Object → ℕ × ObjectValue
object_entry e = (e.0, object_value e.1)

-- the world with these objects in place of its own
abbrev pub with_objects : World → Map Object → World
with_objects w m = record w { objects = map object_entry m }

-- the world with these objects, and of all else what settling leaves where each of them stays
abbrev pub with_all : World → Map Object → World
with_all w m = without_others (with_objects w m) (has_key (map object_entry m))

-- ---- worlds that the objects fit

-- the object of a process says whether the process runs, whether it lives, and else it has ended; nothing else runs
pub record AgreesOn (w : World) (k : ℕ) (l : Life) : Type 0 where
  pub running : is_running l ≡ is_process w runs k
  pub living : is_alive l ≡ is_process w lives k
  pub over : not (is_alive l) ≡ is_process w has_ended k

abbrev pub Agrees : World → ℕ → Body → Type 0
Agrees w k (body.Process job l) = AgreesOn w k l
Agrees w k _ = is_process w runs k ≡ false

-- the job is there; above the root job, whose parent is 0, there is none
abbrev pub is_above : Map Object → Option ℕ → Bool
is_above objects None = true
is_above objects (Some job) = (job == 0) || is_job_at objects job

-- the object of a process that lives, or of a job that isn't killed, names the job in which it is
abbrev pub is_in_job : Map Object → Body → Bool
is_in_job objects b = is_above objects (keeper_of b)

-- the counts are right and each handle names an object, where handles to ks have gone and still count
pub record IsExact (w : World) (ks : List ℕ) (m : Map Object) : Type 0 where
  pub in_order : IsTrue (is_sorted nat_cmp m)
  pub no_zero : (k : ℕ) → IsTrue (has_key m k) → 0 < k
  pub counted : (k : ℕ) (o : Object) → get m k ≡ Some o → o.handles ≡ handles_to (with_objects w m) k + count_by (λ j. j == k) ks
  pub named : (k : ℕ) → 0 < handles_to (with_objects w m) k + count_by (λ j. j == k) ks → IsTrue (has_key m k)
  pub agrees : (k : ℕ) (o : Object) → get m k ≡ Some o → Agrees w k o.body
  pub in_jobs : (k : ℕ) (o : Object) → get m k ≡ Some o → IsTrue (is_in_job m o.body)

-- In each world that the objects fit the counts are right again; and where something kept each object but perhaps the loose ones,
-- the largest held set is what is left.
pub record LeavesLargest (ks loose : List ℕ) (r r2 : Objects) : Type 0 where
  pub settles : (w : World) → IsExact w ks r.objects → AreKeptBut loose r.objects → Settles (with_objects w r.objects) (with_all w r2.objects)
  pub exact : (w : World) → IsExact w ks r.objects → IsExact w [] r2.objects
