-- What the step of one process can do to the others, and to the policies of the jobs that they are in.
use Rattle.std.specs.Prelude.{ℕ, ◌≡◌, Bool, false, ◌==◌, List, [], ◌∷◌, Option, Some, None, IsTrue}
use Rattle.zl_rights.specs.Common.{Map, get, World, Process, Created, Ready, Blocked, Ended, Gone, Object, Body, JobBody, ProcessBody, lives, answered}
use Rattle.zl_rights.specs.Numbers.{KILLED}
use Rattle.zl_rights.specs.World.{Awaited}
use Rattle.zl_rights.specs.declared.policy.Action.{Action}
use Rattle.zl_rights.specs.declared.entry.Entry.{Entry}
use Rattle.zl_code.specs.Effects.{process_with}
use Rattle.zl_code.specs.Handles.{names_its_object}
use Rattle.zl_code.specs.Starting.{started_with}

-- what the step of another process can make of a living process x
pub data OthersMake (x y : Process) : Type 0 where
  -- it stays as it was
  left_alone : y ≡ x → OthersMake x y
  -- it was blocked, and is ready behind its call, with some values in the registers of the answer
  woken : (awaited : Awaited) (destinations values : List ℕ) → x.state ≡ Blocked awaited destinations
      → y ≡ record x { state = Ready; cpu = answered x.cpu destinations values } → OthersMake x y
  -- it was not started yet, and starts with a handle at a value, and a word
  was_started : (e : Entry) (v word : ℕ) → x.state ≡ Created → y ≡ process_with v e (started_with (v ∷ []) word x) → OthersMake x y
  -- it was killed, and its handles closed
  was_killed : y ≡ record x { state = Ended KILLED; handles = []; last = None } → OthersMake x y
  -- it was never started, and is gone
  dropped : x.state ≡ Created → y ≡ record x { state = Gone } → OthersMake x y

-- the job k is j, or stands below it
pub data IsWithin (objects : Map Object) (j : ℕ) : ℕ → Type 0 where
  itself : IsWithin objects j j
  below : (k parent depth : ℕ) (policy : Map Action) (killed : Bool) (o : Object) → get objects k ≡ Some o
      → o.body ≡ JobBody parent depth policy killed → IsWithin objects j parent → IsWithin objects j k

-- a process that lives is in the job j or below it
pub record HasLiving (w : World) (j : ℕ) : Type 0 where
  pub pid : ℕ
  pub process : Process
  pub there : get w.processes pid ≡ Some process
  pub living : IsTrue (lives process.state)
  pub job : ℕ
  pub object : Object
  pub object_there : get w.objects pid ≡ Some object
  pub in_job : object.body ≡ ProcessBody job
  pub within : IsWithin w.objects j job

-- the policy of a job
abbrev pub policy_of : Body → Option (Map Action)
policy_of (JobBody parent depth policy killed) = Some policy
policy_of b = None

-- A step of p leads from w to after. It leaves the other living processes alone but for starting, waking, killing
-- and dropping them, keeps the objects that their tables name, of those that live after it too, and changes the
-- policy of no job that a living process is in or below.
pub record LeavesOthers (w : World) (p : ℕ) (after : World) : Type 0 where
  pub processes : (q : ℕ) (x : Process) → (p == q) ≡ false → get w.processes q ≡ Some x → IsTrue (lives x.state)
      → (y : Process) × (get after.processes q ≡ Some y) × OthersMake x y
  pub objects : (q v : ℕ) (x y : Process) (e : Entry) → (p == q) ≡ false → get w.processes q ≡ Some x → IsTrue (lives x.state)
      → get after.processes q ≡ Some y → IsTrue (lives y.state) → get x.handles v ≡ Some e → names_its_object after.objects e
  pub policies : (j : ℕ) (o o2 : Object) → HasLiving w j → get w.objects j ≡ Some o → get after.objects j ≡ Some o2 → policy_of o2.body ≡ policy_of o.body
