-- What is true of every world of a run from a boot world, and what no step changes of a process.
use Rattle.std.specs.Prelude.{ℕ, ◌+◌, ◌≡◌, ◌≤◌, ◌<◌, ◌⊎◌, ⊤, Bool, true, false, ◌&&◌, ◌==◌, nat_lt, [], length, Option, Some, None, is_some, if◌then◌else◌, IsTrue}
use Rattle.zl_rights.specs.Common.{within, Map, get, has_key, World, Process, State, Blocked, Object, Body, ChannelEnd, PairEnd, PortBody, JobBody, ProcessBody, kind_of, lives, runs, is_process}
use Rattle.std.specs.List.{All, filter, list_all}
use Rattle.zl_rights.specs.World.{Wait}
use Rattle.zl_rights.specs.declared.kind.Kind.{Kind}
use Rattle.zl_rights.specs.declared.kind.Kind.TheVariants as kind
use Rattle.zl_rights.specs.Numbers.{same_kind}
use Rattle.zl_rights.specs.Policies.{condition_numbered}
use Rattle.zl_rights.specs.declared.entry.Entry.{Entry}
use Rattle.zl_rights.specs.declared.policy.Action.{Action}
use Rattle.zl_code.specs.Tests.{body_in, body_of, entry_at, settable_of}
use Rattle.zl_code.specs.Koids.{HasGivenKoids}
use Rattle.zl_code.specs.Handles.{HandlesAreSound, HandlesAreNamed, in_order}
use Rattle.zl_code.specs.Jobs.{MOST_DEPTH}

-- a value that a handle may have: 16 bits, and not 0
abbrev pub is_value : ℕ → Bool
is_value v = nat_lt 0 v && nat_lt v 65536

-- What is true of a table and of the value that was removed last from it; running says that its process runs.
pub record IsSoundTable (running : Bool) (handles : Map Entry) (last : Option ℕ) : Type 0 where
  -- at most 1,024 handles
  pub few : length handles ≤ 1024
  -- they stand at values of 16 bits, none of them 0
  pub values : (v : ℕ) → IsTrue (has_key handles v) → IsTrue (is_value v)
  -- the value removed last is such a value, and no handle has it
  pub free : (v : ℕ) → last ≡ Some v → IsTrue (is_value v) × (has_key handles v ≡ false)
  -- a process that was not started, or is over, has no handle and no such value
  pub idle : running ≡ false → (handles ≡ []) × (last ≡ None)

-- the process waits within a call
abbrev pub is_blocked : State → Bool
is_blocked (Blocked awaited destinations) = true
is_blocked _ = false

-- the job j is there, lives, and stands at this depth
pub record LivesAt (objects : Map Object) (j depth : ℕ) : Type 0 where
  pub parent : ℕ
  pub policy : Map Action
  pub there : body_in (get objects j) ≡ Some (JobBody parent depth policy false)

-- p is the koid of a process object, in a job that lives
pub record HasItsObject (objects : Map Object) (p : ℕ) : Type 0 where
  pub job : ℕ
  pub there : body_in (get objects p) ≡ Some (ProcessBody job)
  pub depth : ℕ
  pub lives : LivesAt objects job depth

-- the root job has no parent and is the first level; above any other job one lives, a level higher
abbrev pub IsBelow : Map Object → (parent depth : ℕ) → Type 0
IsBelow objects parent depth = ((parent ≡ 0) × (depth ≡ 1)) ⊎ ((above : ℕ) × (depth ≡ above + 1) × LivesAt objects parent above)

-- it has actions for conditions alone, in the order of their numbers
abbrev pub is_policy : Map Action → Bool
is_policy policy = list_all (λ e. is_some (condition_numbered e.0)) policy && in_order policy

-- What is true of the job k that is there, where killed says whether it was killed.
pub record IsSoundJob (objects : Map Object) (k parent depth : ℕ) (policy : Map Action) (killed : Bool) : Type 0 where
  -- it was made after the job above it
  pub later : parent < k
  pub shallow : depth ≤ MOST_DEPTH
  pub policy_known : IsTrue (is_policy policy)
  -- while it lives, so does the job above it
  pub above : killed ≡ false → IsBelow objects parent depth

-- What is true of what stands in the tree of jobs; a process was made after its job.
abbrev pub StandsBelow : Map Object → ℕ → Body → Type 0
StandsBelow objects k (JobBody parent depth policy killed) = IsSoundJob objects k parent depth policy killed
StandsBelow objects k (ProcessBody job) = job < k
StandsBelow objects k _ = ⊤

-- the signals that may be raised at an object: none at a port, else those that calls may set
abbrev pub raisable : Body → ℕ
raisable (PortBody packets) = 0
raisable b = settable_of (Some b)

-- it is of this kind, if it is there
abbrev pub is_kind_if_there : Kind → Option Body → Bool
is_kind_if_there k None = true
is_kind_if_there k (Some b) = same_kind k (kind_of b)

-- the koid of the peer was given, and it is of this kind while it is there
abbrev pub HasPeerOf : Kind → Map Object → ℕ → ℕ → Type 0
HasPeerOf k objects next_koid peer = (peer < next_koid) × IsTrue (is_kind_if_there k (body_in (get objects peer)))

-- the peer of an end is an end of the same kind
abbrev pub HasPeer : Map Object → ℕ → Body → Type 0
HasPeer objects next_koid (ChannelEnd peer queue) = HasPeerOf kind.Channel objects next_koid peer
HasPeer objects next_koid (PairEnd peer) = HasPeerOf kind.Eventpair objects next_koid peer
HasPeer objects next_koid _ = ⊤

-- a port is there
abbrev pub is_port_there : Option Body → Bool
is_port_there (Some (PortBody packets)) = true
is_port_there _ = false

-- What is true of a registered wait.
pub record IsSoundWait (w : World) (x : Wait) : Type 0 where
  -- the handle by which it was made is live, and names the object that it watches
  pub handle : (e : Entry) × (entry_at w x.pid x.value ≡ Some e) × (e.koid ≡ x.object)
  -- there is a port for its packet
  pub port : IsTrue (is_port_there (body_of w x.port))

-- What is true of every world of a run from a boot world.
pub record IsSound (w : World) : Type 0 where
  -- each handle has a place of its own, and rights that a first handle of its kind has
  pub handles : HandlesAreSound w
  -- each handle names an object that is there, of its kind
  pub named : HandlesAreNamed w
  -- each object has a koid that was given
  pub objects : HasGivenKoids w
  -- so has each process
  pub processes : (p : ℕ) → IsTrue (has_key w.processes p) → p < w.next_koid
  -- the tables of processes
  pub tables : (p : ℕ) (q : Process) → get w.processes p ≡ Some q → IsSoundTable (runs q.state) q.handles q.last
  -- a process that lives has its object, in a job that lives
  pub living : (p : ℕ) (q : Process) → get w.processes p ≡ Some q → IsTrue (lives q.state) → HasItsObject w.objects p
  -- jobs and processes stand below living jobs, so that nothing lives below a dead one
  pub tree : (k : ℕ) (o : Object) → get w.objects k ≡ Some o → StandsBelow w.objects k o.body
  -- the list of the blocked has each blocked process once, and nothing else
  pub blocked : (p : ℕ) → length (filter (λ q. q == p) w.blocked) ≡ (if is_process w is_blocked p then 1 else 0)
  -- the peers of ends
  pub peers : (k : ℕ) (o : Object) → get w.objects k ≡ Some o → HasPeer w.objects w.next_koid o.body
  -- each registered wait
  pub waits : All (IsSoundWait w) w.waits
  -- no signal is raised that no call could have set
  pub raised : (k : ℕ) (o : Object) → get w.objects k ≡ Some o → IsTrue (within o.raised (raisable o.body))

-- each process of w is one of w2, with the same program
abbrev pub KeepsProcesses : World → World → Type 0
KeepsProcesses w w2 = (p : ℕ) (q : Process) → get w.processes p ≡ Some q → (after : Process) × (get w2.processes p ≡ Some after) × (after.program ≡ q.program)
