-- Which objects are held, and the world without the others.
use Rattle.std.specs.Prelude.{ℕ, ◌≡◌, Bool, false, ◌&&◌, ◌||◌, ◌==◌, List, [], Option, Some, None, if◌then◌else◌, IsTrue}
use Rattle.std.specs.List.{list_any, filter}
use Rattle.zl_rights.specs.Map.{get, has_key, where_key, each}
use Rattle.zl_rights.specs.World.{World, Process, State, Created, Gone, Body, ChannelEnd, Message, Wait}
use Rattle.zl_rights.specs.Signals.{is_process, lives, runs, is_job_below, is_process_of}

-- a set of objects, as a test of koids
abbrev pub Koids : Type 0
Koids = ℕ → Bool

-- a handle in a table names k
unfoldable pub in_table : World → ℕ → Bool
in_table w k = list_any (λ p. list_any (λ h. h.1.koid == k) p.1.handles) w.processes

-- a handle in one of these messages names k
abbrev pub names : ℕ → List Message → Bool
names k queue = list_any (λ m. list_any (λ h. h.koid == k) m.handles) queue

-- the messages that an object keeps, if it is an end of a channel
abbrev pub queue_of : Body → List Message
queue_of (ChannelEnd peer queue) = queue
queue_of _ = []

-- a handle in a message that is queued at an end in K names k
unfoldable pub in_queue : World → Koids → ℕ → Bool
in_queue w K k = list_any (λ o. K o.0 && names k (queue_of o.1.body)) w.objects

-- the job k has a living child in K
unfoldable pub has_living_child : World → Koids → ℕ → Bool
has_living_child w K k =
    list_any (λ o. K o.0 && (is_job_below k o.1.body || (is_process_of k o.1.body && is_process w lives o.0))) w.objects

-- something keeps the object k, if K is kept
unfoldable pub is_held : World → Koids → ℕ → Bool
is_held w K k =
    has_key w.objects k && (in_table w k || in_queue w K k || is_process w runs k || has_living_child w K k)

-- each object of K is held
abbrev pub IsHeld : World → Koids → Type 0
IsHeld w K = (k : ℕ) → IsTrue (K k) → IsTrue (is_held w K k)

-- K is the largest such set
pub record IsLargestHeld (w : World) (K : Koids) : Type 0 where
  pub held : IsHeld w K
  pub largest : (L : Koids) → IsHeld w L → (k : ℕ) → IsTrue (L k) → IsTrue (K k)

-- a process that was never started is gone, where its object isn't kept
abbrev pub state_without : Bool → State → State
state_without kept Created = if kept then Created else Gone
state_without kept s = s

-- the process k, where the objects of K alone are kept
abbrev pub process_settled : Koids → ℕ → Process → Process
process_settled K k p = record p { state = state_without (K k) p.state }

-- the process is there, and a handle of it has the value
abbrev pub has_handle : Option Process → ℕ → Bool
has_handle None v = false
has_handle (Some p) v = has_key p.handles v

-- the handle by which the wait was made is there
unfoldable pub is_made_by_handle : World → Wait → Bool
is_made_by_handle w x = has_handle (get w.processes x.pid) x.value

-- the world without the objects outside K
unfoldable pub without_others : World → Koids → World
without_others w K = record w {
  processes = each (process_settled K) w.processes;
  objects = where_key K w.objects;
  waits = filter (λ x. is_made_by_handle w x && K x.port) w.waits;
}

-- w2 is w with what is held, and nothing else
abbrev pub Settles : World → World → Type 0
Settles w w2 = (K : Koids) × IsLargestHeld w K × (w2 ≡ without_others w K)
