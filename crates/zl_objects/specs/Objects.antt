-- The objects by koid, each with its count of handles, and what each operation makes of them.
use Rattle.std.specs.Prelude.{ℕ, ◌+◌, ◌-◌, ◌^◌, Bool, true, false, ◌||◌, ◌==◌, nat_le, nat_lt, List, [], ◌∷◌, ◌++◌, Option, Some, None, drop, length, take, if◌then◌else◌}
use Rattle.std.specs.List.{list_any}
use Rattle.std.specs.Option.{option_map}
use Rattle.zl_rights.specs.declared.kind.Kind.{Kind}
use Rattle.zl_rights.specs.declared.kind.Kind.TheVariants as kind
use Rattle.zl_rights.specs.Map.{Map, get, update, has_key}
use Rattle.zl_rights.specs.World.{Message, Wait}
use Rattle.zl_jobs.specs.Jobs.{root_job}
use Rattle.zl_signals.specs.Waits.{with_changed}
use Rattle.zl_objects.specs.declared.awaited.Sleeper.{Sleeper}
use Rattle.zl_objects.specs.declared.object.Body.{Body}
use Rattle.zl_objects.specs.declared.object.Body.TheVariants as body
use Rattle.zl_objects.specs.declared.object.Pair.{Pair}
use Rattle.zl_objects.specs.declared.object.Pair.TheVariants as pair
use Rattle.zl_objects.specs.declared.object.Life.{Life}
use Rattle.zl_objects.specs.declared.object.Life.TheVariants as life
use Rattle.zl_objects.specs.declared.object.Object.{Object}

-- the objects by koid, the least koid that was not given yet, all registered waits, the earliest first, how many ever were, and
-- which processes may be blocked, of which perhaps not all are listed
pub record Objects : Type 0 where
  pub objects : Map Object
  pub next_koid : ℕ
  pub waits : List Wait
  pub waits_made : ℕ
  pub sleepers : List Sleeper
  pub crowded : Bool

-- ---- koids

-- so many koids are left
abbrev pub has_koids_here : ℕ → ℕ → Bool
has_koids_here next_koid count = nat_le (next_koid + count) (2 ^ 62)

-- the least koid that was not given yet, if one is left
abbrev pub koid_left : ℕ → Option ℕ
koid_left next_koid = if has_koids_here next_koid 1 then Some next_koid else None

-- ---- counts of handles

-- one handle more may name the object
abbrev pub has_place : Option Object → Bool
has_place None = false
has_place (Some o) = nat_lt o.handles (2 ^ 62)

-- one handle more names the object, if one may
abbrev pub held_once_more : Object → Object
held_once_more o = if nat_lt o.handles (2 ^ 62) then record o { handles = o.handles + 1 } else o

-- one handle less names the object
abbrev pub held_once_less : Object → Object
held_once_less o = record o { handles = o.handles - 1 }

-- ---- jobs and processes

-- a job
abbrev pub is_job_here : Body → Bool
is_job_here (body.Job job) = true
is_job_here _ = false

-- the object that was found is a job
abbrev pub is_job_in : Option Object → Bool
is_job_in None = false
is_job_in (Some o) = is_job_here o.body

-- the object k is a job
abbrev pub is_job_at : Map Object → ℕ → Bool
is_job_at objects k = is_job_in (get objects k)

-- the job of a process
abbrev pub job_of : Body → Option ℕ
job_of (body.Process job l) = Some job
job_of _ = None

-- the job of the process that was found
abbrev pub job_in : Option Object → Option ℕ
job_in None = None
job_in (Some o) = job_of o.body

-- started, and not over yet
abbrev pub is_running : Life → Bool
is_running life.Running = true
is_running _ = false

-- not over yet
abbrev pub is_alive : Life → Bool
is_alive life.Ended = false
is_alive _ = true

-- a process that was made is started, and no other
abbrev pub started_life : Life → Life
started_life life.Created = life.Running
started_life l = l

-- what a process is once it was started; nothing else changes
abbrev pub started_body : Body → Body
started_body (body.Process job l) = body.Process job (started_life l)
started_body b = b

-- the object of a process that was started
abbrev pub started : Object → Object
started o = record o { body = started_body o.body }

-- what a process is once it has ended; nothing else changes
abbrev pub stopped_body : Body → Body
stopped_body (body.Process job l) = body.Process job life.Ended
stopped_body b = b

-- the object of a process that has ended
abbrev pub stopped : Object → Object
stopped o = record o { body = stopped_body o.body }

-- ---- ends of channels and of event pairs

-- an end of a channel or of an event pair
abbrev pub is_end_body : Body → Bool
is_end_body (body.ChannelEnd peer queue) = true
is_end_body (body.PairEnd peer) = true
is_end_body _ = false

-- the object that was found is such an end
abbrev pub is_end_in : Option Object → Bool
is_end_in None = false
is_end_in (Some o) = is_end_body o.body

-- the object k is such an end
abbrev pub is_end_at : Map Object → ℕ → Bool
is_end_at objects k = is_end_in (get objects k)

-- an end of a channel
abbrev pub is_channel_body : Body → Bool
is_channel_body (body.ChannelEnd peer queue) = true
is_channel_body _ = false

-- the object that was found is an end of a channel
abbrev pub is_channel_in : Option Object → Bool
is_channel_in None = false
is_channel_in (Some o) = is_channel_body o.body

-- the object k is an end of a channel
abbrev pub is_channel_at : Map Object → ℕ → Bool
is_channel_at objects k = is_channel_in (get objects k)

-- what is to be read at an end, the earliest first; nothing at other objects
abbrev pub queue_held : Body → List Message
queue_held (body.ChannelEnd peer queue) = queue
queue_held _ = []

-- what is to be read at the object that was found
abbrev pub queue_found : Option Object → List Message
queue_found None = []
queue_found (Some o) = queue_held o.body

-- the other end, if there is one
abbrev pub peer_of : Body → Option ℕ
peer_of (body.ChannelEnd peer queue) = Some peer
peer_of (body.PairEnd peer) = Some peer
peer_of _ = None

-- the other end of what was found
abbrev pub peer_found : Option Object → Option ℕ
peer_found None = None
peer_found (Some o) = peer_of o.body

-- the koid, where an object has it
abbrev pub if_there : Map Object → Option ℕ → Option ℕ
if_there objects None = None
if_there objects (Some k) = if has_key objects k then Some k else None

-- the peer of the end k, while it is there
abbrev pub peer_here : Map Object → ℕ → Option ℕ
peer_here objects k = if_there objects (peer_found (get objects k))

-- the end at which is to be read what is written at this end of a channel
abbrev pub reader_of : Body → Option ℕ
reader_of (body.ChannelEnd peer queue) = Some peer
reader_of _ = None

-- the reader of what was found
abbrev pub reader_in : Option Object → Option ℕ
reader_in None = None
reader_in (Some o) = reader_of o.body

-- the reader of the end k, while it is there
abbrev pub reader_at : Map Object → ℕ → Option ℕ
reader_at objects k = if_there objects (reader_in (get objects k))

-- a message goes last into the queue of an end
abbrev pub sent_body : Message → Body → Body
sent_body m (body.ChannelEnd peer queue) = body.ChannelEnd peer (queue ++ m ∷ [])
sent_body m b = b

-- the end with one message more
abbrev pub sent : Message → Object → Object
sent m o = record o { body = sent_body m o.body }

-- the first message leaves the queue of an end
abbrev pub received_body : Body → Body
received_body (body.ChannelEnd peer queue) = body.ChannelEnd peer (drop 1 queue)
received_body b = b

-- the end without its first message
abbrev pub received : Object → Object
received o = record o { body = received_body o.body }

-- ---- kinds

-- the kind of an object with this body
abbrev pub kind_in : Body → Kind
kind_in (body.Job job) = kind.Job
kind_in (body.Process job l) = kind.Process
kind_in body.Event = kind.Event
kind_in (body.ChannelEnd peer queue) = kind.Channel
kind_in (body.Port port) = kind.Port
kind_in (body.PairEnd peer) = kind.Eventpair

-- the kind of the object k, if it is there
abbrev pub kind_here : Map Object → ℕ → Option Kind
kind_here objects k = option_map (λ o. kind_in o.body) (get objects k)

-- ---- what keeps an object

-- the job of which it is a living child, if it is one: a job that isn't killed, or a process that isn't over
abbrev pub keeper_of : Body → Option ℕ
keeper_of (body.Job job) = if job.killed then None else Some job.parent
keeper_of (body.Process job l) = if is_alive l then Some job else None
keeper_of _ = None

-- it was found, and is k
abbrev pub is_koid : ℕ → Option ℕ → Bool
is_koid k None = false
is_koid k (Some j) = j == k

-- a living child of the job k
abbrev pub is_child : ℕ → Body → Bool
is_child k b = is_koid k (keeper_of b)

-- the job k has a living child
unfoldable pub has_living_child_here : Map Object → ℕ → Bool
has_living_child_here objects k = list_any (λ e. is_child k e.1.body) objects

-- an object that stays without a handle
abbrev pub stays_alone : Map Object → ℕ → Body → Bool
stays_alone objects k (body.Job job) = has_living_child_here objects k
stays_alone objects k (body.Process job l) = is_running l
stays_alone objects k _ = false

-- a handle names the object, or it stays without one
abbrev pub is_kept : Map Object → ℕ → Object → Bool
is_kept objects k o = nat_lt 0 o.handles || stays_alone objects k o.body

-- ---- changes

-- an object with no signals raised, at which nothing waits, and which so many handles name
abbrev pub new_object : Body → ℕ → Object
new_object body handles = record { body = body; signals = record { raised = 0; waits = [] }; handles = handles; asleep = false }

-- the objects with a new one, which gets the next koid
abbrev pub with_new : Objects → Body → ℕ → Objects
with_new r body handles = record r {
  objects = r.objects ++ (r.next_koid, new_object body handles) ∷ [];
  next_koid = r.next_koid + 1;
}

-- the root job alone
abbrev pub root_alone : Objects
root_alone = record {
  objects = (1, new_object (body.Job root_job) 0) ∷ [];
  next_koid = 2;
  waits = [];
  waits_made = 0;
  sleepers = [];
  crowded = false;
}

-- the kind of each end
abbrev pub kind_of_pair : Pair → Kind
kind_of_pair pair.Channel = kind.Channel
kind_of_pair pair.Eventpair = kind.Eventpair

-- a new end that has this peer
abbrev pub end_to : Pair → ℕ → Body
end_to pair.Channel peer = body.ChannelEnd peer []
end_to pair.Eventpair peer = body.PairEnd peer

-- the objects with both ends of a new channel or event pair, which are peers of each other; the first has the lower koid
abbrev pub with_pair : Objects → Pair → ℕ → Objects
with_pair r pair handles = with_new (with_new r (end_to pair (r.next_koid + 1)) handles) (end_to pair r.next_koid) handles

-- the objects without the newest, which had the koid k
abbrev pub without_newest : Objects → ℕ → Objects
without_newest r k = record r { objects = take (length r.objects - 1) r.objects; next_koid = k }

-- the objects, where one handle more names the object k
abbrev pub holding : Objects → ℕ → Objects
holding r k = record r { objects = update r.objects k held_once_more }

-- the object with the signals of one mask cleared, and then those of the other set
abbrev pub raised_changed : ℕ → ℕ → Object → Object
raised_changed clear set o = record o { signals = with_changed o.signals clear set }

-- the objects, where the signals of the object k were changed
abbrev pub changing : Objects → ℕ → ℕ → ℕ → Objects
changing r k clear set = record r { objects = update r.objects k (raised_changed clear set) }

-- the objects, where the process k was started, if it was made and not started yet
abbrev pub starting : Objects → ℕ → Objects
starting r k = record r { objects = update r.objects k started }

-- the objects, where the process k has ended
abbrev pub stopping : Objects → ℕ → Objects
stopping r k = record r { objects = update r.objects k stopped }

-- the objects, where the message was sent to the end k
abbrev pub sending : Objects → ℕ → Message → Objects
sending r k m = record r { objects = update r.objects k (sent m) }

-- the objects, where the first message was read at the end k
abbrev pub receiving : Objects → ℕ → Objects
receiving r k = record r { objects = update r.objects k received }
