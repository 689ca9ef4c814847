-- The words in which the table of calls is written.
use Rattle.std.specs.List.{flat_map}
use Rattle.std.specs.Option.{option_to_list}
use Rattle.std.specs.Bool.{then_some}
use Rattle.zl_rights.specs.Common.{SIGNALED, bits, within, narrowed, condition_number, Map, get, World, Process, Object, Body, ChannelEnd, EventBody, JobBody, PairEnd, ProcessBody, queue_of}
use Rattle.zl_rights.specs.World.{Message}
use Rattle.std.specs.Prelude.{ℕ, ◌+◌, ◌^◌, Bool, ◌&&◌, ◌||◌, nat_le, nat_lt, List, [], ◌∷◌, length, Option, Some, None, unwrap_or}
use Rattle.zl_rights.specs.declared.rights.Rights.{Rights}
use Rattle.zl_rights.specs.declared.status.Status.{Status}
use Rattle.zl_rights.specs.declared.policy.Condition.{Condition}
use Rattle.zl_rights.specs.declared.policy.Action.{Action}
use Rattle.zl_rights.specs.declared.policy.Action.TheVariants as action
use Rattle.zl_rights.specs.declared.entry.Entry.{Entry}
use Rattle.zl_rights.specs.Numbers.{USER_SIGNALS, kind_number}
use Rattle.zl_code.specs.declared.history.Outcome.{Outcome}
use Rattle.zl_code.specs.declared.history.Outcome.TheVariants as outcome

-- ---- answers

-- this answer, where the test passes
abbrev pub answer_if : Bool → Status → Option Outcome
answer_if test s = then_some test (outcome.Answered s)

-- ---- what the world has

-- the handle table of a process; an empty one where there is no process
abbrev pub handles_in : Option Process → Map Entry
handles_in None = []
handles_in (Some p) = p.handles

-- the table of the process p
abbrev pub table_of : World → ℕ → Map Entry
table_of w p = handles_in (get w.processes p)

-- the handle h of the process p
abbrev pub entry_at : World → ℕ → ℕ → Option Entry
entry_at w p h = get (table_of w p) h

-- the koid of the object that a handle names; 0, which no object has, where there is no handle
abbrev pub koid_in : Option Entry → ℕ
koid_in None = 0
koid_in (Some e) = e.koid

-- the object that the handle h of the process p names
abbrev pub object_at : World → ℕ → ℕ → ℕ
object_at w p h = koid_in (entry_at w p h)

-- what the object is, if there is one
abbrev pub body_in : Option Object → Option Body
body_in None = None
body_in (Some o) = Some o.body

-- what the object k is, if it is there
abbrev pub body_of : World → ℕ → Option Body
body_of w k = body_in (get w.objects k)

-- the job above a job or a process; 0 where there is none
abbrev pub parent_in : Option Body → ℕ
parent_in (Some (JobBody parent depth policy killed)) = parent
parent_in (Some (ProcessBody job)) = job
parent_in _ = 0

-- the job in which the job or process k is; of the root job 0
abbrev pub parent_of : World → ℕ → ℕ
parent_of w k = parent_in (body_of w k)

-- the actions that a job has set; nothing but a job has any
abbrev pub policy_in : Option Body → Map Action
policy_in (Some (JobBody parent depth policy killed)) = policy
policy_in _ = []

-- the job's action for the condition; unset allows
abbrev pub action_of : World → ℕ → Condition → Action
action_of w job c = unwrap_or (get (policy_in (body_of w job)) (condition_number c)) action.Allow

-- ---- counts

-- the table of p has place for n handles more
unfoldable pub has_room : World → ℕ → ℕ → Bool
has_room w p n = nat_le (length (table_of w p) + n) 1024

-- n koids are left
unfoldable pub has_koids : World → ℕ → Bool
has_koids w n = nat_le (w.next_koid + n) (2 ^ 62)

-- ---- signals

-- the signals that a call may set and clear
abbrev pub settable_of : Option Body → ℕ
settable_of (Some EventBody) = SIGNALED + USER_SIGNALS
settable_of (Some (PairEnd peer)) = SIGNALED + USER_SIGNALS
settable_of _ = USER_SIGNALS

-- both are among those
abbrev pub may_change : Option Body → ℕ → ℕ → Bool
may_change b clear set = within clear (settable_of b) && within set (settable_of b)

-- ---- rights

-- a handle to the same object with the rights that were granted, or none
abbrev pub with_rights : Entry → Option Rights → List Entry
with_rights e None = []
with_rights e (Some rights) = record e { rights = rights } ∷ []

-- the entry of a copy, or none where such rights may not be asked for
abbrev pub copy_of : Option Entry → ℕ → List Entry
copy_of None asked = []
copy_of (Some e) asked = with_rights e (narrowed e.rights asked)

-- ---- peers and channels

-- the peer of an end of a channel or of an event pair; 0, which no object has, of anything else
abbrev pub peer_in : Option Body → ℕ
peer_in (Some (ChannelEnd peer queue)) = peer
peer_in (Some (PairEnd peer)) = peer
peer_in _ = 0

-- the peer of the end that the handle h of the process p names
abbrev pub peer_at : World → ℕ → ℕ → ℕ
peer_at w p h = peer_in (body_of w (object_at w p h))

-- what is to be read at a channel end
abbrev pub queue_in : Option Body → List Message
queue_in None = []
queue_in (Some b) = queue_of b

-- what is to be read at the end that the handle h of the process p names
abbrev pub queue_at : World → ℕ → ℕ → List Message
queue_at w p h = queue_in (body_of w (object_at w p h))

-- the bytes of the first message
abbrev pub first_bytes : List Message → List ℕ
first_bytes [] = []
first_bytes (m ∷ ms) = m.bytes

-- the handles in the first message
abbrev pub first_handles : List Message → List Entry
first_handles [] = []
first_handles (m ∷ ms) = m.handles

-- how many bytes and how many handles the first message has
abbrev pub sizes_of : List Message → List ℕ
sizes_of queue = length (first_bytes queue) ∷ length (first_handles queue) ∷ []

-- what is told of a handle: its kind and its rights
abbrev pub info_of : Option Entry → List ℕ
info_of None = []
info_of (Some e) = kind_number e.kind ∷ bits e.rights ∷ []

-- the first message has at most so many bytes and handles
abbrev pub has_place_for : ℕ → ℕ → List Message → Bool
has_place_for room places queue = nat_le (length (first_bytes queue)) room && nat_le (length (first_handles queue)) places

-- no message has so many bytes or handles
abbrev pub is_too_large : List ℕ → List ℕ → Bool
is_too_large bytes hs = nat_lt 65536 (length bytes) || nat_lt 64 (length hs)

-- the handles of the process p at these values, as far as they are there
abbrev pub entries_at : World → ℕ → List ℕ → List Entry
entries_at w p hs = flat_map (λ h. option_to_list (entry_at w p h)) hs
