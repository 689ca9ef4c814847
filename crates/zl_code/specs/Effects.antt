-- What a call can do to a world, in words that name no call.
use Rattle.zl_rights.specs.Common.{bits, rights_of, default_rights_of, put, without, update, has_key, World, Process, Blocked, Ended, Object, Body, ChannelEnd, lives}
use Rattle.std.specs.Prelude.{ℕ, ◌+◌, ◌%◌, ◌^◌, ℤ, pos, Bool, true, false, ◌&&◌, not, ◌==◌, nat_lt, List, [], ◌∷◌, ◌++◌, drop, Option, Some, None, if◌then◌else◌, slice_get, slice_set, ◌-ℤ◌}
use Rattle.std.specs.List.{filter}
use Rattle.zl_rights.specs.declared.kind.Kind.{Kind}
use Rattle.zl_rights.specs.declared.entry.Entry.{Entry}
use Rattle.zl_rights.specs.Numbers.{changed, kind_number}
use Rattle.zl_rights.specs.World.{Awaited, Message}
use Rattle.zl_code.specs.Local.{overwritten}

-- ---- changes of a world

-- the world with the process p as f leaves it
unfoldable pub on_process : World → ℕ → (Process → Process) → World
on_process w p f = record w { processes = update w.processes p f }

-- the world with the object k as f leaves it
unfoldable pub on_object : World → ℕ → (Object → Object) → World
on_object w k f = record w { objects = update w.objects k f }

-- the process with the handle at the value
abbrev pub process_with : ℕ → Entry → Process → Process
process_with v e q = record q { handles = put q.handles v e; last = None }

-- the process without the handle; a value that isn't live changes nothing
abbrev pub process_without : ℕ → Process → Process
process_without v q = if has_key q.handles v then record q { handles = without q.handles v; last = Some v } else q

-- the handles enter the table of p, each at its value
unfoldable pub insert_all : World → ℕ → List Entry → List ℕ → World
insert_all w p [] vs = w
insert_all w p (e ∷ es) [] = w
insert_all w p (e ∷ es) (v ∷ vs) = insert_all (on_process w p (process_with v e)) p es vs

-- the handles leave the table of p, from left to right
unfoldable pub remove_all : World → ℕ → List ℕ → World
remove_all w p [] = w
remove_all w p (h ∷ hs) = remove_all (on_process w p (process_without h)) p hs

-- a new object, with the next koid
unfoldable pub with_object : World → Body → World
with_object w b = record w {
  objects = put w.objects w.next_koid (record { body = b; raised = 0 });
  next_koid = w.next_koid + 1;
}

-- the world with the process k
abbrev pub with_process : World → ℕ → Process → World
with_process w k process = record w { processes = put w.processes k process }

-- a process that lives ends with the code and closes its handles; one that has ended stays
abbrev pub process_ended : ℤ → Process → Process
process_ended code q = if lives q.state then record q { state = Ended code; handles = []; last = None } else q

-- the process ends, and its handles close
unfoldable pub ended : World → ℕ → ℤ → World
ended w p code = record (on_process w p (process_ended code)) { blocked = filter (λ q. not (q == p)) w.blocked }

-- ---- new handles

-- the first handle to a new object
abbrev pub new_entry : ℕ → Kind → Entry
new_entry k kind = record { koid = k; kind = kind; rights = rights_of (default_rights_of kind) }

-- ---- the free choice of values

-- v is the value that was removed last; or, where none is kept, any of 16 bits but 0 that no handle has
abbrev pub may_get_after : Option ℕ → Process → ℕ → Bool
may_get_after (Some last) q v = v == last
may_get_after None q v = nat_lt 0 v && (nat_lt v 65536 && not (has_key q.handles v))

-- the value that was removed last, if there is one, else any unused one
abbrev pub may_get : Process → ℕ → Bool
may_get q v = may_get_after q.last q v

-- the new handles may get these values one after another, each beside those before it
abbrev pub may_get_all : Process → List Entry → List ℕ → Bool
may_get_all q [] [] = true
may_get_all q [] (v ∷ vs) = false
may_get_all q (e ∷ es) [] = false
may_get_all q (e ∷ es) (v ∷ vs) = may_get q v && may_get_all (process_with v e q) es vs

-- the process is there, and its new handles may get these values
abbrev pub gets_all : Option Process → List Entry → List ℕ → Bool
gets_all None es vs = false
gets_all (Some q) es vs = may_get_all q es vs

-- ---- messages

-- the channel end with a message more, which goes last
abbrev pub body_with_message : Message → Body → Body
body_with_message m (ChannelEnd peer queue) = ChannelEnd peer (queue ++ m ∷ [])
body_with_message m b = b

-- the object to which the message was sent
abbrev pub message_sent : Message → Object → Object
message_sent m o = record o { body = body_with_message m o.body }

-- the channel end without its first message
abbrev pub body_after_read : Body → Body
body_after_read (ChannelEnd peer queue) = ChannelEnd peer (drop 1 queue)
body_after_read b = b

-- the object at which the first message was read
abbrev pub message_read : Object → Object
message_read o = record o { body = body_after_read o.body }

-- what a reader is told of each handle: its value, its kind and its rights
abbrev pub told_of : List Entry → List ℕ → List ℕ
told_of [] vs = []
told_of (e ∷ es) [] = []
told_of (e ∷ es) (v ∷ vs) = v ∷ kind_number e.kind ∷ bits e.rights ∷ told_of es vs

-- ---- signals, memory and waits

-- the object after some of its signals were cleared, and then some raised
abbrev pub object_changed : ℕ → ℕ → Object → Object
object_changed clear set o = record o { raised = changed o.raised clear set }

-- the world without the waits that the process p made by the value h
abbrev pub without_waits : World → ℕ → ℕ → World
without_waits w p h = record w { waits = filter (λ x. not ((x.pid == p) && (x.value == h))) w.waits }

-- the world with these bytes in the memory of p
abbrev pub storing : World → ℕ → ℕ × List ℕ → World
storing w p (address, []) = w
storing w p (address, b ∷ bytes) =
    on_process w p (λ q. record q { cpu = record q.cpu { memory = overwritten q.cpu.memory address (b ∷ bytes) } })

-- the slot arrays with these values in the first places of one that is there
abbrev pub filled_in : List (List ℕ) → ℕ → List ℕ → Option (List ℕ) → List (List ℕ)
filled_in slots array vs None = slots
filled_in slots array vs (Some places) = slice_set slots array (overwritten places 0 vs)

-- the same by the number of the array, if one is named
abbrev pub slots_filled : List (List ℕ) → Option (ℕ × List ℕ) → List (List ℕ)
slots_filled slots None = slots
slots_filled slots (Some x) = filled_in slots x.0 x.1 (slice_get slots x.0)

-- the world with these values in a slot array of p, if one is named
abbrev pub keeping : World → ℕ → Option (ℕ × List ℕ) → World
keeping w p None = w
keeping w p (Some x) = on_process w p (λ q. record q { cpu = record q.cpu { slots = slots_filled q.cpu.slots (Some x) } })

-- the process is blocked, last of all, if there is something to wait for
abbrev pub waiting : World → ℕ → List ℕ → Option Awaited → World
waiting w p destinations None = w
waiting w p destinations (Some awaited) =
    record (on_process w p (λ q. record q { state = Blocked awaited destinations })) { blocked = w.blocked ++ (p ∷ []) }

-- the low 32 bits as a signed number
abbrev pub signed_word : ℕ → ℤ
signed_word n = if nat_lt (n % 2 ^ 32) (2 ^ 31) then pos (n % 2 ^ 32) else pos (n % 2 ^ 32) -ℤ pos (2 ^ 32)
