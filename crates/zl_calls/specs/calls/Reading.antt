-- What chan_read_etc and chan_read_slots do. No public clause cites this module.
use Rattle.std.specs.Prelude.{ℕ, ◌≡◌, ◌+◌, Bool, not, nat_le, List, [], ◌∷◌, ◌++◌, length, Option, Some, None, Result, Ok, Err, IfOk, IfErr, IsTrue}
use Rattle.std.specs.Prelude.{OnErr, if◌then◌else◌, is_some, slice_get, slice_index}
use Rattle.zl_code.specs.Common.{Map, get}
use Rattle.zl_code.specs.Asked.{triples_from}
use Rattle.zl_code.specs.Effects.{told_of}
use Rattle.zl_code.specs.Spells.{number_at}
use Rattle.zl_code.specs.Tests.{has_place_for, sizes_of}
use Rattle.zl_code.specs.declared.instr.CallInstr.{CallInstr}
use Rattle.zl_rights.specs.declared.kind.Kind.TheVariants as kind
use Rattle.zl_rights.specs.declared.status.Status.{Status}
use Rattle.zl_rights.specs.declared.status.Status.TheVariants as status
use Rattle.zl_rights.specs.declared.entry.Entry.{Entry}
use Rattle.zl_rights.specs.LookUp.{looked_up}
use Rattle.zl_rights.specs.Numbers.{READ, bits, kind_number}
use Rattle.zl_rights.specs.World.{Message}
use Rattle.zl_table.specs.Table.{Handles, Inserts}
use Rattle.zl_objects.specs.declared.object.Object.{Object}
use Rattle.zl_objects.specs.Objects.{Objects, peer_here, queue_found, receiving}
use Rattle.zl_calls.specs.declared.calls.channel.reading.Received.{Received}
use Rattle.zl_calls.specs.declared.calls.channel.reading.ReadFault.{ReadFault}
use Rattle.zl_calls.specs.declared.calls.channel.reading.ReadFault.TheVariants as fault
use Rattle.zl_calls.specs.calls.Answer.{Told, wants_memory}

-- ---- handles that enter a table one after another

-- the entry goes into the table at the value, and then the rest is done
pub record InsertsThen (t : Handles) (e : Entry) (v : ℕ) (Rest : Handles → Type 0) : Type 0 where
  pub between : Handles
  pub inserts : Inserts t e v between
  pub rest : Rest between

-- the entries go into the table one after another, each at its value
abbrev pub InsertsEach : Handles → List Entry → List ℕ → Handles → Type 0
InsertsEach t [] [] t2 = t2 ≡ t
InsertsEach t [] (v ∷ vs) t2 = ⊥
InsertsEach t (e ∷ es) [] t2 = ⊥
InsertsEach t (e ∷ es) (v ∷ vs) t2 = InsertsThen t e v (λ u. InsertsEach u es vs t2)

-- insertions at these values led to the table, from one in which this was the value removed last
pub record CameFrom (last : Option ℕ) (values : List ℕ) (t : Handles) : Type 0 where
  pub before : Handles
  pub entries : List Entry
  pub inserts : InsertsEach before entries values t
  pub was : before.last ≡ last

-- ---- the message that is to be read

-- the end k where the first message in its queue can be read, for a table of count handles, or why it can't
abbrev pub front_in : (count : ℕ) (has_peer : Bool) (room places k : ℕ) → List Message → Result ℕ ReadFault
front_in count has_peer room places k [] = Err (fault.Refused (if has_peer then status.ShouldWait else status.PeerClosed))
front_in count has_peer room places k (m ∷ ms) =
    if not (has_place_for room places (m ∷ ms)) then Err (fault.TooSmall (length m.bytes) (length m.handles))
    else (if not (nat_le (count + length m.handles) 1024) then Err (fault.Refused status.NoResources)
    else Ok k)

-- the same, where this look-up found the end
abbrev pub front_by : Map Entry → Map Object → (room places : ℕ) → Result Entry Status → Result ℕ ReadFault
front_by entries objects room places (Err s) = Err (fault.Refused s)
front_by entries objects room places (Ok end) =
    front_in (length entries) (is_some (peer_here objects end.koid)) room places end.koid (queue_found (get objects end.koid))

-- the end at the value channel where the first message there can be read, or why it can't
abbrev pub front_at : Map Entry → Map Object → (channel room places : ℕ) → Result ℕ ReadFault
front_at entries objects channel room places = front_by entries objects room places (looked_up entries channel (kind.Channel ∷ []) READ)

-- ---- the message is read

-- the fault is this one; where a message can be read, it is the want of memory
abbrev pub IsFaultBy : Map Object → Result ℕ ReadFault → ReadFault → Type 0
IsFaultBy objects (Err f) found = found ≡ f
IsFaultBy objects (Ok end) (fault.Refused s) = IsTrue (wants_memory s)
IsFaultBy objects (Ok end) (fault.TooSmall bytes handles) = ⊥

-- the first message left the queue of the end k, and its handles are in the table at the values
pub record ReadsMessage (t : Handles) (r : Objects) (channel room places : ℕ) (received : Received) (t2 : Handles) (r2 : Objects) : Type 0 where
  pub end : ℕ
  pub is_end : front_at t.entries r.objects channel room places ≡ Ok end
  pub first : slice_get (queue_found (get r.objects end)) 0 ≡ Some received.message
  pub inserts : InsertsEach t received.message.handles received.values.items t2
  pub objects : r2 ≡ receiving r end

-- a call that reads from the end at the value channel: the message is read, or it stays and nothing changes
pub record ChanReadDoes (channel room places : ℕ) (t : Handles) (r : Objects) (answer : Result Received ReadFault) (t2 : Handles) (r2 : Objects) : Type 0 where
  pub ok : IfOk answer (λ received. ReadsMessage t r channel room places received t2 r2)
  pub err : IfErr answer (IsFaultBy r.objects (front_at t.entries r.objects channel room places))
  pub same_table : OnErr answer (t2 ≡ t)
  pub same_objects : OnErr answer (r2 ≡ r)

-- of a message that is too large the caller is told both sizes
abbrev pub told_unread : ReadFault → Told
told_unread (fault.TooSmall bytes handles) = record { status = status.BufferTooSmall; values = bytes ∷ handles ∷ []; stored = (0, []); kept = None }
told_unread (fault.Refused s) = record { status = s; values = []; stored = (0, []); kept = None }

-- ---- chan_read_etc

-- the caller is told both sizes of the message, of each handle its value, kind and rights, and the bytes from the address on
abbrev pub told_read : ℕ → Result Received ReadFault → Told
told_read address (Ok received) = record {
  status = status.Ok;
  values = sizes_of (received.message ∷ []) ++ told_of received.message.handles received.values.items;
  stored = (address, received.message.bytes);
  kept = None;
}
told_read address (Err f) = told_unread f

-- what a reader is told of the handle in one place and its value in another; zeros where there is none
abbrev pub triple_of : Option Entry → Option ℕ → List ℕ
triple_of (Some e) (Some v) = v ∷ kind_number e.kind ∷ bits e.rights ∷ []
triple_of _ _ = 0 ∷ 0 ∷ 0 ∷ []

-- the registers of its answer: the status, both sizes, and three for each handle
abbrev pub read_into : CallInstr → List ℕ
read_into i =
    slice_index i.registers 0 ∷ slice_index i.registers 4 ∷ slice_index i.registers 5
    ∷ triples_from (slice_index i.registers 6) (number_at i.last 0 4)

-- ---- chan_read_slots

-- the caller is told both sizes of the message, the bytes from the address on, and in the slot array the value of each handle
abbrev pub told_slots : (address array : ℕ) → Result Received ReadFault → Told
told_slots address array (Ok received) = record {
  status = status.Ok;
  values = sizes_of (received.message ∷ []);
  stored = (address, received.message.bytes);
  kept = Some (array, received.values.items);
}
told_slots address array (Err f) = told_unread f

-- the registers of its answer: the status and both sizes
abbrev pub sizes_into : CallInstr → List ℕ
sizes_into i = slice_index i.registers 0 ∷ slice_index i.registers 4 ∷ slice_index i.registers 5 ∷ []
