-- What the calls on channels do that read nothing: chan_create, chan_write and chan_write_slots. No public clause cites this module.
use Rattle.std.specs.Prelude.{ℕ, ◌≡◌, ◌≤◌, ◌||◌, ◌==◌, not, nat_lt, [], ◌∷◌, ◌++◌, List, length, Option, Some, None, Result, Ok, Err, ⊤, if◌then◌else◌, is_some, IsTrue}
use Rattle.std.specs.List.{filter}
use Rattle.std.specs.Option.{option_or}
use Rattle.std.specs.Bool.{then_some}
use Rattle.zl_code.specs.Common.{Map}
use Rattle.zl_rights.specs.declared.kind.Kind.TheVariants as kind
use Rattle.zl_rights.specs.declared.status.Status.{Status}
use Rattle.zl_rights.specs.declared.status.Status.TheVariants as status
use Rattle.zl_rights.specs.declared.entry.Entry.{Entry}
use Rattle.zl_rights.specs.LookUp.{looked_up}
use Rattle.zl_rights.specs.Numbers.{TRANSFER, WRITE}
use Rattle.zl_code.specs.Operands.{contains}
use Rattle.zl_table.specs.Table.{Handles}
use Rattle.zl_channel.specs.Queue.{MOST_BYTES, MOST_HANDLES}
use Rattle.zl_objects.specs.declared.object.Object.{Object}
use Rattle.zl_objects.specs.declared.object.Pair.TheVariants as pair
use Rattle.zl_objects.specs.Objects.{Objects, is_channel_at, reader_at, sending}
use Rattle.smallvec.specs.SmallVec.{HasRoomFor}
use Rattle.zl_calls.specs.declared.calls.channel.writing.Letter.{Letter}
use Rattle.zl_calls.specs.calls.Answer.{DoesTaking, taken_from, wants_memory, without_handles}
use Rattle.zl_calls.specs.calls.Making.{MakePairDoes}

-- ---- chan_create

-- chan_create, over the table of its caller: it makes a channel
abbrev pub ChanCreateDoes : Handles → Objects → Result (ℕ × ℕ) Status → Handles → Objects → Type 0
ChanCreateDoes = MakePairDoes pair.Channel

-- ---- chan_write, and chan_write_slots

-- the handles in these places: the values that aren't 0
abbrev pub filled : List ℕ → List ℕ
filled places = filter (λ v. not (v == 0)) places

-- the fault of a look-up, if it has one
abbrev pub fault_of : {A : Type 0} → Result A Status → Option Status
fault_of (Ok x) = None
fault_of (Err s) = Some s

-- why a handle of the list can't be sent; none may be listed twice
abbrev pub list_refusal : Map Entry → List ℕ → List ℕ → Option Status
list_refusal entries before [] = None
list_refusal entries before (h ∷ hs) =
    option_or (if contains before h then Some status.BadHandle else fault_of (looked_up entries h [] TRANSFER))
    (list_refusal entries (before ++ h ∷ []) hs)

-- why nothing can be written, where this look-up found the end: its peer has to be there
abbrev pub reader_refusal : Map Object → Result Entry Status → Option Status
reader_refusal objects (Ok end) = then_some (not (is_some (reader_at objects end.koid))) status.PeerClosed
reader_refusal objects (Err s) = None

-- the answer of chan_write other than OK
abbrev pub write_refusal : Map Entry → Map Object → ℕ → ℕ → List ℕ → Option Status
write_refusal entries objects channel size hs =
    option_or (fault_of (looked_up entries channel (kind.Channel ∷ []) WRITE))
    (option_or (list_refusal entries [] hs)
    (option_or (then_some (contains hs channel) status.NotSupported)
    (option_or (then_some (nat_lt 65536 size || nat_lt 64 (length hs)) status.OutOfRange)
    (reader_refusal objects (looked_up entries channel (kind.Channel ∷ []) WRITE)))))

-- the handles leave the table into a message, which goes last into the queue of the end's peer
pub record WritesMessage (t : Handles) (r : Objects) (channel : ℕ) (bytes hs : List ℕ) (t2 : Handles) (r2 : Objects) : Type 0 where
  pub unrefused : write_refusal t.entries r.objects channel (length bytes) hs ≡ None
  pub end : Entry
  pub is_end : looked_up t.entries channel (kind.Channel ∷ []) WRITE ≡ Ok end
  pub peer : ℕ
  pub is_peer : reader_at r.objects end.koid ≡ Some peer
  pub there : IsTrue (is_channel_at r.objects peer)
  pub table : t2 ≡ without_handles t hs
  pub objects : r2 ≡ sending r peer (record { bytes = bytes; handles = taken_from t hs })

-- chan_write to the end at the value channel; where it is refused the handles of the list close
abbrev pub ChanWriteDoes : ℕ → List ℕ → List ℕ → Handles → Objects → Result ⊤ Status → Handles → Objects → Type 0
ChanWriteDoes channel bytes hs t r = DoesTaking (λ _. WritesMessage t r channel bytes hs) wants_memory (write_refusal t.entries r.objects channel (length bytes) hs) hs t r

-- the peer is that of the end that the look-up finds, and both are there
pub record IsPeerOf (entries : Map Entry) (objects : Map Object) (channel peer : ℕ) : Type 0 where
  pub end : Entry
  pub is_end : looked_up entries channel (kind.Channel ∷ []) WRITE ≡ Ok end
  pub is_peer : reader_at objects end.koid ≡ Some peer
  pub there : IsTrue (is_channel_at objects peer)

-- nothing refuses the write, and what it needs is there
pub record IsReady (entries : Map Entry) (objects : Map Object) (channel : ℕ) (bytes hs : List ℕ) (letter : Letter) : Type 0 where
  pub unrefused : write_refusal entries objects channel (length bytes) hs ≡ None
  pub peer : IsPeerOf entries objects channel letter.peer
  pub bytes_are : letter.bytes.items ≡ bytes
  pub empty : letter.room.items ≡ []
  pub room : HasRoomFor letter.room (length hs)
  pub small : length bytes ≤ MOST_BYTES
  pub few : length hs ≤ MOST_HANDLES
