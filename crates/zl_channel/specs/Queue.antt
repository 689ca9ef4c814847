-- The queue of a channel end: its messages, the earliest first, and what operations make of it.
use Rattle.std.specs.Prelude.{◌≡◌, ℕ, Bool, ◌||◌, nat_lt, List, [], ◌∷◌, ◌++◌, length, Option, Some, None}
use Rattle.zl_rights.specs.World.{Message}
use Rattle.zl_rights.specs.declared.entry.Entry.{Entry}
use Rattle.zl_channel.specs.declared.channel_end.PushFault.{PushFault}
use Rattle.zl_channel.specs.declared.channel_end.PushFault.TheVariants as fault

-- the most bytes of a message
abbrev pub MOST_BYTES : ℕ
MOST_BYTES = 65536

-- the most handles of a message
abbrev pub MOST_HANDLES : ℕ
MOST_HANDLES = 64

-- the message has more bytes or more handles than a message may have
abbrev pub is_too_large_here : Message → Bool
is_too_large_here m = nat_lt MOST_BYTES (length m.bytes) || nat_lt MOST_HANDLES (length m.handles)

-- how many bytes and how many handles the first message has
abbrev pub front_sizes : List Message → Option (ℕ × ℕ)
front_sizes [] = None
front_sizes (m ∷ ms) = Some (length m.bytes, length m.handles)

-- the handles in the first message
abbrev pub front_handles : List Message → List Entry
front_handles [] = []
front_handles (m ∷ ms) = m.handles

-- the handle leaves its message, whichever it is in; all else stays
pub record Drains (old : List Message) (entry : Entry) (new : List Message) : Type 0 where
  pub earlier : List Message
  pub later : List Message
  pub bytes : List ℕ
  pub before : List Entry
  pub behind : List Entry
  pub was : old ≡ earlier ++ record { bytes = bytes; handles = before ++ entry ∷ behind } ∷ later
  pub is : new ≡ earlier ++ record { bytes = bytes; handles = before ++ behind } ∷ later

-- the message that a refused push hands back
abbrev pub refused_message : PushFault → Message
refused_message (fault.OutOfRange m) = m
refused_message (fault.NoMemory m) = m
