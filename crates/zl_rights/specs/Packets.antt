-- Which packets calls queued, and which came from a wait.
use Rattle.std.specs.Prelude.{ℕ, Bool, false, ◌&&◌, ◌==◌, List, length, Option, Some, None}
use Rattle.std.specs.List.{filter}
use Rattle.zl_rights.specs.World.{Packet, Source}

-- the most packets of calls at a port
abbrev pub MOST_USER_PACKETS : ℕ
MOST_USER_PACKETS = 2048

-- the packet of a call
abbrev pub user_packet : ℕ → ℕ → Packet
user_packet key value = record { kind = 0; key = key; trigger = value; observed = 0; source = None }

-- a call queued the packet
abbrev pub is_user : Packet → Bool
is_user x = x.kind == 0

-- how many packets calls have queued
abbrev pub user_count : List Packet → ℕ
user_count packets = length (filter is_user packets)

-- the same process, value and object
abbrev pub same_source : Source → Source → Bool
same_source a b = (a.pid == b.pid) && ((a.value == b.value) && (a.object == b.object))

-- it has this source
abbrev pub has_source : Source → Option Source → Bool
has_source source None = false
has_source source (Some own) = same_source own source

-- a wait of this source gave the packet, with this key
abbrev pub is_from : Source → ℕ → Packet → Bool
is_from source key x = (x.kind == 1) && ((x.key == key) && has_source source x.source)
