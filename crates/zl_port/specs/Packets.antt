-- The packets at a port and the places that are reserved there, and what operations make of them.
use Rattle.std.specs.Prelude.{ℕ, ◌+◌, ◌-◌, Bool, not, List, [], ◌∷◌, ◌++◌, drop}
use Rattle.std.specs.List.{filter}
use Rattle.zl_rights.specs.World.{Packet}
pub use Rattle.zl_rights.specs.Packets.{MOST_USER_PACKETS, has_source, is_from, is_user, same_source, user_count, user_packet}
use Rattle.zl_port.specs.declared.packet.PacketKind.{PacketKind}
use Rattle.zl_port.specs.declared.packet.PacketKind.TheVariants as kind

-- a port: its packets, the earliest first, and how many places are reserved for packets to come
pub record Port : Type 0 where
  pub packets : List Packet
  pub reserved : ℕ

-- the number of a kind of packet
abbrev pub packet_kind_number : PacketKind → ℕ
packet_kind_number kind.User = 0
packet_kind_number kind.Signal = 1

-- ---- changes

-- the port with one packet more, behind all others
abbrev pub with_packet : Port → Packet → Port
with_packet p x = record p { packets = p.packets ++ x ∷ [] }

-- the port without its first packet
abbrev pub without_front : Port → Port
without_front p = record p { packets = drop 1 p.packets }

-- the port without the packets that pass the test
abbrev pub without_packets : Port → (Packet → Bool) → Port
without_packets p test = record p { packets = filter (λ x. not (test x)) p.packets }

-- the port with one place more reserved
abbrev pub with_place : Port → Port
with_place p = record p { reserved = p.reserved + 1 }

-- the port with one place less reserved, where one is
abbrev pub without_place : Port → Port
without_place p = record p { reserved = p.reserved - 1 }
