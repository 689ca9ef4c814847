-- How a port is stored. No public clause cites this module.
use Rattle.std.specs.Prelude.{◌≡◌, ℕ, ◌+◌, ◌-◌, ◌/◌, ◌^◌, ◌<◌, ◌≤◌, List, length}
use Rattle.zl_rights.specs.World.{Packet}
use Rattle.zl_port.specs.Packets.{user_count}
use Rattle.zl_port.specs.Chains.{AreLinked, packets_in}
use Rattle.zl_port.specs.declared.slots.Slot.{Slot}

-- packets, the earliest first, and how many there is room for
pub record Queue : Type 0 where
  pub packets : List Packet
  pub room : ℕ

-- for how many packets there is room in so many places: one of three is for what cancellations leave
abbrev pub room_in : ℕ → ℕ
room_in places = places - places / 3

-- there is room for the packets, they are counted, and slots are linked by buckets, of which there are some where there is room
pub record IsQueue (slots : List Slot) (places front count : ℕ) (last : List ℕ) : Type 0 where
  pub counted : count ≡ length (packets_in slots)
  pub enough : count ≤ room_in places
  pub small : places < 2 ^ 63
  pub numbers : front + length slots ≤ 2 ^ 63
  pub some : 0 < places → 0 < length last
  pub linked : AreLinked slots front last

-- there is room for the reserved places behind the packets, and the packets of calls are counted
pub record HasRoom (packets : List Packet) (room reserved user_packets : ℕ) : Type 0 where
  pub enough : length packets + reserved ≤ room
  pub small : room < 2 ^ 63
  pub counted : user_packets ≡ user_count packets
