-- Waits, packets and what is active, as calls see and change them; in words that name no call.
use Rattle.std.specs.Prelude.{ℕ, ◌+◌, ◌^◌, Bool, ◌&&◌, ◌||◌, not, ◌==◌, nat_lt, nat_le, List, [], ◌∷◌, ◌++◌, drop, Option, Some, None}
use Rattle.std.specs.Bool.{then_some}
use Rattle.std.specs.List.{filter, list_any}
use Rattle.zl_rights.specs.Common.{World, Object, Body, PortBody}
use Rattle.zl_rights.specs.Numbers.{meets}
use Rattle.zl_rights.specs.World.{Awaited, SignalOf, PacketAt, Wait, Packet, Source}
use Rattle.zl_rights.specs.Signals.{active}
use Rattle.zl_rights.specs.Wakes.{packet_values}
use Rattle.zl_rights.specs.Packets.{MOST_USER_PACKETS, user_count, user_packet, is_from}
use Rattle.zl_code.specs.Tests.{object_at, body_of}

-- ---- what is active

-- a mask of signals has 32 bits
abbrev pub is_mask : ℕ → Bool
is_mask mask = nat_lt mask (2 ^ 32)

-- the active signals of the object that the handle h of the process p names
abbrev pub active_at : World → ℕ → ℕ → ℕ
active_at w p h = active w (object_at w p h)

-- a signal of the mask is active there
abbrev pub is_active_at : World → ℕ → ℕ → ℕ → Bool
is_active_at w p h mask = meets (active_at w p h) mask

-- what there is to wait for, where no signal of the mask is active yet
abbrev pub signal_awaited : World → ℕ → ℕ → ℕ → Option Awaited
signal_awaited w p h mask = then_some (not (is_active_at w p h mask)) (SignalOf (object_at w p h) mask)

-- ---- registered waits

-- one more wait may be registered, as not so many ever were
abbrev pub may_register : World → Bool
may_register w = nat_lt w.waits_made (2 ^ 62)

-- the wait of the process p by its handle h, for a packet with the key to the port that its handle port names
abbrev pub wait_of : World → (p h port key mask : ℕ) → Wait
wait_of w p h port key mask =
    record { pid = p; value = h; object = object_at w p h; port = object_at w p port; key = key; mask = mask }

-- the world with the wait registered last
abbrev pub registered : World → Wait → World
registered w x = record w { waits = w.waits ++ (x ∷ []); waits_made = w.waits_made + 1 }

-- the process made the wait by its handle of this value
abbrev pub is_by_handle : (pid value : ℕ) → Wait → Bool
is_by_handle pid value x = (x.pid == pid) && (x.value == value)

-- the process made the wait by its handle of this value, for a packet with the key to the port
abbrev pub is_keyed : (pid value port key : ℕ) → Wait → Bool
is_keyed pid value port key x = is_by_handle pid value x && ((x.port == port) && (x.key == key))

-- the world without the waits that the process p made by the value h for a packet with the key to the port k
abbrev pub without_keyed : World → (p h k key : ℕ) → World
without_keyed w p h k key = record w { waits = filter (λ x. not (is_keyed p h k key x)) w.waits }

-- ---- packets

-- the packets at a port; nothing else has any
abbrev pub packets_in : Option Body → List Packet
packets_in (Some (PortBody packets)) = packets
packets_in _ = []

-- the packets at the port that the handle h of the process p names
abbrev pub packets_at : World → ℕ → ℕ → List Packet
packets_at w p h = packets_in (body_of w (object_at w p h))

-- calls have queued as many packets as a port takes of them
abbrev pub is_full : List Packet → Bool
is_full packets = nat_le MOST_USER_PACKETS (user_count packets)

-- what there is to wait for at the port k, where these are its packets
abbrev pub packet_awaited : ℕ → List Packet → Option Awaited
packet_awaited k [] = Some (PacketAt k)
packet_awaited k (x ∷ xs) = None

-- what the first packet gives to the registers
abbrev pub first_values : List Packet → List ℕ
first_values [] = []
first_values (x ∷ xs) = packet_values x

-- by what the process p makes a wait with its handle h
abbrev pub source_at : World → ℕ → ℕ → Source
source_at w p h = record { pid = p; value = h; object = object_at w p h }

-- a wait of the process p by its handle h is registered for a packet with the key to the port that its handle port names, or such a packet is there
abbrev pub is_cancelled : World → (p port h key : ℕ) → Bool
is_cancelled w p port h key =
    list_any (is_keyed p h (object_at w p port) key) w.waits || list_any (is_from (source_at w p h) key) (packets_at w p port)

-- ---- changes of a port

-- a port with its packets as f leaves them; nothing else has packets
abbrev pub body_packed : (List Packet → List Packet) → Body → Body
body_packed f (PortBody packets) = PortBody (f packets)
body_packed f b = b

-- the object with its packets as f leaves them
abbrev pub repacked : (List Packet → List Packet) → Object → Object
repacked f o = record o { body = body_packed f o.body }

-- the port to which a call queued the value with the key
abbrev pub packet_queued : ℕ → ℕ → Object → Object
packet_queued key value = repacked (λ xs. xs ++ (user_packet key value ∷ []))

-- the port without its first packet
abbrev pub packet_taken : Object → Object
packet_taken = repacked (drop 1)

-- the port without the packets with the key that waits of the source gave
abbrev pub packets_cancelled : Source → ℕ → Object → Object
packets_cancelled source key = repacked (filter (λ x. not (is_from source key x)))
