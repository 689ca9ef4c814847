-- How the packets at a port lie in slots, and how those of each bucket are linked. No public clause cites this module.
--
-- Slots have numbers: the first of them that of the front, each other one the next. A link to a slot is 1 + its number.
-- One that isn't above the front leads to none.
use Rattle.std.specs.Prelude.{◌≡◌, ℕ, ◌+◌, ◌<◌, ◌≤◌, ◌&&◌, Bool, true, false, not, List, Option, Some, None, get_or, length, map, slice_index, slice_set}
use Rattle.std.specs.List.{filter}
use Rattle.zl_rights.specs.World.{Packet, Source}
use Rattle.zl_port.specs.Packets.{is_from, user_packet}
use Rattle.zl_port.specs.Buckets.{lies_in}
use Rattle.zl_port.specs.declared.slots.Slot.{Slot}

-- what isn't there
abbrev pub no_slot : Slot
no_slot = record { packet = user_packet 0 0; there = false; before = 0 }

-- the slot at a place
abbrev pub slot_at : List Slot → ℕ → Slot
slot_at slots place = get_or slots place no_slot

-- the packets in slots, in order
abbrev pub packets_in : List Slot → List Packet
packets_in slots = map (λ s. s.packet) (filter (λ s. s.there) slots)

-- it has a packet, which isn't from a wait of the source with the key
abbrev pub is_other : Source → ℕ → Slot → Bool
is_other source key s = s.there && not (is_from source key s.packet)

-- the slot as an empty place
abbrev pub emptied : Slot → Slot
emptied s = record s { there = false }

-- the slot with a link to another one
abbrev pub linked : ℕ → Slot → Slot
linked link s = record s { before = link }

-- the link to the last slot of a bucket, if that is one
abbrev pub link_of : List ℕ → Option ℕ → ℕ
link_of last None = 0
link_of last (Some place) = slice_index last place

-- the links to the last slots, where that of a bucket has changed
abbrev pub with_last : List ℕ → Option ℕ → ℕ → List ℕ
with_last last None link = last
with_last last (Some place) link = slice_set last place link

-- the slots, where the one above has another link
abbrev pub slots_above : List Slot → Option ℕ → ℕ → List Slot
slots_above slots None link = slots
slots_above slots (Some place) link = slice_set slots place (linked link (slot_at slots place))

-- the links to the last slots, where that of the bucket has changed if no slot is above
abbrev pub last_above : List ℕ → ℕ → Option ℕ → ℕ → List ℕ
last_above last own None link = slice_set last own link
last_above last own (Some place) link = last

-- the link leads to the last packet in a bucket, of so many, that has a number below this one
pub record Leads (buckets own : ℕ) (slots : List Slot) (front link number : ℕ) : Type 0 where
  pub below : link ≤ number
  pub none_between : (i : ℕ) → link ≤ front + i → front + i < number → (slot_at slots i).there ≡ true → lies_in buckets own (slot_at slots i).packet ≡ false
  pub in_bucket : (i : ℕ) → link ≡ front + i + 1 → lies_in buckets own (slot_at slots i).packet ≡ true

-- each slot leads to the last packet before it in its bucket, of so many, and each bucket to its last packet
pub record LinkedIn (buckets : ℕ) (slots : List Slot) (front : ℕ) (last : List ℕ) : Type 0 where
  pub befores : (own i : ℕ) → i < length slots → lies_in buckets own (slot_at slots i).packet ≡ true
      → Leads buckets own slots front (slot_at slots i).before (front + i)
  pub lasts : (own : ℕ) → own < buckets → Leads buckets own slots front (slice_index last own) (front + length slots)

-- the same, where each bucket has its link
abbrev pub AreLinked : List Slot → ℕ → List ℕ → Type 0
AreLinked slots front last = LinkedIn (length last) slots front last
