-- In which bucket the packets of a wait lie. No public clause cites this module.
use Rattle.std.specs.Prelude.{ℕ, ◌+◌, ◌*◌, ◌/◌, ◌%◌, ◌^◌, Bool, false, ◌==◌, Option, Some, None, bit_xor}
use Rattle.std.specs.Prelude.{if◌then◌else◌}
use Rattle.zl_rights.specs.World.{Packet, Source}

-- the high half of a word goes into its low half
unfoldable pub folded : ℕ → ℕ
folded word = bit_xor word (word / 2 ^ 32)

-- one word more is mixed into those before it
unfoldable pub mixed : ℕ → ℕ → ℕ
mixed before word = folded ((((before + word) % 2 ^ 64) * 0x9e37_79b9_7f4a_7c15) % 2 ^ 64)

-- the bucket, of so many, of the packets that waits of the source gave with the key
unfoldable pub bucket : ℕ → Source → ℕ → ℕ
bucket buckets source key = mixed (mixed (mixed (mixed 0 source.pid) source.value) source.object) key % buckets

-- the bucket of a packet of this source, if it has one
abbrev pub bucket_by : ℕ → ℕ → Option Source → Option ℕ
bucket_by buckets key None = None
bucket_by buckets key (Some source) = Some (bucket buckets source key)

-- the bucket of a packet, if a wait gave it
abbrev pub bucket_of : ℕ → Packet → Option ℕ
bucket_of buckets x = if x.kind == 1 then bucket_by buckets x.key x.source else None

-- it is this bucket
abbrev pub is_bucket : ℕ → Option ℕ → Bool
is_bucket place None = false
is_bucket place (Some other) = place == other

-- the packet lies in this one of so many buckets
abbrev pub lies_in : ℕ → ℕ → Packet → Bool
lies_in buckets place x = is_bucket place (bucket_of buckets x)
