-- What blocked processes wait for, and which may be blocked.
use Rattle.std.specs.Prelude.{ℕ, ◌≡◌, ◌⊎◌, Bool, false, ◌&&◌, ◌==◌, IsTrue}
use Rattle.std.specs.List.{Contains}
use Rattle.zl_objects.specs.declared.awaited.Awaited.{Awaited}
use Rattle.zl_objects.specs.declared.awaited.Awaited.TheVariants as awaits
use Rattle.zl_objects.specs.Objects.{Objects}

-- the object at which it waits
abbrev pub koid_of : Awaited → ℕ
koid_of (awaits.SignalOf koid mask) = koid
koid_of (awaits.PacketAt port) = port

-- both are the same
abbrev pub is_same : Awaited → Awaited → Bool
is_same (awaits.SignalOf koid mask) (awaits.SignalOf koid2 mask2) = (koid == koid2) && (mask == mask2)
is_same (awaits.PacketAt port) (awaits.PacketAt port2) = port == port2
is_same _ _ = false

-- the process may be blocked on this: it is listed so, or not all are listed
abbrev pub Seeks : Objects → ℕ → Awaited → Type 0
Seeks r pid a = IsTrue r.crowded ⊎ Contains r.sleepers (record { pid = pid; awaited = a })

-- who may be blocked is as before
abbrev pub KeepSleepers : Objects → Objects → Type 0
KeepSleepers r r2 = (r2.sleepers ≡ r.sleepers) × (r2.crowded ≡ r.crowded)

-- but for who may be blocked they are the same
abbrev pub AreSameButSleepers : Objects → Objects → Type 0
AreSameButSleepers r r2 = record r2 { sleepers = r.sleepers; crowded = r.crowded } ≡ r
