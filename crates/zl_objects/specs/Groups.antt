-- What the sleepers at each koid wait for, taken together. No public clause cites this module.
use Rattle.std.specs.Prelude.{ℕ, ◌≡◌, ◌<◌, ◌≤◌, Bool, true, false, ◌&&◌, ◌||◌, ◌==◌, List, length, slice_index_or, bit_or, Option, Some, None}
use Rattle.std.specs.List.{find}
use Rattle.zl_rights.specs.Numbers.{meets}
use Rattle.zl_objects.specs.declared.awaited.Awaited.{Awaited}
use Rattle.zl_objects.specs.declared.awaited.Awaited.TheVariants as awaits
use Rattle.zl_objects.specs.declared.groups.Group.{Group}
use Rattle.zl_objects.specs.Awaited.{koid_of}
use Rattle.zl_objects.specs.Calm.{is_given}

-- ---- one group

-- nobody waits there yet
abbrev pub empty_group : ℕ → Group
empty_group k = record { koid = k; masks = 0; packets = false }

-- one more belongs to it, who waits for this
abbrev pub joined : Awaited → Group → Group
joined (awaits.SignalOf koid mask) g = record g { masks = bit_or g.masks mask }
joined (awaits.PacketAt port) g = record g { packets = true }

-- of these signals, and of packets if they are there, one is waited for
abbrev pub sees : ℕ → Bool → Group → Bool
sees signals packets g = meets signals g.masks || (packets && g.packets)

-- who waits for this doesn't have it where nobody in the group may
abbrev pub Covers : Group → Awaited → Type 0
Covers g a = (signals : ℕ) (packets : Bool) → sees signals packets g ≡ false → is_given signals packets a ≡ false

-- so it is in what was found
abbrev pub sees_found : ℕ → Bool → Option Group → Bool
sees_found signals packets None = false
sees_found signals packets (Some g) = sees signals packets g

-- ---- all groups

-- the first group at the koid
abbrev pub group_at : List Group → ℕ → Option Group
group_at list k = find (λ g. g.koid == k) list

-- one at the koid may have what it waits for, where these signals are active, and packets are there or aren't
abbrev pub may_wake : Bool → List Group → ℕ → ℕ → Bool → Bool
may_wake crowded list k signals packets = crowded || sees_found signals packets (group_at list k)

-- what was found is a group at the koid
abbrev pub is_group_at : ℕ → Option Group → Bool
is_group_at k None = false
is_group_at k (Some g) = g.koid == k

-- who waits for this doesn't have it where nobody at its koid may
abbrev pub Counts : Bool → List Group → Awaited → Type 0
Counts crowded list a =
    (signals : ℕ) (packets : Bool) → may_wake crowded list (koid_of a) signals packets ≡ false → is_given signals packets a ≡ false

-- the groups before the place are at lower koids, and the others aren't
pub record IsGroupPlace (k : ℕ) (list : List Group) (place : ℕ) : Type 0 where
  pub within : place ≤ length list
  pub before : (i : ℕ) (d : Group) → i < place → (slice_index_or list i d).koid < k
  pub behind : (i : ℕ) (d : Group) → place ≤ i → i < length list → k ≤ (slice_index_or list i d).koid
