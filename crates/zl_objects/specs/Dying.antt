-- How what goes is noted, without memory. No public clause cites this module.
use Rattle.std.specs.Prelude.{ℕ, ◌≡◌, ◌+◌, ◌<◌, ◌≤◌, Bool, false, ◌==◌, nat_lt, not, IsTrue, List, ◌++◌, length, Option, Some, None, IfSome, if◌then◌else◌}
use Rattle.std.specs.List.{count_by, filter, list_any}
use Rattle.zl_rights.specs.declared.kind.Kind.{Kind}
use Rattle.zl_rights.specs.Map.{Map, get, has_key, without}
use Rattle.zl_signals.specs.declared.watch.Watch.{Watch}
use Rattle.zl_objects.specs.declared.object.Body.{Body}
use Rattle.zl_objects.specs.declared.object.Object.{Object}
use Rattle.zl_objects.specs.declared.wait.Listed.{Listed}
use Rattle.zl_objects.specs.Objects.{is_kept, kind_here, kind_in, peer_of}
use Rattle.zl_objects.specs.Release.{AreKeptBut, Cascades}
use Rattle.zl_objects.specs.Listed.{AreListed}
use Rattle.zl_objects.specs.Waits.{HavePlaces, HavePlacesWith}

-- one handle alone names the object that was found
abbrev pub is_last : Option Object → Bool
is_last None = false
is_last (Some o) = o.handles == 1

-- nothing keeps the object k that was found
abbrev pub is_unkept : Map Object → ℕ → Option Object → Bool
is_unkept m k None = false
is_unkept m k (Some o) = not (is_kept m k o)

-- the object k, if it is there and nothing keeps it
abbrev pub unkept_at : Map Object → ℕ → Option Object
unkept_at m k = if is_unkept m k (get m k) then get m k else None

-- the objects without k, if nothing keeps it
abbrev pub left_at : Map Object → ℕ → Map Object
left_at m k = if is_unkept m k (get m k) then without m k else m

-- an object that handles name
abbrev pub is_named : ℕ × Object → Bool
is_named e = nat_lt 0 e.1.handles

-- the places that are taken or may still be
unfoldable pub budget : Map Object → List ℕ → ℕ
budget m dying = length dying + count_by is_named m

-- of the waits at the object, those are left of which a test knows that their ports are left, and no others are there; and processes
-- were blocked at it as before
pub record Thins (m m2 : Map Object) (k : ℕ) (o : Object) : Type 0 where
  pub before : Object
  pub there : get m k ≡ Some before
  pub waits : (test : Watch → Bool) → ((x : Watch) → IsTrue (test x) → IsTrue (has_key m2 x.port)) → filter test o.signals.waits ≡ filter test before.signals.waits
  pub fewer : (test : Watch → Bool) → list_any test before.signals.waits ≡ false → list_any test o.signals.waits ≡ false
  pub asleep : o.asleep ≡ before.asleep

-- handles to these koids went, what nothing keeps was noted, and waits ended with their ports alone
pub record LetsGo (ks : List ℕ) (m : Map Object) (dying : List ℕ) (m2 : Map Object) (dying2 : List ℕ) : Type 0 where
  pub cheap : budget m2 dying2 ≤ budget m dying
  pub notes : (others : List ℕ) → AreKeptBut (others ++ dying) m → AreKeptBut (others ++ dying2) m2
  pub leads : (rest : List ℕ) (m3 : Map Object) → Cascades rest m2 m3 → Cascades (ks ++ rest) m m3
  pub places : HavePlaces m → HavePlaces m2
  pub thins : (k : ℕ) (o : Object) → get m2 k ≡ Some o → Thins m m2 k o

-- the koid of the peer was given, and it is of this kind while it is there
abbrev pub IsPeerHere : Kind → Map Object → ℕ → ℕ → Type 0
IsPeerHere kind m next_koid peer = (peer < next_koid) × (IsTrue (has_key m peer) → kind_here m peer ≡ Some kind)

-- the peer of an end is an end of the same kind
abbrev pub HasPeerHere : Map Object → ℕ → Body → Type 0
HasPeerHere m next_koid b = IfSome (peer_of b) (IsPeerHere (kind_in b) m next_koid)

-- all koids lie below the next one, peers are ends, each wait has its place at its port and there is one more for this
-- one, and there is room for each object
pub record IsWhole (more : Option Watch) (m : Map Object) (next_koid room : ℕ) : Type 0 where
  pub below : (k : ℕ) → IsTrue (has_key m k) → k < next_koid
  pub peers : (k : ℕ) (o : Object) → get m k ≡ Some o → HasPeerHere m next_koid o.body
  pub places : HavePlacesWith more m
  pub enough : length m ≤ room

-- and the list of all waits has those of each object, in their order
pub record IsKept (more : Option Watch) (m : Map Object) (next_koid room : ℕ) (waits : List Listed) : Type 0 where
  pub whole : IsWhole more m next_koid room
  pub listed : AreListed waits m
