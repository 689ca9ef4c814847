-- Who is listed as blocked, in which order, and who is the first that may wake.
use Rattle.std.specs.Prelude.{ℕ, ◌≡◌, ◌<◌, ◌≤◌, ◌⊎◌, Bool, true, false, ◌==◌, List, [], ◌∷◌, ◌++◌, length, map, slice_index_or, IsTrue, if◌then◌else◌}
use Rattle.std.specs.List.{All, Contains, filter, list_any}
use Rattle.zl_rights.specs.Map.{Map}
use Rattle.zl_objects.specs.declared.awaited.Awaited.{Awaited}
use Rattle.zl_objects.specs.declared.awaited.Awaited.TheVariants as awaits
use Rattle.zl_objects.specs.declared.awaited.Sleeper.{Sleeper}
use Rattle.zl_objects.specs.declared.object.Object.{Object}
use Rattle.zl_objects.specs.Awaited.{koid_of}
use Rattle.zl_objects.specs.Calm.{is_due}
use Rattle.zl_objects.specs.Objects.{Objects}

-- ---- for packets of a port

-- a packet of the port is waited for
abbrev pub is_for : ℕ → Awaited → Bool
is_for port (awaits.PacketAt k) = k == port
is_for port _ = false

-- the processes that are listed for packets of the port
abbrev pub listed_for : List Sleeper → ℕ → List ℕ
listed_for sleepers port = map (λ s. s.pid) (filter (λ s. is_for port s.awaited) sleepers)

-- the process isn't listed for packets of the port for which it waits
abbrev pub IsUnlisted : ℕ → Awaited → List Sleeper → Type 0
IsUnlisted pid awaited list = (port : ℕ) → is_for port awaited ≡ true → list_any (λ q. q == pid) (listed_for list port) ≡ false

-- it comes to stand there, the last of all; at other ports all is as before
abbrev pub ListsLast : ℕ → Awaited → List Sleeper → List Sleeper → Type 0
ListsLast pid awaited list list2 =
    (port : ℕ) → listed_for list2 port ≡ (if is_for port awaited then listed_for list port ++ pid ∷ [] else listed_for list port)

-- ---- places

-- those before the place are below it by their koids, as said, and all others above it
pub record IsPlace (below above : ℕ → Type 0) (list : List Sleeper) (place : ℕ) : Type 0 where
  pub within : place ≤ length list
  pub before : (i : ℕ) (d : Sleeper) → i < place → below (koid_of (slice_index_or list i d).awaited)
  pub behind : (i : ℕ) (d : Sleeper) → place ≤ i → i < length list → above (koid_of (slice_index_or list i d).awaited)

-- the sleeper stands before all at higher koids, and is listed once for its port; or it isn't listed, and not all are
pub record IsListed (s : Sleeper) (list list2 : List Sleeper) : Type 0 where
  pub front : List Sleeper
  pub rest : List Sleeper
  pub old : list ≡ front ++ rest
  pub new : list2 ≡ front ++ s ∷ rest
  pub behind : All (λ x. koid_of s.awaited < koid_of x.awaited) rest
  pub unlisted : IsUnlisted s.pid s.awaited list

abbrev pub IsPut : Sleeper → List Sleeper → Bool → List Sleeper → Bool → Type 0
IsPut s list crowded list2 crowded2 = ((crowded2 ≡ crowded) × IsListed s list list2) ⊎ ((crowded2 ≡ true) × (list2 ≡ list))

-- ---- who may wake

-- at the koid what nobody of these waits for is there
abbrev pub NoneDueAt : Map Object → ℕ → List Sleeper → Type 0
NoneDueAt m k = All (λ s. koid_of s.awaited ≡ k → is_due m s.awaited ≡ false)

-- the first at its koid for which what it waits for is there
pub record IsFirstDue (m : Map Object) (list : List Sleeper) (place : ℕ) : Type 0 where
  pub inside : place < length list
  pub due : (d : Sleeper) → IsTrue (is_due m (slice_index_or list place d).awaited)
  pub first : (i : ℕ) (d : Sleeper) → i < place → koid_of (slice_index_or list i d).awaited ≡ koid_of (slice_index_or list place d).awaited
      → is_due m (slice_index_or list i d).awaited ≡ false

-- what the sleeper waits for is there, and it isn't listed any more; if it waits for a packet, it was the first there
pub record TakesDue (r : Objects) (s : Sleeper) (r2 : Objects) : Type 0 where
  pub due : IsTrue (is_due r2.objects s.awaited)
  pub others : (x : Sleeper) → (x ≡ s → ⊥) → Contains r.sleepers x → Contains r2.sleepers x
  pub order : (port : ℕ)
      → listed_for r.sleepers port ≡ (if is_for port s.awaited then s.pid ∷ listed_for r2.sleepers port else listed_for r2.sleepers port)
  pub fewer : length r2.sleepers < length r.sleepers
  pub same : record r2 { sleepers = r.sleepers } ≡ r
