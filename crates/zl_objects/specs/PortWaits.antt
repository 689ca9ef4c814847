-- The waits that give their packets to a port, found by it, and the list of all waits without those that end. No public clause cites
-- this module.
use Rattle.std.specs.Prelude.{ℕ, ◌≡◌, ◌<◌, ◌≤◌, Bool, false, not, ◌&&◌, ◌==◌, IsTrue, List, map, Option, Some, None, if◌then◌else◌}
use Rattle.std.specs.BTreeSet.{contains}
use Rattle.std.specs.List.{filter, list_any}
use Rattle.zl_signals.specs.declared.watch.Watch.{Watch}
use Rattle.zl_objects.specs.declared.port_waits.PortWaits.{PortWaits}
use Rattle.zl_objects.specs.declared.wait.Listed.{Listed}
use Rattle.zl_objects.specs.Index.{pair_cmp}
use Rattle.zl_objects.specs.Listed.{listed_at}

-- ---- the index

-- a wait before which n were registered is found from the port
abbrev pub finds : PortWaits → ℕ → ℕ → Bool
finds index port n = contains pair_cmp index.pairs (port, n)

-- n waits were registered before the earliest wait of the port
pub record IsEarliest (index : PortWaits) (port made n : ℕ) : Type 0 where
  pub there : IsTrue (finds index port n)
  pub least : (i : ℕ) → i < made → IsTrue (finds index port i) → n ≤ i

-- the earliest wait of the port before which fewer than so many were registered, if there is one
abbrev pub IsFirst : PortWaits → ℕ → ℕ → Option ℕ → Type 0
IsFirst index port made None = (i : ℕ) → i < made → finds index port i ≡ false
IsFirst index port made (Some n) = IsEarliest index port made n

-- the numbers are the same, and the ports
abbrev pub is_pair : ℕ → ℕ → ℕ → ℕ → Bool
is_pair port n port2 n2 = (n == n2) && (port == port2)

-- before the wait n were registered, and it gives its packet to the port
abbrev pub is_pair_of : ℕ → ℕ → Listed → Bool
is_pair_of port n x = is_pair x.wait.port x.order port n

-- from each port just its waits in the list are found
abbrev pub AreFound : PortWaits → List Listed → Type 0
AreFound index list = (port n : ℕ) → finds index port n ≡ list_any (is_pair_of port n) list

-- ---- which waits of the list

-- the wait is at the object k
abbrev pub is_entry_at : ℕ → Listed → Bool
is_entry_at k x = x.wait.object == k

-- the wait gives its packet to the port
abbrev pub is_entry_to : ℕ → Listed → Bool
is_entry_to port x = x.wait.port == port

-- these are the waits at the object k
abbrev pub AreOwn : ℕ → List Watch → List Listed → Type 0
AreOwn k waits list = filter (is_entry_at k) list ≡ map (listed_at k) waits

-- the list without the waits at the object k
abbrev pub without_own : ℕ → List Listed → List Listed
without_own k list = filter (λ x. not (is_entry_at k x)) list

-- the list without the waits that give their packets to the port
abbrev pub without_given : ℕ → List Listed → List Listed
without_given port list = filter (λ x. not (is_entry_to port x)) list

-- the list without the waits at the object k, and if places are reserved there, without those that give their packets to it
abbrev pub without_ended : ℕ → Bool → List Listed → List Listed
without_ended k reserved list = if reserved then without_given k (without_own k list) else without_own k list
