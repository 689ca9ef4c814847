-- The indexes of the waits at an object: the numbers of those under one key. No public clause cites this module.
use Rattle.std.specs.Prelude.{ℕ, ◌≡◌, ◌<◌, Bool, true, false, cond, Option, Some, None}
use Rattle.std.specs.BTreeMap.{is_at}
use Rattle.std.specs.BTreeSet.{BTreeSet, contains}
use Rattle.std.specs.Ordering.{nat_cmp, ordering_then}
use Rattle.std.specs.declared.cmp.Ordering.{Ordering}
use Rattle.zl_signals.specs.declared.indexes.Indexes.{Indexes}
use Rattle.zl_signals.specs.declared.watch.Watch.{Watch}
use Rattle.zl_signals.specs.Numbered.{NO_WAIT, is_before}

-- ---- one index

module _ {K : Type 0} (cmp : K → K → Ordering) where
  -- the key and the number in the order of an index
  abbrev pub entry_cmp : K × ℕ → K × ℕ → Ordering
  entry_cmp x y = ordering_then (cmp x.0 y.0) (nat_cmp x.1 y.1)

  -- the second index has this entry just if b is true, and each other one just if the first has it
  abbrev pub IsSet : BTreeSet (K × ℕ) → BTreeSet (K × ℕ) → K × ℕ → Bool → Type 0
  IsSet s s2 e b = (q : K × ℕ) → contains entry_cmp s2 q ≡ cond (is_at (entry_cmp e) q) b (contains entry_cmp s q)

  -- this is the first number under the key, if there is one
  abbrev pub IsFirstUnder : BTreeSet (K × ℕ) → K → Option ℕ → Type 0
  IsFirstUnder s k o =
      ((n : ℕ) → n < NO_WAIT → is_before n o ≡ true → contains entry_cmp s (k, n) ≡ false)
      × ((n : ℕ) → o ≡ Some n → contains entry_cmp s (k, n) ≡ true)

  module _ (key : Watch → K) where
    -- a wait was found that has this key
    abbrev pub is_found_under : K → Option Watch → Bool
    is_found_under k None = false
    is_found_under k (Some x) = is_at (cmp (key x)) k

    -- the index has just the numbers of the waits, each under its key
    abbrev pub IsIndex : BTreeSet (K × ℕ) → (ℕ → Option Watch) → Type 0
    IsIndex s w = (k : K) (n : ℕ) → contains entry_cmp s (k, n) ≡ is_found_under k (w n)

-- ---- the keys

-- the process that made the wait, and the value of its handle
abbrev pub handle_of : Watch → ℕ × ℕ
handle_of x = (x.pid, x.value)

-- these, the port and the key
abbrev pub keyed_of : Watch → ℕ × ℕ × ℕ × ℕ
keyed_of x = (x.pid, x.value, x.port, x.key)

-- the port
abbrev pub port_of : Watch → ℕ
port_of x = x.port

-- the order of the first two
abbrev pub handle_cmp : ℕ × ℕ → ℕ × ℕ → Ordering
handle_cmp x y = ordering_then (nat_cmp x.0 y.0) (nat_cmp x.1 y.1)

abbrev pub keyed_cmp : ℕ × ℕ × ℕ × ℕ → ℕ × ℕ × ℕ × ℕ → Ordering
keyed_cmp x y = ordering_then (ordering_then (ordering_then (nat_cmp x.0 y.0) (nat_cmp x.1 y.1)) (nat_cmp x.2 y.2)) (nat_cmp x.3 y.3)

-- ---- all indexes

-- the number stands for the wait in the second indexes just if b is true, and all else is as in the first
abbrev pub AreSet : Indexes → Indexes → Watch → ℕ → Bool → Type 0
AreSet s s2 x number b =
    IsSet handle_cmp s.by_handle s2.by_handle (handle_of x, number) b × IsSet keyed_cmp s.by_key s2.by_key (keyed_of x, number) b
    × IsSet nat_cmp s.by_port s2.by_port (x.port, number) b

-- the indexes have just the numbers of the waits
abbrev pub AreIndexed : Indexes → (ℕ → Option Watch) → Type 0
AreIndexed s w = IsIndex handle_cmp handle_of s.by_handle w × IsIndex keyed_cmp keyed_of s.by_key w × IsIndex nat_cmp port_of s.by_port w
