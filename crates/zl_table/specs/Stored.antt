-- How the table is stored. No public clause cites this module.
use Rattle.std.specs.Prelude.{◌≡◌, ℕ, ◌<◌, ◌≤◌, List, reverse, Option, IfSome, IsSome}
use Rattle.slab.specs.Slab.{Slab, entries_from, get, slab_len}
use Rattle.zl_rights.specs.Map.{Map}
use Rattle.zl_rights.specs.declared.entry.Entry.{Entry}
use Rattle.zl_table.specs.Table.{MOST_VALUE, Handles}
use Rattle.zl_rights.specs.Values.{CAPACITY, Free, IsFree, offered}

-- the handles by their values: a value is its key plus 1
abbrev pub handles_stored : Slab Entry → Map Entry
handles_stored s = entries_from 1 s.slots

-- the free values of a list, whose last one was freed last
abbrev pub free_stored : List ℕ → ℕ → Free
free_stored values made = record { freed = reverse values; made = made }

-- the table of a slab, these free values and the value removed last
abbrev pub table_in : Slab Entry → List ℕ → ℕ → Option ℕ → Handles
table_in s values made last = record { entries = handles_stored s; last = last; free = free_stored values made }

-- few entries, at keys below the greatest value; the value removed last is the one that is offered; and there is room for
-- each value that was made
pub record IsStored (s : Slab Entry) (values : List ℕ) (made room : ℕ) (last : Option ℕ) : Type 0 where
  pub few : slab_len s ≤ CAPACITY
  pub keys : (key : ℕ) → IsSome (get s key) → key < MOST_VALUE
  pub free : IsFree (handles_stored s) (free_stored values made)
  pub roomy : made ≤ room
  pub again : IfSome last (λ v. v ≡ offered (free_stored values made))
