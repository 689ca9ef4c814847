-- The table of a process: its handles by their values, and what operations make of it.
use Rattle.std.specs.Prelude.{◌≡◌, ℕ, ◌<◌, ◌≤◌, ◌==◌, ◌&&◌, Bool, length, Option, Some, None, IfSome, IsTrue}
use Rattle.std.specs.List.{list_any}
use Rattle.std.specs.Ordering.{nat_cmp}
use Rattle.std.specs.FinMap.Entries.{is_sorted}
use Rattle.zl_rights.specs.Common.{Map, get, put, without, has_key, bits, within}
use Rattle.zl_rights.specs.declared.entry.Entry.{Entry}
use Rattle.zl_rights.specs.Values.{CAPACITY, Free, IsNormal, given_back, offered, taken}
use Rattle.zl_table.specs.declared.table.InsertFault.{InsertFault}
use Rattle.zl_table.specs.declared.table.InsertFault.TheVariants as fault

-- the greatest value of a handle
abbrev pub MOST_VALUE : ℕ
MOST_VALUE = 65535

-- a table: its handles by their values; the value removed last, until the next insertion; and the values that insertions get
pub record Handles : Type 0 where
  pub entries : Map Entry
  pub last : Option ℕ
  pub free : Free

-- the table takes no handle more: it has the most
abbrev pub IsFull : Handles → Type 0
IsFull t = length t.entries ≡ CAPACITY

-- one of these handles names the object, and has these rights at least
abbrev pub has_named : Map Entry → (koid rights : ℕ) → Bool
has_named entries koid rights = list_any (λ e. (e.1.koid == koid) && within rights (bits e.1.rights)) entries

-- what is true of the handles of every table
pub record IsTable (entries : Map Entry) : Type 0 where
  pub sorted : IsTrue (is_sorted nat_cmp entries)
  pub few : length entries ≤ CAPACITY
  pub values : (value : ℕ) → IsTrue (has_key entries value) → (0 < value) × (value ≤ MOST_VALUE)

-- the entry goes into the table at the value that is offered, which is unused: the value removed last, if there is one
pub record Inserts (old : Handles) (entry : Entry) (value : ℕ) (new : Handles) : Type 0 where
  pub offered : value ≡ offered old.free
  pub normal : IsNormal old.free
  pub unused : get old.entries value ≡ None
  pub above : 0 < value
  pub below : value ≤ MOST_VALUE
  pub again : IfSome old.last (λ last. value ≡ last)
  pub entries : new.entries ≡ put old.entries value entry
  pub free : new.free ≡ taken old.free
  pub last : new.last ≡ None

-- the entry leaves the table, and its value is the one removed last
pub record Removes (old : Handles) (value : ℕ) (entry : Entry) (new : Handles) : Type 0 where
  pub was : get old.entries value ≡ Some entry
  pub entries : new.entries ≡ without old.entries value
  pub last : new.last ≡ Some value
  pub free : new.free ≡ given_back value old.free

-- the entry leaves the table, and the value removed last is the one that is told
pub record Undoes (old : Handles) (value : ℕ) (told : Option ℕ) (entry : Entry) (new : Handles) : Type 0 where
  pub was : get old.entries value ≡ Some entry
  pub entries : new.entries ≡ without old.entries value
  pub last : new.last ≡ told
  pub free : new.free ≡ given_back value old.free

-- where an insertion at the value made the old table, its entry comes out, and the new table is the one before it
pub record TakesBack (old : Handles) (value : ℕ) (told : Option ℕ) (result : Option Entry) (new : Handles) : Type 0 where
  pub entry : (before : Handles) (entry : Entry) → Inserts before entry value old → result ≡ Some entry
  pub table : (before : Handles) (entry : Entry) → Inserts before entry value old → told ≡ before.last → new ≡ before

-- the entry that a refused insertion hands back
abbrev pub refused_entry : InsertFault → Entry
refused_entry (fault.Full e) = e
refused_entry (fault.NoMemory e) = e
