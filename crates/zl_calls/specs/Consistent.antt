-- What is true of every world that this crate makes.
use Rattle.std.specs.Prelude.{ℕ, ◌≡◌, ◌<◌, ◌≤◌, ◌^◌, [], List, map, Some, IsTrue}
use Rattle.std.specs.List.{All}
use Rattle.std.specs.Ordering.{nat_cmp}
use Rattle.std.specs.FinMap.Entries.{is_sorted}
use Rattle.zl_code.specs.Common.{bits, within, default_rights_of, Map, get, has_key, Process as ProcessValue, kind_of, handles_to}
use Rattle.zl_rights.specs.declared.entry.Entry.{Entry}
use Rattle.zl_rights.specs.World.{Message}
use Rattle.zl_table.specs.Table.{IsTable}
use Rattle.zl_objects.specs.declared.object.Object.{Object}
use Rattle.zl_objects.specs.Objects.{Objects, queue_held}
use Rattle.zl_objects.specs.Release.{AreKeptBut}
use Rattle.zl_objects.specs.Seen.{Agrees, body_value, is_in_job}
use Rattle.zl_calls.specs.declared.process.Process.{Process}
use Rattle.zl_calls.specs.World.{process_entry, world_value}

-- ---- handles

-- the entry names an object that is there, of the entry's kind, with rights that such a handle may have
pub record IsNamed (objects : Map Object) (e : Entry) : Type 0 where
  pub object : Object
  pub there : get objects e.koid ≡ Some object
  pub kind : e.kind ≡ kind_of (body_value object.body)
  pub rights : IsTrue (within (bits e.rights) (default_rights_of e.kind))

-- each handle in the messages names an object so
abbrev pub AreNamed : Map Object → List Message → Type 0
AreNamed objects queue = All (λ m. All (IsNamed objects) m.handles) queue

-- ---- all of it

-- all koids lie below the next one, handles name objects and are counted there, and what is there is held
pub record IsConsistent (processes : List Process) (r : Objects) : Type 0 where
  pub processes_in_order : IsTrue (is_sorted nat_cmp (map process_entry processes))
  pub given_processes : (k : ℕ) → IsTrue (has_key (map process_entry processes) k) → k < r.next_koid
  pub given_objects : (k : ℕ) → IsTrue (has_key r.objects k) → k < r.next_koid
  pub koids : r.next_koid ≤ 2 ^ 62
  pub above_zero : 0 < r.next_koid
  pub no_zero : (k : ℕ) → IsTrue (has_key r.objects k) → 0 < k
  pub tables : (k : ℕ) (p : ProcessValue) → get (map process_entry processes) k ≡ Some p → IsTable p.handles
  pub named : (k : ℕ) (p : ProcessValue) (v : ℕ) (e : Entry) → get (map process_entry processes) k ≡ Some p → get p.handles v ≡ Some e → IsNamed r.objects e
  pub queued : (k : ℕ) (o : Object) → get r.objects k ≡ Some o → AreNamed r.objects (queue_held o.body)
  pub counted : (k : ℕ) (o : Object) → get r.objects k ≡ Some o → o.handles ≡ handles_to (world_value processes r) k
  pub agrees : (k : ℕ) (o : Object) → get r.objects k ≡ Some o → Agrees (world_value processes r) k o.body
  pub in_jobs : (k : ℕ) (o : Object) → get r.objects k ≡ Some o → IsTrue (is_in_job r.objects o.body)
  pub kept : AreKeptBut [] r.objects
