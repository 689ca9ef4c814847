-- How the handles of a statement get into the table of its process. No public clause cites this module.
use Rattle.std.specs.Prelude.{ℕ, ◌≡◌, Bool, List, [], length, Option, Some, None, IsTrue}
use Rattle.std.specs.Bool.{then_some}
use Rattle.zl_code.specs.Common.{Map, get, rights_of, Process as ProcessValue, Object, body_in, has_default_rights}
use Rattle.zl_rights.specs.declared.rights.Rights.{Rights}
use Rattle.zl_rights.specs.declared.entry.Entry.{Entry}
use Rattle.zl_code.specs.declared.boot.Grant.{Grant}
use Rattle.zl_code.specs.Boot.{handle_given, handles_given, process_with_all}
use Rattle.zl_code.specs.Effects.{may_get_all}
use Rattle.zl_code.specs.Own.{taken_all}
use Rattle.zl_code.specs.Starting.{with_handles}
use Rattle.zl_rights.specs.Values.{coming, new_free}
use Rattle.zl_table.specs.Table.{IsTable}
use Rattle.zl_calls.specs.declared.boot.Made.{Made}
use Rattle.zl_calls.specs.declared.process.Process.{Process}
use Rattle.zl_calls.specs.World.{process_value}
use Rattle.zl_calls.specs.Consistent.{IsNamed}
use Rattle.zl_calls.specs.Making.{IsMaking}
use Rattle.zl_calls.specs.Makes.{seen}

-- the set of rights that is this number, where the test passes
abbrev pub rights_if : Bool → ℕ → Option Rights
rights_if test rights = then_some test (rights_of rights)

-- the handle, if its rights are among the default rights of its kind
abbrev pub if_default : Option Entry → Option Entry
if_default None = None
if_default (Some e) = then_some (has_default_rights e) e

-- the handle that is to be given, if it may be
abbrev pub allowed : Map Object → Grant → Option Entry
allowed objects g = if_default (handle_given g (body_in (get objects g.koid)))

-- the process has no handle, and had none, so that its table offers 1, 2, ..
pub record IsBare (p : Process) : Type 0 where
  pub no_handles : p.table.entries ≡ []
  pub none_removed : p.table.last ≡ None
  pub offers_first : p.table.free ≡ new_free

-- the process with the handles es at the values vs, which stand in its registers too
abbrev pub process_given : List Entry → List ℕ → ProcessValue → ProcessValue
process_given es vs q = record (process_with_all es vs q) { cpu = record q.cpu { registers = with_handles vs q.cpu.registers } }

-- the handles entered the table of p, which is p2 afterwards, and were counted
pub record Gives (gs : List Grant) (old : Made) (p : Process) (new : Made) (p2 : Process) : Type 0 where
  pub values : List ℕ
  pub count : length values ≡ length gs
  pub chosen : IsTrue (may_get_all (process_value p) (handles_given (seen old).objects gs) values)
  pub pid : p2.pid ≡ p.pid
  pub is : process_value p2 ≡ process_given (handles_given (seen old).objects gs) values (process_value p)
  pub table : IsTable p2.table.entries
  pub few : length p2.table.entries ≡ length gs
  pub own : values ≡ coming (length gs) p.table.free
  pub free : p2.table.free ≡ taken_all (length gs) p.table.free
  pub untouched : length gs ≡ 0 → p2.table ≡ p.table
  pub named : (v : ℕ) (e : Entry) → get p2.table.entries v ≡ Some e → IsNamed new.objects.objects e
  pub making : IsMaking new.processes.items p2.table.entries new.objects
  pub processes : new.processes.items ≡ old.processes.items
  pub same : seen new ≡ seen old
