-- What the statements of a boot make, before what isn't held is gone. No public clause cites this module.
use Rattle.std.specs.Prelude.{ℕ, ◌≡◌, ◌+◌, ◌*◌, ◌^◌, ◌<◌, ◌≤◌, ◌==◌, Bool, false, IsTrue, List, [], length, map, Some}
use Rattle.std.specs.List.{count_by}
use Rattle.std.specs.Ordering.{nat_cmp}
use Rattle.std.specs.FinMap.Entries.{is_sorted}
use Rattle.zl_code.specs.Common.{Map, get, has_key, Process as ProcessValue, handles_to}
use Rattle.zl_rights.specs.declared.entry.Entry.{Entry}
use Rattle.zl_table.specs.Table.{IsTable}
use Rattle.zl_objects.specs.declared.object.Body.{Body}
use Rattle.zl_objects.specs.declared.object.Body.TheVariants as body
use Rattle.zl_objects.specs.declared.object.Object.{Object}
use Rattle.zl_calls.specs.declared.process.Process.{Process}
use Rattle.zl_objects.specs.Objects.{Objects, queue_held}
use Rattle.zl_objects.specs.Seen.{Agrees, is_in_job}
use Rattle.zl_calls.specs.World.{process_entry, world_value}
use Rattle.zl_calls.specs.Consistent.{IsNamed, AreNamed}

-- The invariant but for what keeps the objects, where the handles m are in no table and count all the same:
-- they have left one, or are to enter that of a process which isn't there yet.
pub record AreSound (ps : List Process) (m : Map Entry) (r : Objects) : Type 0 where
  pub processes_in_order : IsTrue (is_sorted nat_cmp (map process_entry ps))
  pub objects_in_order : IsTrue (is_sorted nat_cmp r.objects)
  pub given_processes : (k : ℕ) → IsTrue (has_key (map process_entry ps) k) → k < r.next_koid
  pub given_objects : (k : ℕ) → IsTrue (has_key r.objects k) → k < r.next_koid
  pub koids : r.next_koid ≤ 2 ^ 62
  pub above_zero : 0 < r.next_koid
  pub no_zero : (k : ℕ) → IsTrue (has_key r.objects k) → 0 < k
  pub tables : (k : ℕ) (p : ProcessValue) → get (map process_entry ps) k ≡ Some p → IsTable p.handles
  pub named : (k : ℕ) (p : ProcessValue) (v : ℕ) (e : Entry) → get (map process_entry ps) k ≡ Some p → get p.handles v ≡ Some e → IsNamed r.objects e
  pub queued : (k : ℕ) (o : Object) → get r.objects k ≡ Some o → AreNamed r.objects (queue_held o.body)
  pub counted : (k : ℕ) (o : Object) → get r.objects k ≡ Some o → o.handles ≡ handles_to (world_value ps r) k + count_by (λ h. h.1.koid == k) m
  pub agrees : (k : ℕ) (o : Object) → get r.objects k ≡ Some o → Agrees (world_value ps r) k o.body
  pub in_jobs : (k : ℕ) (o : Object) → get r.objects k ≡ Some o → IsTrue (is_in_job r.objects o.body)

-- no wait is registered, nor ever was
pub record IsUnwatched (r : Objects) : Type 0 where
  pub none : r.waits ≡ []
  pub none_made : r.waits_made ≡ 0

-- a job that was killed
abbrev pub is_killed : Body → Bool
is_killed (body.Job job) = job.killed
is_killed _ = false

-- what statements have made, which kills no job; the handles m are given to a process that isn't there yet
pub record IsMaking (processes : List Process) (m : Map Entry) (r : Objects) : Type 0 where
  pub sound : AreSound processes m r
  -- each table names an object 1,024 times at most
  pub few : (k : ℕ) → handles_to (world_value processes r) k ≤ 1024 * length processes
  pub unwatched : IsUnwatched r
  pub alive : (k : ℕ) (o : Object) → get r.objects k ≡ Some o → is_killed o.body ≡ false
