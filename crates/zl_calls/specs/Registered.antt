-- How registered waits end and fire. No public clause cites this module.
use Rattle.std.specs.Prelude.{ℕ, ◌≡◌, Bool, false, ◌&&◌, ◌==◌, not, List, Some, IsTrue}
use Rattle.std.specs.List.{Contains, filter}
use Rattle.zl_code.specs.Common.{Map, get, has_key, World}
use Rattle.zl_rights.specs.declared.entry.Entry.{Entry}
use Rattle.zl_rights.specs.Settle.{is_made_by_handle}
use Rattle.zl_rights.specs.Wakes.{fired}
use Rattle.zl_rights.specs.World.{Wait}
use Rattle.zl_objects.specs.Awaited.{KeepSleepers}
use Rattle.zl_objects.specs.Listed.{is_there}
use Rattle.zl_objects.specs.Objects.{Objects}
use Rattle.zl_objects.specs.Waits.{AreSameButWaits}
use Rattle.zl_calls.specs.Consistent.{IsConsistent}
use Rattle.zl_calls.specs.World.{world_blocked, world_value}
use Rattle.zl_calls.specs.declared.process.Process.{Process}

-- ---- which waits are left

-- the handle of the wait is there, and so are its object and its port
abbrev pub is_left : World → Wait → Bool
is_left w x = is_made_by_handle w x && (has_key w.objects x.object && has_key w.objects x.port)

-- the world of a step that what isn't held has left: of the waits those are left whose handle and port are
abbrev pub world_left : List Process → Objects → List ℕ → World
world_left processes objects blocked =
    record (world_blocked processes objects blocked) { waits = filter (is_left (world_value processes objects)) objects.waits }

-- the object and the port of the wait are there, and its process is none of those that end
abbrev pub stays_but : (over : ℕ → Bool) → Objects → Wait → Bool
stays_but over r x = not (over x.pid) && is_there r.objects x

-- the list is these waits, but for some whose object or port is gone, or whose process is one of those that end: a test that none of
-- those passes leaves the same of both; and who may be blocked is as before
pub record ListsWithout (over : ℕ → Bool) (ws : List Wait) (count : ℕ) (old r : Objects) : Type 0 where
  pub waits : (test : Wait → Bool) → ((x : Wait) → IsTrue (test x) → IsTrue (stays_but over r x)) → filter test r.waits ≡ filter test ws
  pub made : r.waits_made ≡ count
  pub asleep : KeepSleepers old r

-- the same where no process ends
abbrev pub ListsBut : List Wait → ℕ → Objects → Objects → Type 0
ListsBut = ListsWithout (λ k. false)

-- nothing new is there, and waits have ended with their objects, their ports and these processes alone
pub record KeepsWithout (over : ℕ → Bool) (r r2 : Objects) : Type 0 where
  pub shrinks : (k : ℕ) → IsTrue (has_key r2.objects k) → IsTrue (has_key r.objects k)
  pub older : (x : Wait) → Contains r2.waits x → Contains r.waits x
  pub listed : ListsWithout over r.waits r.waits_made r r2

-- the same where no process ends
abbrev pub KeepsListed : Objects → Objects → Type 0
KeepsListed = KeepsWithout (λ k. false)

-- the process ends, and none of its waits is left that it made by one of these handles
pub record EndsOwn (pid : ℕ) (entries : Map Entry) (r r2 : Objects) : Type 0 where
  pub keeps : KeepsWithout (λ k. k == pid) r r2
  pub gone : (x : Wait) (e : Entry) → x.pid ≡ pid → get entries x.value ≡ Some e → e.koid ≡ x.object → Contains r2.waits x → ⊥

-- ---- waits that end or fire

-- the objects are the same, but for waits and the places that are reserved for their packets
pub record AreBeside (r r2 : Objects) : Type 0 where
  pub objects : AreSameButWaits r.objects r2.objects
  pub koids : r2.next_koid ≡ r.next_koid

-- the waits that pass the test have ended, and nothing else has changed but perhaps the places that are reserved
pub record EndsWaits (test : Wait → Bool) (r r2 : Objects) : Type 0 where
  pub beside : AreBeside r r2
  pub waits : r2.waits ≡ filter (λ x. not (test x)) r.waits
  pub made : r2.waits_made ≡ r.waits_made
  pub asleep : KeepSleepers r r2

-- of the waits those are left whose handle, object and port are, and all else is as it was
pub record EndsUnheld (ps : List Process) (r r2 : Objects) : Type 0 where
  pub world : (blocked : List ℕ) → world_blocked ps r2 blocked ≡ world_left ps r blocked
  pub consistent : IsConsistent ps r2
  pub asleep : KeepSleepers r r2

-- each wait that holds has given its packet and is gone, whichever processes block
pub record FiresWaits (ps : List Process) (r r2 : Objects) : Type 0 where
  pub world : (blocked : List ℕ) → world_blocked ps r2 blocked ≡ fired (world_blocked ps r blocked)
  pub consistent : IsConsistent ps r2
  pub asleep : KeepSleepers r r2
