-- Handles: their places are apart, their rights are those of a first handle at most, and what they name is there.
use Rattle.std.specs.Prelude.{ℕ, ◌≡◌, Bool, List, [], ◌∷◌, Some, IsTrue}
use Rattle.std.specs.List.{All, list_all}
use Rattle.std.specs.Ordering.{nat_cmp}
use Rattle.std.specs.FinMap.Entries.{is_sorted}
use Rattle.zl_rights.specs.Common.{bits, within, default_rights_of, Map, get, World, Process, Object, kind_of, queue_of}
use Rattle.zl_rights.specs.declared.entry.Entry.{Entry}
use Rattle.zl_code.specs.declared.history.TraceItem.{TraceItem}
use Rattle.zl_code.specs.Image.{Library}
use Rattle.zl_code.specs.Steps.{Runs}

-- the keys stand in rising order, so that none stands twice
abbrev pub in_order : {X : Type 0} → Map X → Bool
in_order m = is_sorted nat_cmp m

-- the handle's rights are within the default rights of its kind
abbrev pub has_default_rights : Entry → Bool
has_default_rights e = within (bits e.rights) (default_rights_of e.kind)

-- The handles of w stand at places of their own, and none has a right that a first handle of its kind lacks.
-- The place of a queued handle is its position, which no other has.
pub record HandlesAreSound (w : World) : Type 0 where
  -- no koid stands for two processes
  pub processes : IsTrue (in_order w.processes)
  -- no koid stands for two objects
  pub objects : IsTrue (in_order w.objects)
  -- in no table a value stands for two handles
  pub places : (p : ℕ) (q : Process) → get w.processes p ≡ Some q → IsTrue (in_order q.handles)
  -- the handles in tables
  pub rights : (p v : ℕ) (q : Process) (e : Entry) → get w.processes p ≡ Some q → get q.handles v ≡ Some e → IsTrue (has_default_rights e)
  -- the handles in queues
  pub queued : (k : ℕ) (o : Object) → get w.objects k ≡ Some o → IsTrue (list_all (λ m. list_all has_default_rights m.handles) (queue_of o.body))

-- the handle names an object that is there, of the kind that the handle has
abbrev pub names_its_object : Map Object → Entry → Type 0
names_its_object objects e = (o : Object) × (get objects e.koid ≡ Some o) × (e.kind ≡ kind_of o.body)

-- In w each handle names an object that is there, of the kind that the handle has.
pub record HandlesAreNamed (w : World) : Type 0 where
  -- the handles in tables
  pub tables : (p v : ℕ) (q : Process) (e : Entry) → get w.processes p ≡ Some q → get q.handles v ≡ Some e → names_its_object w.objects e
  -- the handles in queues
  pub queues : (k : ℕ) (o : Object) → get w.objects k ≡ Some o → All (λ m. All (names_its_object w.objects) m.handles) (queue_of o.body)

-- P is true of each world of the run, from the first to the last
abbrev pub Throughout : (World → Type 0) → (lib : Library) (w : World) (items : List TraceItem) (w2 : World) → Runs lib w items w2 → Type 0
Throughout P lib w [] w2 run = P w
Throughout P lib w (x ∷ items) w2 (mid, step, rest) = P w × Throughout P lib mid items w2 rest
