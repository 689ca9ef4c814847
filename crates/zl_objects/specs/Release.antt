-- Handles go one after another, and with them the objects that nothing keeps any more.
use Rattle.std.specs.Prelude.{ℕ, ◌≡◌, IsTrue, false, ◌==◌, List, [], ◌∷◌, ◌++◌, map, Option, Some, None}
use Rattle.std.specs.List.{list_any, flat_map}
use Rattle.std.specs.Ordering.{nat_cmp}
use Rattle.std.specs.FinMap.Entries.{is_sorted}
use Rattle.zl_rights.specs.declared.entry.Entry.{Entry}
use Rattle.zl_rights.specs.Map.{Map, get, update, without}
use Rattle.zl_rights.specs.World.{Message}
use Rattle.zl_objects.specs.declared.object.Object.{Object}
use Rattle.zl_objects.specs.Objects.{Objects, held_once_less, is_kept, job_in, queue_held, stopping}
use Rattle.zl_objects.specs.Waits.{AreSameButWaits}

-- what the handles name
abbrev pub koids_in : List Entry → List ℕ
koids_in es = map (λ (e : Entry). e.koid) es

-- what the handles in the messages name
abbrev pub named_in : List Message → List ℕ
named_in ms = flat_map (λ (m : Message). koids_in m.handles) ms

-- the koids of all objects
abbrev pub all_koids : Map Object → List ℕ
all_koids m = map (λ e. e.0) m

-- handles to these koids have gone; where an object goes, so do the handles in its queue, and waits may end
pub data Cascades : List ℕ → Map Object → Map Object → Type 0 where
  none_left : (m : Map Object) → Cascades [] m m
  let_go : (k : ℕ) (ks : List ℕ) (m m2 : Map Object)
      → Cascades ks (update m k held_once_less) m2 → Cascades (k ∷ ks) m m2
  goes : (k : ℕ) (o : Object) (ks : List ℕ) (m m2 : Map Object) → get m k ≡ Some o → is_kept m k o ≡ false
      → Cascades (named_in (queue_held o.body) ++ ks) (without m k) m2 → Cascades ks m m2
  waits_end : (ks : List ℕ) (m mid m2 : Map Object) → AreSameButWaits m mid → Cascades ks mid m2 → Cascades ks m m2

-- the objects are in the order of their koids, and something keeps each but perhaps these
pub record AreKeptBut (loose : List ℕ) (m : Map Object) : Type 0 where
  pub in_order : IsTrue (is_sorted nat_cmp m)
  pub noted : (k : ℕ) (o : Object) → get m k ≡ Some o → is_kept m k o ≡ false → IsTrue (list_any (λ x. x == k) loose)

-- handles to ks went, and with them what nothing keeps any more, but perhaps for others that nothing kept before;
-- nothing may have kept the loose ones either
pub record Releases (ks loose : List ℕ) (r r2 : Objects) : Type 0 where
  pub cascades : Cascades ks r.objects r2.objects
  pub keeps : (others : List ℕ) → AreKeptBut (others ++ loose) r.objects → AreKeptBut others r2.objects
  pub koids : r2.next_koid ≡ r.next_koid

-- the process k of the job that was found has ended, and with it went what nothing keeps any more
abbrev pub EndedHere : ℕ → Option ℕ → Objects → Objects → Type 0
EndedHere k None r r2 = r2 ≡ r
EndedHere k (Some job) r r2 = Releases [] (job ∷ k ∷ []) (stopping r k) r2

-- the process k has ended, if there is one
abbrev pub Ends : ℕ → Objects → Objects → Type 0
Ends k r r2 = EndedHere k (job_in (get r.objects k)) r r2
