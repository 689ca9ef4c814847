-- An object is held once more: what the world sees of it, and the invariant, where the handle is to enter a table.
use Rattle.zl_calls.proofs.Common.{AreKeptBut, AreSound, Entry, IsTrue, List, Map, None, Object, Objects, Process, Some, [], ap, arith, cond, count_by, eq-eqb}
use Rattle.zl_calls.proofs.Common.{false, get, handles_to, held_once_more, holding, more_same, nat_lt, nat_tests, object_value, put, queue_held, refl, true}
use Rattle.zl_calls.proofs.Common.{world_value, ℕ, ◌+◌, ◌<◌, ◌==◌, ◌^◌, ◌≡◌}
use Rattle.zl_calls.proofs.objects.Counting.{count_put}
use Rattle.zl_calls.proofs.objects.Rebodied.{KeepsKind, changed_sound, kept_still, quiet_named, same_handles, same_kind}

pub held_value : (o : Object) → object_value (held_once_more o) ≡ object_value o
held_value o =
    elim (nat_lt o.handles (2 ^ 62)) as (λ b. object_value (cond b (record o { handles = o.handles + 1 }) o) ≡ object_value o) [ true ↦ refl | false ↦ refl ]

held_more : (o : Object) → o.handles < 2 ^ 62 → (held_once_more o).handles ≡ o.handles + 1
held_more o room = let has : nat_lt o.handles (2 ^ 62) ≡ true = grind (arith, nat_tests, room) in rw has refl

held_still : (o : Object) → IsTrue (nat_lt 0 o.handles) → IsTrue (nat_lt 0 (held_once_more o).handles)
held_still o held = elim (nat_lt o.handles (2 ^ 62)) as (λ b. IsTrue (nat_lt 0 (cond b (record o { handles = o.handles + 1 }) o).handles)) [
  | true ↦ grind (arith, nat_tests, held)
  | false ↦ held
]

held_kind : KeepsKind held_once_more
held_kind = same_kind held_once_more more_same

-- the handle e to the object isn't among those that count beside the tables, and the object has place for it
module _ (ps : List Process) (m : Map Entry) (r : Objects) (v : ℕ) (e : Entry) where
  pub more_handles : (j : ℕ) → handles_to (world_value ps (holding r e.koid)) j ≡ handles_to (world_value ps r) j
  more_handles = same_handles held_once_more held_kind (λ o. ap queue_held (more_same o)) ps r e.koid

  pub holding_sound : AreSound ps m r → get m v ≡ None → ((o : Object) → get r.objects e.koid ≡ Some o → o.handles < 2 ^ 62)
      → AreSound ps (put m v e) (holding r e.koid)
  holding_sound sound free room = changed_sound held_once_more held_kind ps r e.koid m (put m v e) sound
      (quiet_named held_once_more held_kind (λ o. ap queue_held (more_same o)) ps r e.koid sound.queued)
      (λ o old.
      let one : ◌≡◌ {A = ℕ} (cond (e.koid == e.koid) 1 0) 1 = rw (eq-eqb e.koid e.koid refl) refl in
      omega (arith, held_more o (room o old), sound.counted e.koid o old, counts e.koid, one, more_handles e.koid))
      (λ j o apart old.
      let none : ◌≡◌ {A = ℕ} (cond (e.koid == j) 1 0) 0 = rw apart refl in
      omega (arith, sound.counted j o old, counts j, none, more_handles j))
    where
      counts : (j : ℕ) → count_by (λ h. h.1.koid == j) (put m v e) ≡ count_by (λ h. h.1.koid == j) m + cond (e.koid == j) 1 0
      counts j = count_put (λ h. h.1.koid == j) m v e free

  pub holding_kept : AreKeptBut [] r.objects → AreKeptBut [] (holding r e.koid).objects
  holding_kept = kept_still held_once_more held_kind r.objects e.koid held_still
