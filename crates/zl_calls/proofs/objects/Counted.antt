-- A handle that counts is in a table or in a queue, and names an object that is there.
use Rattle.zl_calls.proofs.Common.{All, All-head, All-tail, AreNamed, AreSound, Body, Bool, Entry, Found, IsNamed, IsTable, IsTrue, List, Map, Message, Objects}
use Rattle.zl_calls.proofs.Common.{Process, [], any_found, any_seen, arith, body_value, count_by, count_none, eqb-true, false≢true, handles_to, has_key, inl}
use Rattle.zl_calls.proofs.Common.{inr, list_any, map, named_queue, names, object_entry, or_cases, positive_part, process_entry, queue_held, queue_of}
use Rattle.zl_calls.proofs.Common.{queued_to, refl, subst, suc, sum_by, summed_any, sym, world_value, zero, ℕ, ◌<◌, ◌==◌, ◌∙◌, ◌∷◌, ◌≡◌, ◌⊎◌}
use Rattle.zl_objects.specs.declared.object.Body.TheVariants as body

-- what is true of each is true of the one that passes
all_any : {X : Type 0} (P : X → Type 0) (test : X → Bool) (C : Type 0) → ((x : X) → P x → IsTrue (test x) → C) → (xs : List X) → All P xs
    → IsTrue (list_any test xs) → C
all_any P test C found [] all some = absurd (false≢true some)
all_any P test C found (x ∷ xs) all some = elim (or_cases (test x) (list_any test xs) some) as (λ _. C) [
  | inl first ↦ found x (All-head P x xs all) first
  | inr later ↦ all_any P test C found xs (All-tail P x xs all) later
]

pub queue_seen : (b : Body) → queue_of (body_value b) ≡ queue_held b
queue_seen (body.Job own) = refl
queue_seen _ = refl

module _ (ps : List Process) (m : Map Entry) (r : Objects) (sound : AreSound ps m r) (k : ℕ) where
  abbrev IsThere : Type 0
  IsThere = IsTrue (has_key r.objects k)

  pub is_there : (e : Entry) → IsNamed r.objects e → IsTrue (e.koid == k) → IsThere
  is_there e named same = subst (λ (j : ℕ). IsTrue (has_key r.objects j)) (eqb-true e.koid k same) (rw named.there refl)

  in_a_table : IsTrue (list_any (λ p. list_any (λ h. h.1.koid == k) p.1.handles) (map process_entry ps)) → IsThere
  in_a_table some =
      let holder : Found (λ p. list_any (λ h. h.1.koid == k) p.1.handles) (map process_entry ps) =
      any_found (λ p. list_any (λ h. h.1.koid == k) p.1.handles) (map process_entry ps) sound.processes_in_order some in
      let table : IsTable holder.value.handles = sound.tables holder.key holder.value holder.at in
      let handle : Found (λ h. h.1.koid == k) holder.value.handles = any_found (λ h. h.1.koid == k) holder.value.handles table.sorted holder.passes in
      is_there handle.value (sound.named holder.key holder.value handle.key handle.value holder.at handle.at) handle.passes

  among : (queue : List Message) → AreNamed r.objects queue → IsTrue (names k queue) → IsThere
  among = all_any (λ (x : Message). All (IsNamed r.objects) x.handles) (λ (x : Message). list_any (λ (h : Entry). h.koid == k) x.handles) IsThere
      (λ x. all_any (IsNamed r.objects) (λ (h : Entry). h.koid == k) IsThere is_there x.handles)

  in_a_queue : IsTrue (list_any (λ o. names k (queue_of o.1.body)) (map object_entry r.objects)) → IsThere
  in_a_queue some =
      let end : Found (λ o. names k (queue_of (object_entry o).1.body)) r.objects =
      any_found (λ o. names k (queue_of (object_entry o).1.body)) r.objects sound.objects_in_order
      (sym (any_seen (λ o. names k (queue_of o.1.body)) r.objects) ∙ some) in
      among (queue_held end.value.body) (sound.queued end.key end.value end.at)
      (subst (λ (queue : List Message). IsTrue (names k queue)) (queue_seen end.value.body) end.passes)

  pub counted_there : 0 < handles_to (world_value ps r) k → IsThere
  unfolding handles_to
  counted_there more = by_part (positive_part _ _ more)
    where
      by_part : (0 < sum_by (λ p. count_by (λ h. h.1.koid == k) p.1.handles) (map process_entry ps))
          ⊎ (0 < sum_by (λ o. queued_to k o.1.body) (map object_entry r.objects)) → IsThere
      by_part (inl tables) =
          in_a_table (summed_any (λ p. count_by (λ h. h.1.koid == k) p.1.handles) (λ p. list_any (λ h. h.1.koid == k) p.1.handles)
          (λ p none. count_none (λ h. h.1.koid == k) p.1.handles none) (map process_entry ps) tables)
      by_part (inr queues) =
          in_a_queue (summed_any (λ o. queued_to k o.1.body) (λ o. names k (queue_of o.1.body)) (λ o none. named_queue k o.1.body none)
          (map object_entry r.objects) queues)

  -- where nothing has the koid, no handle names it
  pub never_named : (IsThere → ⊥) → ◌≡◌ {A = ℕ} (handles_to (world_value ps r) k) 0
  never_named missing = by_count (handles_to (world_value ps r) k) refl
    where
      by_count : (n : ℕ) → handles_to (world_value ps r) k ≡ n → ◌≡◌ {A = ℕ} n 0
      by_count zero is = refl
      by_count (suc n) is = absurd (missing (counted_there (omega (arith, is))))
