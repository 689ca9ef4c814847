-- Two running worlds whose processes count alike, and all else of which is the same, are the same for what comes.
use Rattle.zl_calls.proofs.Common.{List, None, Objects, Option, Process, Some, World, [], ap, cases_Bool, each, false, get, get-each, inl}
use Rattle.zl_calls.proofs.Common.{inr, lives, map, option_map, passes, process_entry, process_value, refl, runs, same_map, sym, true≢false, world_blocked}
use Rattle.zl_calls.proofs.Common.{ℕ, ◌∙◌, ◌∷◌, ◌≡◌}
use Rattle.zl_code.proofs.MapKept.{in_order-each}
use Rattle.zl_code.specs.Common.{IsSound, Process as ProcessValue}
use Rattle.zl_code.specs.Own.{OwnWorld}
use Rattle.zl_objects.specs.Same.{LookSame}
use Rattle.zl_rights.specs.Values.{Free}
use Rattle.zl_rights.specs.World.{Ended, Gone, State}
use Rattle.zl_calls.specs.Own.{own_beside}
use Rattle.zl_calls.specs.Rested.{own_rested, rested, rested_process}
use Rattle.zl_calls.specs.Same.{counted, counting}
use Rattle.zl_calls.specs.World.{free_entry}

-- ---- what rests counts alone

over_rests : (s : State) → lives s ≡ false → runs s ≡ false
over_rests (Ended code) over = refl
over_rests Gone over = refl
over_rests _ over = absurd (true≢false over)

counts_same : (w : World) → IsSound w → (k : ℕ) (found : Option ProcessValue) → get w.processes k ≡ found
    → option_map rested_process found ≡ option_map counting found
counts_same w sound k None there = refl
counts_same w sound k (Some q) there = elim (cases_Bool (lives q.state)) as (λ _. Some (rested_process q) ≡ Some (counting q)) [
  | inl alive ↦ rw alive refl
  | inr over ↦ let idle = (sound.tables k q there).idle (over_rests q.state over) in rw (over, idle.0, idle.1) refl
]

rested_counts : (w : World) → IsSound w → rested w ≡ record w { processes = each (λ k q. counting q) w.processes }
rested_counts w sound = λ i. record w {
  processes = same_map (each (λ k q. rested_process q) w.processes) (each (λ k q. counting q) w.processes)
      (passes _ (in_order-each w.processes (λ k q. rested_process q) ∙ sound.handles.processes))
      (passes _ (in_order-each w.processes (λ k q. counting q) ∙ sound.handles.processes))
      (λ k. get-each w.processes (λ j q. rested_process q) k ∙ (counts_same w sound k (get w.processes k) refl ∙ sym (get-each w.processes
      (λ j q. counting q) k))) i;
}

-- ---- the lists

abbrev counting_entry : Process → ℕ × ProcessValue
counting_entry p = (p.pid, counting (process_value p))

counting_entries : (ps : List Process) → each (λ k q. counting q) (map process_entry ps) ≡ map counting_entry ps
unfolding each
counting_entries [] = refl
counting_entries (p ∷ ps) = ap (λ es. counting_entry p ∷ es) (counting_entries ps)

values_counted : (ps : List Process) → map {B = ℕ × ProcessValue} (λ c. (c.0, c.1.0)) (map counted ps) ≡ map counting_entry ps
values_counted [] = refl
values_counted (p ∷ ps) = ap (λ es. counting_entry p ∷ es) (values_counted ps)

free_counted : (ps : List Process) → map {B = ℕ × Free} (λ c. (c.0, c.1.1)) (map counted ps) ≡ map free_entry ps
free_counted [] = refl
free_counted (p ∷ ps) = ap (λ es. free_entry p ∷ es) (free_counted ps)

-- each with what stands at its place in the other list
joined : List (ℕ × ProcessValue) → List (ℕ × Free) → List (ℕ × (ProcessValue × Free))
joined [] fs = []
joined (e ∷ es) [] = []
joined (e ∷ es) (f ∷ fs) = (e.0, (e.1, f.1)) ∷ joined es fs

counted_joined : (ps : List Process) → joined (map counting_entry ps) (map free_entry ps) ≡ map counted ps
unfolding joined
counted_joined [] = refl
counted_joined (p ∷ ps) = ap (λ es. counted p ∷ es) (counted_joined ps)

-- ---- worlds

module _ (ps qs : List Process) (r s : Objects) (b c : List ℕ) (one : IsSound (world_blocked ps r b)) (two : IsSound (world_blocked qs s c)) where
  -- the world where each process is as it counts
  abbrev counting_world : List Process → Objects → List ℕ → World
  counting_world xs objects blocked = record (world_blocked xs objects blocked) { processes = map counting_entry xs }

  is_counting : (xs : List Process) (objects : Objects) (blocked : List ℕ) → IsSound (world_blocked xs objects blocked)
      → own_rested (own_beside xs objects blocked) ≡ record { world = counting_world xs objects blocked; free = map free_entry xs }
  is_counting xs objects blocked sound =
      (λ i. record { world = rested_counts (world_blocked xs objects blocked) sound i; free = map free_entry xs })
      ∙ λ i. record { world = record (world_blocked xs objects blocked) { processes = counting_entries xs i }; free = map free_entry xs }

  pub same_for_rest : (map counted ps ≡ map counted qs) → LookSame r s → b ≡ c → own_rested (own_beside ps r b) ≡ own_rested (own_beside qs s c)
  same_for_rest same looks blocked = is_counting ps r b one ∙ ((λ i. record {
    world = record {
      processes = (sym (values_counted ps) ∙ (ap (map (λ x. (x.0, x.1.0))) same ∙ values_counted qs)) i;
      objects = looks.objects i;
      waits = looks.waits i;
      blocked = blocked i;
      next_koid = looks.next_koid i;
      waits_made = looks.waits_made i;
    };
    free = (sym (free_counted ps) ∙ (ap (map (λ x. (x.0, x.1.1))) same ∙ free_counted qs)) i;
  }) ∙ sym (is_counting qs s c two))

  pub record IsSame : Type 0 where
    pub processes : map counted ps ≡ map counted qs
    pub looks : LookSame r s
    pub blocked : b ≡ c

  pub same_of_rest : own_rested (own_beside ps r b) ≡ own_rested (own_beside qs s c) → IsSame
  same_of_rest same =
      let worlds : ◌≡◌ {A = OwnWorld} (record { world = counting_world ps r b; free = map free_entry ps })
      (record { world = counting_world qs s c; free = map free_entry qs }) =
      sym (is_counting ps r b one) ∙ (same ∙ is_counting qs s c two) in
      record {
        processes = sym (counted_joined ps) ∙ ((λ i. joined (worlds i).world.processes (worlds i).free) ∙ counted_joined qs);
        looks = record {
          objects = λ i. (worlds i).world.objects;
          next_koid = λ i. (worlds i).world.next_koid;
          waits = λ i. (worlds i).world.waits;
          waits_made = λ i. (worlds i).world.waits_made;
        };
        blocked = λ i. (worlds i).world.blocked;
      }
