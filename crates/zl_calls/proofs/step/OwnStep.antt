-- The step that the lab itself does, once processes woke.
use Rattle.zl_calls.proofs.Common.{Bool, DoesNext, DoesOwn, Free, FreeBy, IsOwnDone, IsTrue, Library, List, Map, None, Objects, Option, OwnWorld, Process, Some}
use Rattle.zl_calls.proofs.Common.{StepsOwn, TraceItem, World, [], ap, cases_Bool, eq-eqb, eqb-true, false, free_entry, free_of, get, held, if◌then◌else◌, inl}
use Rattle.zl_calls.proofs.Common.{inr, is_sorted, length, length-map, lives, living, map, nat_cmp, new_free, none-some, option_map, own_beside, process_at}
use Rattle.zl_calls.proofs.Common.{process_entry, process_value, refl, same_Some, sorted_parts, state_value, sym, wakes, world_blocked, ℕ, ◌==◌, ◌∙◌, ◌∷◌, ◌≡◌}
use Rattle.zl_calls.proofs.Common.{◌⊎◌}
use Rattle.zl_code.proofs.Common.{next_for}
use Rattle.zl_code.specs.Own.{free_in}
use Rattle.zl_code.specs.OwnSteps.{own_act, own_behind, own_ending}
use Rattle.zl_calls.proofs.lists.Updates.{missing_behind}
use Rattle.zl_calls.proofs.processes.Freed.{entry_there}

-- those of each process of a list, by these
abbrev given_by : (ℕ → Free) → List Process → Map Free
given_by f ps = map (λ e. (e.0, if lives e.1.state then f e.0 else new_free)) (map process_entry ps)

-- in order of their koids, they are those by koid
free_is : (ps : List Process) → IsTrue (is_sorted nat_cmp (map process_entry ps)) → (f : ℕ → Free) → FreeBy ps f → map free_entry ps ≡ given_by f ps
unfolding get
free_is [] sorted f by = refl
free_is (p ∷ ps) sorted f by =
    let behind = free_is ps (sorted_parts (process_entry p) (map process_entry ps) sorted).1 f (λ k. by_key k (cases_Bool (p.pid == k))) in
    λ i. (p.pid, here i) ∷ behind i
  where
    here : free_of p ≡ living f p.pid (process_value p)
    here = same_Some _ _ (rw (eq-eqb p.pid p.pid refl) at (by p.pid))

    missing : (k : ℕ) (o : Option Process) → get (map process_entry ps) k ≡ option_map process_value o → get (map process_entry ps) k ≡ None → o ≡ None
    missing k None at none = refl
    missing k (Some q) at none = absurd (none-some (process_value q) (sym none ∙ at))

    by_key : (k : ℕ) → (IsTrue (p.pid == k)) ⊎ ((p.pid == k) ≡ false) → get (map free_entry ps) k ≡ option_map (living f k) (get (map process_entry ps) k)
    by_key k (inr apart) = rw apart at (by k)
    by_key k (inl its) =
        let none : get (map process_entry ps) k ≡ None = missing_behind (process_entry p) (map process_entry ps) sorted k (eqb-true p.pid k its) in
        entry_there free_of ps k ∙ rw (none, missing k (process_at ps k) (entry_there process_value ps k) none) refl

-- what is told of lives and values alone is the same of those of which these stay
by_held : {X : Type 0} (told : ℕ × (Bool × Free) → X) (ps qs : List Process) → map held qs ≡ map held ps → map (λ q. told (held q)) qs ≡ map
    (λ p. told (held p)) ps
by_held told ps qs same = sym (fused qs) ∙ (ap (map told) same ∙ fused ps)
  where
    fused : (ps : List Process) → map told (map held ps) ≡ map (λ p. told (held p)) ps
    fused [] = refl
    fused (p ∷ ps) = ap (λ xs. told (held p) ∷ xs) (fused ps)

-- there are as many
pub same_length : {X : Type 0} (told : Process → X) (ps qs : List Process) → map told qs ≡ map told ps → length qs ≡ length ps
same_length told ps qs same = sym (length-map qs told) ∙ (ap length same ∙ length-map ps told)

given_is : (f : ℕ → Free) (ps : List Process) → given_by f ps ≡ map (λ (p : Process). (p.pid, if lives (state_value p.state) then f p.pid else new_free)) ps
given_is f [] = refl
given_is f (p ∷ ps) = ap (λ xs. (p.pid, if lives (state_value p.state) then f p.pid else new_free) ∷ xs) (given_is f ps)

-- so they are once processes woke
free_awake : (ps qs : List Process) → IsTrue (is_sorted nat_cmp (map process_entry ps)) → map held qs ≡ map held ps → (f : ℕ → Free) → FreeBy ps f
    → given_by f qs ≡ map free_entry qs
free_awake ps qs sorted same f by =
    given_is f qs ∙ (by_held (λ h. (h.0, if h.1.0 then f h.0 else new_free)) ps qs same
    ∙ (sym (given_is f ps) ∙ (sym (free_is ps sorted f by) ∙ sym (by_held (λ h. (h.0, if h.1.0 then h.1.1 else new_free)) ps qs same))))

module _ (lib : Library) (ps : List Process) (r : Objects) (blocked : List ℕ) (pid : ℕ) (x : TraceItem) where
  pub own_stepped : (ps1 ps2 : List Process) (r2 : Objects) (blocked2 : List ℕ) (left : World) → IsTrue (is_sorted nat_cmp (map process_entry ps1))
      → map held ps2 ≡ map held ps1 → DoesNext lib (world_blocked ps r blocked) pid x left → world_blocked ps2 r2 blocked2 ≡ wakes left
      → DoesOwn lib (own_beside ps r blocked) pid x left ps1 → StepsOwn lib (own_beside ps r blocked) pid x (own_beside ps2 r2 blocked2)
  own_stepped ps1 ps2 r2 blocked2 left sorted same does awake own plain =
      rw (does.acted.is_there, does.acted.is_ready) (by_done (own does.acted.process does.acted.is_there plain))
    where
      by_done : IsOwnDone lib (own_beside ps r blocked) pid (next_for lib does.acted.process) x left ps1
          → ◌≡◌ {A = Option (OwnWorld × TraceItem)} (Some (own_behind (own_act lib (own_beside ps r blocked) pid (next_for lib does.acted.process))))
          (Some (own_beside ps2 r2 blocked2, x))
      by_done done =
          let act = own_act lib (own_beside ps r blocked) pid (next_for lib does.acted.process) in
          let ends : own_ending act.world ≡ world_blocked ps2 r2 blocked2 = sym (awake ∙ ap wakes done.world) in
          let free : free_in (own_ending act.world) act.free ≡ map free_entry ps2 =
          ap (λ (w : World). free_in w act.free) ends ∙ free_awake ps1 ps2 sorted same act.free done.free in
          λ i. Some (record { world = ends i; free = free i }, sym done.item i)
