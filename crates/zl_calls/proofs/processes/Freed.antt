-- The values that processes have for new handles, as one of them changes.
use Rattle.zl_calls.proofs.Common.{Bool, ClosesAllEnded, ClosesEnded, Free, FreeBy, IsTrue, List, Map, None, Object, Objects, Option, Process, Some, State, []}
use Rattle.zl_calls.proofs.Common.{ap, cases_Bool, cond, ended_if, ended_within, eqb-true, false, free_at, free_entry, free_of, free_or, get, get-update}
use Rattle.zl_calls.proofs.Common.{has_key, if◌then◌else◌, inl, inr, is_within_here, left_beside, left_state, lives, living, map, new_free, option_map}
use Rattle.zl_calls.proofs.Common.{process_at, process_entry, process_value, refl, same_Some, set, slice_get, slice_set, state_value, subst, suc, sym, true}
use Rattle.zl_calls.proofs.Common.{zero, ℕ, ⊤, ◌&&◌, ◌++◌, ◌==◌, ◌∙◌, ◌∷◌, ◌≡◌, ◌⊎◌}
use Rattle.std.specs.Prelude.{slice_index_or}
use Rattle.zl_calls.specs.calls.Task.{is_over, lives_on, none_left, one_more}
use Rattle.zl_calls.specs.declared.process.State.TheVariants as state
use Rattle.zl_calls.proofs.calls.Answered.{IsWrite}
use Rattle.zl_calls.proofs.processes.Written.{get_after}

-- the map has the first with the koid
pub entry_there : {Y : Type 0} (value : Process → Y) (ps : List Process) (k : ℕ)
    → get (map (λ (p : Process). (p.pid, value p)) ps) k ≡ option_map value (process_at ps k)
unfolding get
entry_there value [] k = refl
entry_there {Y} value (q ∷ ps) k =
    elim (cases_Bool (q.pid == k)) as (λ _. get (map (λ (p : Process). (p.pid, value p)) (q ∷ ps)) k ≡ option_map value (process_at (q ∷ ps) k)) [
      | inl here ↦ rw here refl
      | inr apart ↦ rw apart (entry_there value ps k)
    ]

-- one of which this stays changes none of it
pub set_unseen : {X : Type 0} (value : Process → X) (ps : List Process) (place : ℕ) (p p2 : Process) → p ≡ slice_index_or ps place p → value p2 ≡ value p
    → map value (set ps place p2) ≡ map value ps
set_unseen value [] place p p2 there same = refl
set_unseen value (q ∷ ps) zero p p2 there same = ap (λ e. e ∷ map value ps) (same ∙ ap value there)
set_unseen value (q ∷ ps) (suc n) p p2 there same = ap (λ es. value q ∷ es) (set_unseen value ps n p p2 there same)

-- ---- by a function of koids

-- their own function says so
pub own_free : (ps : List Process) → FreeBy ps (free_at (map free_entry ps))
own_free ps k =
    entry_there free_of ps k ∙ (by_process (process_at ps k) (ap free_or (entry_there free_of ps k))
    ∙ sym (ap (option_map (living (free_at (map free_entry ps)) k)) (entry_there process_value ps k)))
  where
    by_living : (q : Process) (b : Bool) → lives (state_value q.state) ≡ b → free_at (map free_entry ps) k ≡ (if b then q.table.free else new_free)
        → (if b then q.table.free else new_free) ≡ (if b then free_at (map free_entry ps) k else new_free)
    by_living q true live is = sym is
    by_living q false live is = refl

    by_process : (o : Option Process) → free_at (map free_entry ps) k ≡ free_or (option_map free_of o)
        → option_map free_of o ≡ option_map (living (free_at (map free_entry ps)) k) (option_map process_value o)
    by_process None is = refl
    by_process (Some q) is = ap (λ (x : Free). Some x) (by_living q (lives (state_value q.state)) refl is)

module _ {before after : List Process} {p p2 : Process} (write : IsWrite before after p p2) where
  -- one process is written, and the function says the same of all others
  pub free_written : (f : ℕ → Free) → (lives (state_value p2.state) ≡ true → p2.table.free ≡ f p.pid)
      → ((k : ℕ) → (p.pid == k) ≡ false → f k ≡ free_at (map free_entry before) k) → FreeBy after f
  free_written f here others k =
      rw (write.frees, get-update (map free_entry before) p.pid (λ _. free_of p2) k, get_after write k) (by_key (cases_Bool (p.pid == k)))
    where
      by_living : (b : Bool) → lives (state_value p2.state) ≡ b → (if b then p2.table.free else new_free) ≡ (if b then f p.pid else new_free)
      by_living true is = here is
      by_living false is = refl

      by_key : (IsTrue (p.pid == k)) ⊎ ((p.pid == k) ≡ false)
          → (if p.pid == k then option_map (λ (_ : Free). free_of p2) (get (map free_entry before) k) else get (map free_entry before) k)
          ≡ option_map (living f k) (cond (p.pid == k) (Some (process_value p2)) (get (map process_entry before) k))
      by_key (inl at) = rw (at, ← eqb-true p.pid k at, write.free_there) (ap (λ (x : Free). Some x) (by_living (lives (state_value p2.state)) refl))
      by_key (inr apart) = rw apart (own_free before k
          ∙ ap (λ (x : Free). option_map (λ q. if lives q.state then x else new_free) (get (map process_entry before) k)) (sym (others k apart)))

-- ---- processes that become others, which keep their values if they live

-- the process q is p, or is over, as far as the values go
abbrev IsKept : Process → Process → Type 0
IsKept p q = (q.pid ≡ p.pid) × ((f : Free) → free_of p ≡ (if lives (state_value p.state) then f else new_free)
    → free_of q ≡ (if lives (state_value q.state) then f else new_free))

abbrev AreKept : List Process → List Process → Type 0
AreKept [] [] = ⊤
AreKept (p ∷ ps) (q ∷ qs) = IsKept p q × AreKept ps qs
AreKept _ _ = ⊥

kept_at : (ps qs : List Process) (f : ℕ → Free) (k : ℕ) → AreKept ps qs → get (map free_entry ps) k ≡ option_map (living f k) (get (map process_entry ps) k)
    → get (map free_entry qs) k ≡ option_map (living f k) (get (map process_entry qs) k)
unfolding get
kept_at [] [] f k kept same = refl
kept_at [] (q ∷ qs) f k kept same = absurd kept
kept_at (p ∷ ps) [] f k kept same = absurd kept
kept_at (p ∷ ps) (q ∷ qs) f k kept same =
    elim (cases_Bool (p.pid == k)) as (λ _. get (map free_entry (q ∷ qs)) k ≡ option_map (living f k) (get (map process_entry (q ∷ qs)) k)) [
      | inl here ↦ rw (kept.0.0, here) (ap (λ (x : Free). Some x) (kept.0.1 (f k) (same_Some _ _ (rw here at same))))
      | inr apart ↦ rw (kept.0.0, apart) (kept_at ps qs f k kept.1 (rw apart at same))
    ]

over_new : (q : Process) (f : Free) → lives (state_value q.state) ≡ false → free_of q ≡ (if lives (state_value q.state) then f else new_free)
over_new q f over = rw over refl

-- one of them is another
same_kept : (ps : List Process) → AreKept ps ps
same_kept [] = tt
same_kept (q ∷ ps) = ((refl, λ f same. same), same_kept ps)

set_kept : (ps : List Process) (n : ℕ) (c c2 : Process) → slice_get ps n ≡ Some c → IsKept c c2 → AreKept ps (slice_set ps n c2)
set_kept [] n c c2 at kept = tt
set_kept (q ∷ ps) zero c c2 at kept = (subst (λ (x : Process). IsKept x c2) (sym (same_Some q c at)) kept, same_kept ps)
set_kept (q ∷ ps) (suc n) c c2 at kept = ((refl, λ f same. same), set_kept ps n c c2 at kept)

pub set_free_by : (ps : List Process) (n : ℕ) (c c2 : Process) → slice_get ps n ≡ Some c → IsKept c c2 → (f : ℕ → Free) → FreeBy ps f
    → FreeBy (slice_set ps n c2) f
set_free_by ps n c c2 at kept f by k = kept_at ps (slice_set ps n c2) f k (set_kept ps n c c2 at kept) (by k)

-- one comes behind them
appended_at : (ps : List Process) (q : Process) (f : ℕ → Free) (k : ℕ) → free_of q ≡ (if lives (state_value q.state) then f q.pid else new_free)
    → get (map free_entry ps) k ≡ option_map (living f k) (get (map process_entry ps) k)
    → get (map free_entry (ps ++ q ∷ [])) k ≡ option_map (living f k) (get (map process_entry (ps ++ q ∷ [])) k)
unfolding get
appended_at [] q f k one same = elim (cases_Bool (q.pid == k)) as
    (λ _. get (map free_entry (q ∷ [])) k ≡ option_map (living f k) (get (map process_entry (q ∷ [])) k)) [
      | inl here ↦ rw here (ap (λ (x : Free). Some x)
          (subst (λ j. free_of q ≡ (if lives (state_value q.state) then f j else new_free)) (eqb-true q.pid k here) one))
      | inr apart ↦ rw apart refl
    ]
appended_at (p ∷ ps) q f k one same =
    elim (cases_Bool (p.pid == k)) as (λ _. get (map free_entry (p ∷ ps ++ q ∷ [])) k ≡ option_map (living f k)
    (get (map process_entry (p ∷ ps ++ q ∷ [])) k)) [
      | inl here ↦ rw here (rw here at same)
      | inr apart ↦ rw apart (appended_at ps q f k one (rw apart at same))
    ]

pub appended_by : (ps : List Process) (q : Process) (f : ℕ → Free) → FreeBy ps f
    → free_of q ≡ (if lives (state_value q.state) then f q.pid else new_free) → FreeBy (ps ++ q ∷ []) f
appended_by ps q f by one k = appended_at ps q f k one (by k)

-- they go with their objects
left_one : (there : Bool) (s : State) (t f : Free) → (if lives (state_value s) then t else new_free) ≡ (if lives (state_value s) then f else new_free)
    → (if lives (state_value (left_state there s)) then t else new_free) ≡ (if lives (state_value (left_state there s)) then f else new_free)
left_one true state.Created t f same = same
left_one false state.Created t f same = refl
left_one there state.Ready t f same = same
left_one there state.Gone t f same = same
left_one there (state.Blocked awaited registers) t f same = same
left_one there (state.Ended code) t f same = same

left_kept : (os : Map Object) (ps : List Process) → AreKept ps (map (left_beside os) ps)
left_kept os [] = tt
left_kept os (q ∷ ps) = ((refl, left_one (has_key os q.pid) q.state q.table.free), left_kept os ps)

pub left_free_by : (os : Map Object) (ps : List Process) (f : ℕ → Free) → FreeBy ps f → FreeBy (map (left_beside os) ps) f
left_free_by os ps f by k = kept_at ps (map (left_beside os) ps) f k (left_kept os ps) (by k)

-- they are killed
ended_kept : (killed : Bool) (q : Process) → IsKept q (ended_if killed q)
ended_kept true q = (refl, λ f same. refl)
ended_kept false q = (refl, λ f same. same)

within_kept : (r : Objects) (t : ℕ) (ps : List Process) → AreKept ps (map (ended_within r t) ps)
within_kept r t [] = tt
within_kept r t (q ∷ ps) = (ended_kept (lives (state_value q.state) && is_within_here r.objects t q.pid) q, within_kept r t ps)

closed_kept : (p q : Process) (r r2 : Objects) → ClosesEnded p r q r2 → IsKept p q
closed_kept _ _ _ _ (lives_on p r alive) = (refl, λ f same. same)
closed_kept _ _ _ _ (is_over p q r r2 over same none none_last closes ends) =
    (ap (λ (x : Process). x.pid) same, λ f was. over_new q f (ap (λ (x : Process). lives (state_value x.state)) same ∙ over))

closes_kept : (ps qs : List Process) (r r2 : Objects) → ClosesAllEnded ps r qs r2 → AreKept ps qs
closes_kept _ _ _ _ (none_left r) = tt
closes_kept _ _ _ _ (one_more p q ps qs r mid r2 one rest) = (closed_kept p q r mid one, closes_kept ps qs mid r2 rest)

pub killed_free_by : (r mid r2 : Objects) (t : ℕ) (ps qs : List Process) → ClosesAllEnded (map (ended_within r t) ps) mid qs r2 → (f : ℕ → Free) → FreeBy ps f
    → FreeBy qs f
killed_free_by r mid r2 t ps qs closes f by k =
    kept_at (map (ended_within r t) ps) qs f k (closes_kept (map (ended_within r t) ps) qs mid r2 closes)
    (kept_at ps (map (ended_within r t) ps) f k (within_kept r t ps) (by k))
