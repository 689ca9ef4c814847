-- Processes that were made and not started have no handles, nor have those that are over; and each process stands where its koid is.
use Rattle.zl_calls.proofs.Common.{AreClosed, IsSound, IsTrue, List, Objects, Process, Some, State, [], eq-eqb, false, false≢true, get, is_created, is_sorted}
use Rattle.zl_calls.proofs.Common.{lives, map, nat_cmp, none-some, process_entry, process_value, refl, runs, same_Some, slice_get, sorted_parts, state_value}
use Rattle.zl_calls.proofs.Common.{suc, sym, true, world_blocked, zero, ℕ, ◌∷◌, ◌≡◌}
use Rattle.zl_calls.specs.declared.process.State.TheVariants as state
use Rattle.zl_calls.proofs.lists.Updates.{found_behind}

pub get_placed : (ps : List Process) → IsTrue (is_sorted nat_cmp (map process_entry ps)) → (n : ℕ) (q : Process) → slice_get ps n ≡ Some q
    → get (map process_entry ps) q.pid ≡ Some (process_value q)
unfolding get
get_placed [] sorted n q at = absurd (none-some q at)
get_placed (p ∷ ps) sorted zero q at = rw (← same_Some p q at, eq-eqb p.pid p.pid refl) refl
get_placed (p ∷ ps) sorted (suc n) q at =
    found_behind (process_entry p) (map process_entry ps) sorted q.pid (process_value q)
    (get_placed ps (sorted_parts (process_entry p) (map process_entry ps) sorted).1 n q at)

not_running : (s : State) → is_created (state_value s) ≡ true → runs (state_value s) ≡ false
not_running state.Created h = refl
not_running _ h = absurd (false≢true h)

pub are_bare : (ps : List Process) (r : Objects) (blocked : List ℕ) → IsTrue (is_sorted nat_cmp (map process_entry ps))
    → IsSound (world_blocked ps r blocked) → (n : ℕ) (q : Process) → slice_get ps n ≡ Some q
    → is_created (state_value q.state) ≡ true → q.table.entries ≡ []
are_bare ps r blocked sorted sound n q at created = ((sound.tables q.pid (process_value q) (get_placed ps sorted n q at)).idle (not_running q.state created)).0

pub are_closed : (ps : List Process) (r : Objects) (blocked : List ℕ) → IsTrue (is_sorted nat_cmp (map process_entry ps))
    → IsSound (world_blocked ps r blocked) → AreClosed ps
are_closed ps r blocked sorted sound n q at over =
    (sound.tables q.pid (process_value q) (get_placed ps sorted n q at)).idle (is_idle q.state over)
  where
    is_idle : (s : State) → lives (state_value s) ≡ false → runs (state_value s) ≡ false
    is_idle (state.Ended code) over = refl
    is_idle state.Gone over = refl
    is_idle _ over = absurd (false≢true (sym over))
