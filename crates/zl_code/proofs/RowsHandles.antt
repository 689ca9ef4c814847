-- Worlds whose handles are sound, and worlds whose handles aren't, by computation.
use Rattle.zl_code.proofs.Common.{ChannelEnd, Entry, HandlesAreSound, IsTrue, Map, None, Option, Process, READ, Some, World, [], cases_Bool, false, get}
use Rattle.zl_code.proofs.Common.{has_default_rights, in_order, inl, inr, none-some, refl, same_Some, subst, sym, true, true≢false, ℕ, ◌+◌, ◌==◌, ◌∙◌, ◌∷◌, ◌≡◌}
use Rattle.zl_code.proofs.RowsWords.{world_of, process_of, event_with, job_with, FIRST_RIGHTS}

-- ---- rights

-- the first handle to an event has just the default rights; one more right, to read, is too much
default_is_fine : has_default_rights (event_with FIRST_RIGHTS) ≡ true
default_is_fine = refl

no_right_is_fine : has_default_rights (event_with 0) ≡ true
no_right_is_fine = refl

read_is_too_much : has_default_rights (event_with (FIRST_RIGHTS + READ)) ≡ false
read_is_too_much = refl

-- what is too much for an event is fine for a job
read_is_fine_of_a_job : has_default_rights (job_with (FIRST_RIGHTS + READ)) ≡ true
read_is_fine_of_a_job = refl

-- ---- values

at_two_values : in_order ((4, event_with 0) ∷ (7, event_with 0) ∷ []) ≡ true
at_two_values = refl

at_one_value : in_order ((7, event_with 0) ∷ (7, event_with FIRST_RIGHTS) ∷ []) ≡ false
at_one_value = refl

-- ---- worlds

-- process 2 has this table
abbrev with_table : Map Entry → World
with_table m = world_of [] (process_of [] m None)

-- in the queue of a channel end there is a message with this handle alone
abbrev with_queued : Entry → World
with_queued e = record (with_table []) { objects = (3, record { body = ChannelEnd 4 (record { bytes = []; handles = e ∷ [] } ∷ []); raised = 0 }) ∷ [] }

-- what stands at the one key
only : {X : Type 0} (P : X → Type 0) (j : ℕ) (v : X) → P v → (k : ℕ) (x : X) → get ((j, v) ∷ []) k ≡ Some x → P x
unfolding get
only P j v fine k x there = elim (cases_Bool (j == k)) as (λ _. P x) [
  | inl here ↦ subst P (same_Some v x (rw here at there)) fine
  | inr other ↦ absurd (none-some x (rw other at there))
]

-- a queued handle with the default rights is sound
queued_is_sound : HandlesAreSound (with_queued (event_with FIRST_RIGHTS))
unfolding get
queued_is_sound = record {
  processes = refl;
  objects = refl;
  places = only (λ q. IsTrue (in_order q.handles)) 2 (process_of [] [] None) refl;
  rights = λ p v q e there at.
      absurd (none-some e (sym (only (λ (r : Process). ◌≡◌ {A = Option Entry} (get r.handles v) None) 2 (process_of [] [] None) refl p q there) ∙ at));
  queued = only _ 3 _ refl;
}

two_at_one_value : HandlesAreSound (with_table ((7, event_with 0) ∷ (7, event_with 0) ∷ [])) → ⊥
unfolding get
two_at_one_value s = true≢false (sym (s.places 2 (process_of [] ((7, event_with 0) ∷ (7, event_with 0) ∷ []) None) refl))

too_much_in_a_table : HandlesAreSound (with_table ((7, event_with READ) ∷ [])) → ⊥
unfolding get
too_much_in_a_table s = true≢false (sym (s.rights 2 7 (process_of [] ((7, event_with READ) ∷ []) None) (event_with READ) refl refl))

too_much_in_a_queue : HandlesAreSound (with_queued (event_with READ)) → ⊥
unfolding get
too_much_in_a_queue s = true≢false (sym (s.queued 3 _ refl))
