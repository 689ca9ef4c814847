-- A worked world that the objects fit: handles in a table and in a queue, and one that has gone and still counts.
use Rattle.zl_objects.proofs.Common.{Agrees, Created, Entry, IsExact, IsTrue, Map, Message, None, Object, Process, Ready, Some, World, [], all_killed, arith}
use Rattle.zl_objects.proofs.Common.{cases_Bool, count_by, descendants, each, eqb-true, false, false≢true, get, has_key, inl, inr, is_below_by, is_in_job}
use Rattle.zl_objects.proofs.Common.{is_process, nat_tests, new_object, none-some, refl, same_Some, subst, sym, with_objects, ℕ, ◌+◌, ◌<◌, ◌==◌, ◌∷◌, ◌≡◌, ◌⊎◌}
use Rattle.zl_rights.specs.declared.kind.Kind.TheVariants as kind
use Rattle.zl_rights.specs.Counts.{handles_to}
use Rattle.zl_objects.specs.declared.object.Body.TheVariants as body
use Rattle.zl_objects.specs.declared.object.Life.TheVariants as life
use Rattle.zl_jobs.specs.Jobs.{job_within_here, root_job}

-- a handle to the object k
abbrev handle : ℕ → Entry
handle k = record { koid = k; kind = kind.Channel; rights = record { 0 = 1 } }

-- a message with a handle to the object k
abbrev message : ℕ → Message
message k = record { bytes = []; handles = handle k ∷ [] }

-- at the end 3 wait a handle to the event 4 and one to the end itself; the process 5 runs in the root job,
-- and 7 was made in the job 6 below it
abbrev objects : Map Object
objects =
    (1, new_object (body.Job root_job) 0) ∷ (3, new_object (body.ChannelEnd 2 (message 4 ∷ message 3 ∷ [])) 2) ∷ (4, new_object body.Event 1)
    ∷ (5, new_object (body.Process 1 life.Running) 1) ∷ (6, new_object (body.Job (job_within_here 1 root_job)) 0)
    ∷ (7, new_object (body.Process 6 life.Created) 1) ∷ []

abbrev process : Process
process = record {
  program = 0;
  cpu = record { counter = 0; registers = []; memory = []; slots = []; counters = [] };
  state = Ready;
  handles = (1, handle 5) ∷ (2, handle 7) ∷ [];
  last = None;
}

abbrev made : Process
made = record process { state = Created; handles = [] }

-- the process 5 has handles to itself and to 7, and one to the end 3 has just gone
abbrev world : World
world = record { processes = (5, process) ∷ (7, made) ∷ []; objects = []; waits = []; blocked = []; next_koid = 8; waits_made = 0 }

-- in the root job stand the process 5, the job 6 and the process 7 in that; 0 is no job, so the event 4 doesn't stand below it
below_root : descendants objects 1 ≡ 5 ∷ 6 ∷ 7 ∷ []
unfolding descendants is_below_by get
below_root = refl

below_zero : descendants objects 0 ≡ []
unfolding descendants
below_zero = refl

-- nor is anything killed for it
killed_zero : all_killed objects 0 ≡ objects
unfolding all_killed each
killed_zero = refl

-- what is true of each entry
abbrev Each : (ℕ → Object → Type 0) → Map Object → Type 0
Each P [] = Unit {0}
Each P (e ∷ m) = P e.0 e.1 × Each P m

each_at : (P : ℕ → Object → Type 0) (m : Map Object) → Each P m → (k : ℕ) (o : Object) → get m k ≡ Some o → P k o
unfolding get
each_at P [] all k o at = absurd (none-some o at)
each_at P (e ∷ m) all k o at = elim (cases_Bool (e.0 == k)) as (λ _. P k o) [
  | inl here ↦ subst (λ (x : Object). P k x) (same_Some e.1 o (rw here at at)) (subst (λ (j : ℕ). P j e.1) (eqb-true e.0 k here) all.0)
  | inr apart ↦ each_at P m all.1 k o (rw apart at at)
]

pub worked : IsExact world (3 ∷ []) objects
unfolding handles_to get is_process
worked = record {
  in_order = refl;
  no_zero = λ k there. positive k there (cases_Bool (0 == k));
  counted = each_at (λ k o. o.handles ≡ handles_to (with_objects world objects) k + count_by (λ j. j == k) (3 ∷ [])) objects
      (refl, (refl, (refl, (refl, (refl, (refl, tt))))));
  named = λ k some. named k some (cases_Bool (3 == k)) (cases_Bool (4 == k)) (cases_Bool (5 == k)) (cases_Bool (7 == k));
  agrees = each_at (λ k o. Agrees world k o.body) objects
      (refl, (refl, (refl, (record { running = refl; living = refl; over = refl }, (refl, (record { running = refl; living = refl; over = refl }, tt))))));
  in_jobs = each_at (λ k o. IsTrue (is_in_job objects o.body)) objects (refl, (refl, (refl, (refl, (refl, (refl, tt))))));
}
  where
    positive : (k : ℕ) → IsTrue (has_key objects k) → IsTrue (0 == k) ⊎ ((0 == k) ≡ false) → 0 < k
    positive k there (inl zero) = absurd (false≢true (subst (λ (j : ℕ). IsTrue (has_key objects j)) (sym (eqb-true 0 k zero)) there))
    positive k there (inr apart) = grind (arith, nat_tests, apart)

    named : (k : ℕ) → 0 < handles_to (with_objects world objects) k + count_by (λ j. j == k) (3 ∷ []) → IsTrue (3 == k) ⊎ ((3 == k) ≡ false)
        → IsTrue (4 == k) ⊎ ((4 == k) ≡ false) → IsTrue (5 == k) ⊎ ((5 == k) ≡ false) → IsTrue (7 == k) ⊎ ((7 == k) ≡ false) → IsTrue (has_key objects k)
    named k some (inl three) four five seven = subst (λ (j : ℕ). IsTrue (has_key objects j)) (eqb-true 3 k three) refl
    named k some (inr no3) (inl four) five seven = subst (λ (j : ℕ). IsTrue (has_key objects j)) (eqb-true 4 k four) refl
    named k some (inr no3) (inr no4) (inl five) seven = subst (λ (j : ℕ). IsTrue (has_key objects j)) (eqb-true 5 k five) refl
    named k some (inr no3) (inr no4) (inr no5) (inl seven) = subst (λ (j : ℕ). IsTrue (has_key objects j)) (eqb-true 7 k seven) refl
    named k some (inr no3) (inr no4) (inr no5) (inr no7) = absurd (omega (arith, rw (no3, no4, no5, no7) at some))
