-- How the ready list is brought up to date. No public clause cites this module.
use Rattle.std.specs.Prelude.{true, ℕ, ◌≡◌, Bool, ◌&&◌, not, ◌==◌, List, [], ◌∷◌, ◌++◌, if◌then◌else◌}
use Rattle.std.specs.List.{filter, list_any}
use Rattle.zl_code.specs.Common.{World, is_process, is_ready}
use Rattle.zl_calls.specs.declared.told.Woke.{Woke}
use Rattle.zl_calls.specs.declared.told.Told.TheVariants as told
use Rattle.zl_calls.specs.Woke.{pids_told, tells_all}
use Rattle.zl_calls.specs.declared.told.Told.{Told}
use Rattle.zl_objects.specs.Below.{is_one_of}
use Rattle.zl_objects.specs.declared.below.TaskList.{TaskList}
use Rattle.zl_sched.specs.Ready.{pids_of, is_in, others_of, still_ready, itself_ready, times_in}

-- the process alone, where it is so
abbrev pub one_if : Bool → ℕ → List ℕ
one_if is_so p = if is_so then p ∷ [] else []

-- q is ready, and neither p nor marked nor among those that stayed in the list
abbrev pub joins : World → ℕ → List ℕ → List ℕ → ℕ → Bool
joins after p out stayed q = is_process after is_ready q && (not (list_any (λ x. x == q) stayed) && (not (is_in q out) && not (q == p)))

-- all of these, by koid
abbrev pub joining : World → ℕ → List ℕ → List ℕ → List ℕ
joining after p out stayed = filter (λ q. joins after p out stayed q) (pids_of after)

-- the list behind those that stayed in it, then those that join it, then p if it is ready
abbrev pub joined_by : World → ℕ → List ℕ → List ℕ → List ℕ
joined_by after p out stayed = stayed ++ (joining after p out stayed ++ itself_ready after p)

-- the list without p, and with all these
abbrev pub requeued : World → ℕ → List ℕ → List ℕ → List ℕ
requeued after p out list = joined_by after p out (still_ready after p list)

-- those that join the ones that stayed are those told, but for p, if all are told
abbrev pub AreJoining : World → ℕ → List ℕ → List ℕ → Woke → Type 0
AreJoining after p out stayed who =
    tells_all who ≡ true → (k : ℕ) → times_in k (joining after p out stayed) ≡ times_in k (others_of p (pids_told who))

-- the list without those of these that aren't ready
abbrev pub without_ended : World → List ℕ → List ℕ → List ℕ
without_ended after ks list = filter (λ q. not (is_one_of q ks && not (is_process after is_ready q))) list

-- of the others of the list those leave it that were killed, if these are told
abbrev pub LeaveTold : World → ℕ → List ℕ → TaskList → Type 0
LeaveTold after p list killed = killed.whole ≡ true → still_ready after p list ≡ without_ended after killed.koids.items (others_of p list)

-- what a step of p tells of the list behind it
abbrev pub IsTold : World → ℕ → List ℕ → List ℕ → Told → Type 0
IsTold after p out list told.Same = requeued after p out list ≡ others_of p list ++ (p ∷ [])
IsTold after p out list (told.Woke who) = (still_ready after p list ≡ others_of p list) × AreJoining after p out (still_ready after p list) who
IsTold after p out list (told.Killed killed) = LeaveTold after p list killed.tasks × AreJoining after p out (still_ready after p list) killed.woke
