-- In a world that boots no process is blocked, and no wait is registered.
use Rattle.zl_calls.proofs.Common.{AreBlocked, Bool, IsBoot, IsSound, IsTrue, IsUnwatched, Library, List, Objects, Option, Process, ProcessValue, Statement, []}
use Rattle.zl_calls.proofs.Common.{arith, boot_sound, false, if◌then◌else◌, is_blocked, is_process, state_passes, subst, sym, true, world_blocked, world_value}
use Rattle.zl_calls.proofs.Common.{ℕ, ◌≡◌}

pub none_blocked : (lib : Library) (statements : List Statement) (ps : List Process) (r : Objects) (blocked : List ℕ) → IsBoot lib statements (world_value ps r)
    → blocked ≡ [] → AreBlocked ps blocked
unfolding is_process
none_blocked lib statements ps r blocked boots none =
    let sound : IsSound (world_value ps r) = boot_sound lib statements (world_value ps r) boots in
    record {
      once = λ k. rw none (sound.blocked k);
      counters = λ k p at h. absurd (by_test (is_blocked p.state) h
          (subst (λ (o : Option ProcessValue). ◌≡◌ {A = ℕ} 0 (if state_passes is_blocked o then 1 else 0)) at (sound.blocked k)));
    }
  where
    by_test : (b : Bool) → IsTrue b → ◌≡◌ {A = ℕ} 0 (if b then 1 else 0) → ⊥
    by_test true h count = omega (arith, count)
    by_test false h count = false_true h
      where
        false_true : IsTrue false → ⊥
        false_true e = cc

-- it is the world with its waits and blocked processes
pub booted_world : (ps : List Process) (r : Objects) (blocked : List ℕ) → IsUnwatched r → blocked ≡ [] → world_value ps r ≡ world_blocked ps r blocked
booted_world ps r blocked unwatched none =
    λ i. record (world_value ps r) { waits = sym unwatched.none i; waits_made = sym unwatched.none_made i; blocked = sym none i }

pub booted_sound : (lib : Library) (statements : List Statement) (ps : List Process) (r : Objects) (blocked : List ℕ) → IsBoot lib statements (world_value ps r)
    → IsUnwatched r → blocked ≡ [] → IsSound (world_blocked ps r blocked)
booted_sound lib statements ps r blocked boots unwatched none =
    subst IsSound (booted_world ps r blocked unwatched none) (boot_sound lib statements (world_value ps r) boots)

pub booted_boots : (lib : Library) (statements : List Statement) (ps : List Process) (r : Objects) (blocked : List ℕ) → IsBoot lib statements (world_value ps r)
    → IsUnwatched r → blocked ≡ [] → IsBoot lib statements (world_blocked ps r blocked)
booted_boots lib statements ps r blocked boots unwatched none = subst (IsBoot lib statements) (booted_world ps r blocked unwatched none) boots
