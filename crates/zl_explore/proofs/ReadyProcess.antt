-- A process is ready just where that is seen of it.
use Rattle.zl_code.proofs.Common.{Created, IsTrue, None, Option, Process, Ready, Some, State, false, get, is_process, is_ready, refl, state_passes, ℕ, ◌≡◌}
use Rattle.zl_rights.specs.World.{Blocked, Ended, Gone}
use Rattle.zl_code.specs.declared.history.ProcState.TheVariants as seen
use Rattle.zl_calls.specs.World.{Machine, is_ready_in, seen_in, seen_of, state_in}

ready_state : (s : State) → seen_in s ≡ seen.Ready → IsTrue (is_ready s)
ready_state Ready is = refl
ready_state Created is = absurd cc
ready_state (Blocked awaited ds) is = absurd cc
ready_state (Ended code) is = absurd cc
ready_state Gone is = absurd cc

ready_process : (p : Option Process) → seen_of p ≡ seen.Ready → IsTrue (state_passes is_ready p)
ready_process None is = absurd cc
ready_process (Some p) is = ready_state p.state is

pub ready_by : (m : Machine) (pid : ℕ) → state_in m pid ≡ seen.Ready → IsTrue (is_ready_in m pid)
unfolding is_process
ready_by m pid is = ready_process (get m.world.processes pid) is

busy_state : (s : State) → (seen_in s ≡ seen.Ready → ⊥) → is_ready s ≡ false
busy_state Ready isnt = absurd (isnt refl)
busy_state Created isnt = refl
busy_state _ isnt = refl

busy_process : (p : Option Process) → (seen_of p ≡ seen.Ready → ⊥) → state_passes is_ready p ≡ false
busy_process None isnt = refl
busy_process (Some p) isnt = busy_state p.state isnt

pub busy_by : (m : Machine) (pid : ℕ) → (state_in m pid ≡ seen.Ready → ⊥) → is_ready_in m pid ≡ false
unfolding is_process
busy_by m pid isnt = busy_process (get m.world.processes pid) isnt
