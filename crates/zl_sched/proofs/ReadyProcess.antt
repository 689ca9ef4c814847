-- A process that is told to be ready is ready, and no other.
use Rattle.zl_sched.proofs.Common.{Created, IsTrue, Machine, None, Option, Process, Ready, Some, State, false, get, is_process, is_ready, is_ready_in, refl}
use Rattle.zl_sched.proofs.Common.{seen_in, seen_of, state_in, state_passes, ℕ, ◌≡◌}
use Rattle.zl_code.specs.declared.history.ProcState.TheVariants as seen

ready_state : (s : State) → seen_in s ≡ seen.Ready → IsTrue (is_ready s)
ready_state Created e = absurd (cc)
ready_state Ready e = refl
ready_state _ e = absurd (cc)

ready_process : (p : Option Process) → seen_of p ≡ seen.Ready → IsTrue (state_passes is_ready p)
ready_process None e = absurd (cc)
ready_process (Some p) e = ready_state p.state e

pub ready_by : (m : Machine) (pid : ℕ) → state_in m pid ≡ seen.Ready → IsTrue (is_ready_in m pid)
unfolding is_process
ready_by m pid e = ready_process (get m.world.processes pid) e

busy_state : (s : State) → (seen_in s ≡ seen.Ready → ⊥) → is_ready s ≡ false
busy_state Created e = refl
busy_state Ready e = absurd (e refl)
busy_state _ e = refl

busy_process : (p : Option Process) → (seen_of p ≡ seen.Ready → ⊥) → state_passes is_ready p ≡ false
busy_process None e = refl
busy_process (Some p) e = busy_state p.state e

pub busy_by : (m : Machine) (pid : ℕ) → (state_in m pid ≡ seen.Ready → ⊥) → is_ready_in m pid ≡ false
unfolding is_process
busy_by m pid e = busy_process (get m.world.processes pid) e
