-- What becomes of processes that were never started, where their objects have gone. No public clause cites this module.
use Rattle.std.specs.Prelude.{ℕ, ◌≡◌, Bool, false, List, Option, Some, None, slice_get, if◌then◌else◌}
use Rattle.zl_code.specs.Starting.{is_created}
use Rattle.zl_calls.specs.World.{state_value}
use Rattle.zl_rights.specs.Map.{Map, has_key}
use Rattle.zl_objects.specs.Below.{is_one_of}
use Rattle.zl_objects.specs.declared.object.Object.{Object}
use Rattle.zl_calls.specs.declared.process.Process.{Process}
use Rattle.zl_calls.specs.declared.process.State.{State}
use Rattle.zl_calls.specs.declared.process.State.TheVariants as state

-- a process that was never started is gone, where its object isn't there
abbrev pub left_state : Bool → State → State
left_state there state.Created = if there then state.Created else state.Gone
left_state there s = s

-- the process, where these objects are there
abbrev pub left_beside : Map Object → Process → Process
left_beside objects p = record p { state = left_state (has_key objects p.pid) p.state }

-- the process was started, or is gone
abbrev pub HasBegun : Process → Type 0
HasBegun p = is_created (state_value p.state) ≡ false

-- so it is of each process but perhaps those at these places
abbrev pub HaveBegunBut : List ℕ → List Process → Type 0
HaveBegunBut places ps = (n : ℕ) (p : Process) → slice_get ps n ≡ Some p → is_one_of n places ≡ false → HasBegun p

-- the process that was looked up is unstarted
abbrev pub is_unstarted : Option Process → Bool
is_unstarted None = false
is_unstarted (Some p) = is_created (state_value p.state)
