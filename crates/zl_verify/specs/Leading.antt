-- Where the instructions of a typing lead, as the code keeps it. No public clause cites this module.
use Rattle.std.specs.Prelude.{ℕ, ◌≡◌, Bool, true, false, List, [], length, Option, Some, None, slice_get}
use Rattle.zl_code.specs.Image.{Image}
use Rattle.zl_abs.specs.declared.steps.Step.{Step}
use Rattle.zl_abs.specs.States.{State}
use Rattle.zl_verify.specs.Lists.{at}
use Rattle.zl_verify.specs.Nested.{places_at, IsPacked}
use Rattle.zl_verify.specs.declared.steps.Targets.{Targets}
use Rattle.zl_verify.specs.Steps.{leads}

-- where the edge leads, if it is followed
abbrev pub target_in : Option Step → Option ℕ
target_in None = None
target_in (Some e) = Some e.target

-- each of these is where the instruction leads in these states
pub record AreTargets (i : Image) (states : List (Option State)) (targets : List Targets) : Type 0 where
  pub long : length targets ≡ length states
  pub same : (n : ℕ) → places_at targets n ≡ leads i (at states) n
  pub packed : (n : ℕ) → IsPacked (slice_get targets n)

-- nowhere from a pause
abbrev pub unless_pause : Bool → List ℕ → List ℕ
unless_pause true ns = []
unless_pause false ns = ns

-- the state, if it is there
abbrev pub flow_in : Bool → State → Option State
flow_in false s = None
flow_in true s = Some s
