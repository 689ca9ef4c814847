-- The policy of a job: a finite map from the numbers of conditions to actions.
use Rattle.std.specs.Prelude.{ℕ, Bool, true, false, not, ◌==◌, List, [], ◌∷◌, map, fold, Option, Some, None, unwrap_or, Result, Ok, Err, if◌then◌else◌, ◌&&◌}
use Rattle.std.specs.List.{find, list_any}
use Rattle.zl_rights.specs.Map.{Map, get, put, has_key}
use Rattle.zl_rights.specs.Numbers.{condition_number, action_number, all_conditions, all_makings, mode_number}
use Rattle.zl_rights.specs.declared.policy.Condition.{Condition}
use Rattle.zl_rights.specs.declared.policy.Condition.TheVariants as condition
use Rattle.zl_rights.specs.declared.policy.Action.{Action}
use Rattle.zl_rights.specs.declared.policy.Action.TheVariants as action
use Rattle.zl_rights.specs.declared.policy.Mode.{Mode}
use Rattle.zl_rights.specs.declared.policy.Mode.TheVariants as mode
use Rattle.zl_rights.specs.declared.status.Status.{Status}
use Rattle.zl_rights.specs.declared.status.Status.TheVariants as status

-- the action for a condition; unset allows
abbrev pub action_in : Map Action → Condition → Action
action_in policy c = unwrap_or (get policy (condition_number c)) action.Allow

-- the numbers of the conditions that one stands for
abbrev pub conditions_of : Condition → List ℕ
conditions_of condition.NewAny = map condition_number all_makings
conditions_of c = condition_number c ∷ []

-- it is set, to another action
abbrev pub is_other : Action → Option Action → Bool
is_other a None = false
is_other a (Some b) = not (action_number b == action_number a)

-- a condition that this one stands for is set to another action
unfoldable pub conflicts : Map Action → Condition → Action → Bool
conflicts policy c a = list_any (λ n. is_other a (get policy n)) (conditions_of c)

-- the policy with the action for the condition n, unless one is set
unfoldable pub with_unset : Action → Map Action → ℕ → Map Action
with_unset a policy n = if has_key policy n then policy else put policy n a

-- the policy with the action for each condition that this one stands for, unless one is set
unfoldable pub policy_set : Map Action → Condition → Action → Map Action
policy_set policy c a = fold (with_unset a) policy (conditions_of c)

-- conflicts are refused in this mode
abbrev pub is_absolute : Mode → Bool
is_absolute mode.Absolute = true
is_absolute mode.Relative = false

-- what setting a policy is answered
abbrev pub answer_of : Map Action → Condition → Action → Mode → Result Unit Status
answer_of policy c a m = if is_absolute m && conflicts policy c a then Err status.AlreadyExists else Ok tt

-- ---- what a call sets, by its numbers

-- an action that is to be set for a condition, in a mode
pub record Setting : Type 0 where
  pub mode : Mode
  pub condition : Condition
  pub action : Action

-- the condition with this number, if one has it
abbrev pub condition_numbered : ℕ → Option Condition
condition_numbered n = find (λ c. condition_number c == n) all_conditions

-- the action with this number, if one has it
abbrev pub action_numbered : ℕ → Option Action
action_numbered n = find (λ a. action_number a == n) (action.Allow ∷ action.Deny ∷ action.Kill ∷ [])

-- the mode with this number, if one has it
abbrev pub mode_numbered : ℕ → Option Mode
mode_numbered n = find (λ m. mode_number m == n) (mode.Relative ∷ mode.Absolute ∷ [])

-- the three of them, if each is known
abbrev pub setting_if : Option Mode → Option Condition → Option Action → Option Setting
setting_if (Some m) (Some c) (Some a) = Some (record { mode = m; condition = c; action = a })
setting_if m c a = None

-- what a call with these three numbers sets, where each of them is known
unfoldable pub setting_of : (mode condition action : ℕ) → Option Setting
setting_of m c a = setting_if (mode_numbered m) (condition_numbered c) (action_numbered a)
