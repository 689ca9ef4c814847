-- A policy as it is kept: a place for the number of each condition.
use Rattle.std.specs.Prelude.{ℕ, ◌+◌, List, [], ◌∷◌, Option, Some, None}
use Rattle.zl_rights.specs.Map.{Map}
use Rattle.zl_rights.specs.declared.policy.Action.{Action}
pub use Rattle.zl_rights.specs.Policies.{action_in, answer_of, conditions_of, is_absolute, is_other}
unfoldable pub use Rattle.zl_rights.specs.Policies.{conflicts, policy_set, with_unset}

-- what is set in a row of places, of which the first has the number n
unfoldable pub actions_from : ℕ → List (Option Action) → Map Action
actions_from n [] = []
actions_from n (None ∷ places) = actions_from (n + 1) places
actions_from n (Some a ∷ places) = (n, a) ∷ actions_from (n + 1) places
