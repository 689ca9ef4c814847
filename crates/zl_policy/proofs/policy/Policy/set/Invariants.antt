use Rattle.std.proofs.Common.{◌≡◌, map, drop}
use Rattle.std.specs.List.{fold}
use Rattle.zl_rights.specs.Numbers.{condition_number}
use Rattle.zl_policy.specs.Policies.{policy_set, with_unset}
use Rattle.zl_policy.proofs.policy.Policy.set.Given as goal

-- what the conditions that are left make of the policy is what all of them make of it
abbrev pub invariant-loop-condition : goal.invariant-loop-condition
invariant-loop-condition l =
    policy_set l.fn.self l.fn.condition l.fn.action ≡ fold (with_unset l.action) l.self (map condition_number (drop l.condition-index l.condition-items))
