use Rattle.std.proofs.Common.{sym, ap}
use Rattle.std.specs.List.{fold}
use Rattle.zl_policy.specs.Policies.{policy_set, with_unset}
use Rattle.zl_policy.proofs.policy.Policy.set.Goals as goal

pub loop-condition-init : goal.loop-condition-init
unfolding policy_set
loop-condition-init c = ap (λ ns. fold (with_unset c.args.action) c.args.self.now ns) (sym c.stands_for-condition-items.ensures)
