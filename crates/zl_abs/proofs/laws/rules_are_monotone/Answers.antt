use Rattle.zl_abs.proofs.RuleLowering.{rule_below}
use Rattle.zl_abs.proofs.laws.rules_are_monotone.Goals as goal

pub returns : goal.returns
returns c = rule_below
