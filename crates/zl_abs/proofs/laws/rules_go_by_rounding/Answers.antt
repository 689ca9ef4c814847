use Rattle.zl_abs.proofs.RoundingAlike.{same_rule}
use Rattle.zl_abs.proofs.laws.rules_go_by_rounding.Goals as goal

pub returns : goal.returns
returns c = same_rule
