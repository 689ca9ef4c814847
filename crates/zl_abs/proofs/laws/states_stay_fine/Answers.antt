use Rattle.zl_abs.proofs.FineStates.{start_fine, fine_joined}
use Rattle.zl_abs.proofs.FineRules.{rule_fine}
use Rattle.zl_abs.proofs.laws.states_stay_fine.Goals as goal

pub returns-clause-start : goal.returns-clause-start
returns-clause-start c = start_fine

pub returns-clause-join : goal.returns-clause-join
returns-clause-join c = fine_joined

pub returns-clause-rule : goal.returns-clause-rule
returns-clause-rule c = rule_fine
