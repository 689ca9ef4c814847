use Rattle.zl_verify.proofs.LocalSteps.{goes_on, not_stuck}
use Rattle.zl_verify.proofs.laws.local_step.Goals as goal

pub returns-clause-not_stuck : goal.returns-clause-not_stuck
returns-clause-not_stuck c = λ i t w p q range typing sound there k stuck. not_stuck i t w p q range typing sound there k stuck

pub returns-clause-goes_on : goal.returns-clause-goes_on
returns-clause-goes_on c = λ i t w p q range typing sound there k ready d next. goes_on i t w p q range typing sound there k ready d next
