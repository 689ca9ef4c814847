use Rattle.zl_code.proofs.OwnSteps.{own_is_step}
use Rattle.zl_code.proofs.own_laws.the_own_step_is_a_step.Goals as goal

pub returns : goal.returns
returns c = λ lib o after p x. own_is_step lib o p x after
