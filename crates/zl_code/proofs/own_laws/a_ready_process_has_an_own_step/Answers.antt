use Rattle.zl_code.proofs.OwnSteps.{own_step_there}
use Rattle.zl_code.proofs.own_laws.a_ready_process_has_an_own_step.Goals as goal

pub returns : goal.returns
returns c = own_step_there
