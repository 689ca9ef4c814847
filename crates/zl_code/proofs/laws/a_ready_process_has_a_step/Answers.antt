use Rattle.zl_code.proofs.Stepping.{step_there}
use Rattle.zl_code.proofs.laws.a_ready_process_has_a_step.Goals as goal

pub returns : goal.returns
returns c = λ lib w p process there ready. step_there lib w p process there ready
