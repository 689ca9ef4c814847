use Rattle.zl_code.proofs.Stepping.{step_with_memory}
use Rattle.zl_code.proofs.laws.a_ready_process_has_a_step_with_memory.Goals as goal

pub returns : goal.returns
returns c = λ lib w p process sound there ready. step_with_memory lib w p process there ready sound
