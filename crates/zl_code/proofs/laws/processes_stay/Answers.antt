use Rattle.zl_code.proofs.SoundRuns.{step_keeps_processes}
use Rattle.zl_code.proofs.laws.processes_stay.Goals as goal

pub returns : goal.returns
returns c = step_keeps_processes
