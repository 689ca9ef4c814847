use Rattle.zl_code.proofs.SoundRuns.{runs_keep_processes}
use Rattle.zl_code.proofs.laws.runs_keep_processes.Goals as goal

pub returns : goal.returns
returns c = runs_keep_processes
