use Rattle.zl_code.proofs.SoundRuns.{runs_keep_koids}
use Rattle.zl_code.proofs.laws.runs_reuse_no_koid.Goals as goal

pub returns : goal.returns
returns c = runs_keep_koids
