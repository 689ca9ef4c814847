use Rattle.zl_code.proofs.SoundRuns.{step_keeps_koids}
use Rattle.zl_code.proofs.laws.koids_are_not_reused.Goals as goal

pub returns : goal.returns
returns c = step_keeps_koids
