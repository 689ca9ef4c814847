use Rattle.zl_code.proofs.SoundRuns.{step_given}
use Rattle.zl_code.proofs.laws.steps_keep_given_koids.Goals as goal

pub returns : goal.returns
returns c = step_given
