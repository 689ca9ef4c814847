use Rattle.zl_code.proofs.SoundRuns.{step_handles_named}
use Rattle.zl_code.proofs.laws.steps_keep_handles_named.Goals as goal

pub returns : goal.returns
returns c = step_handles_named
