use Rattle.zl_code.proofs.SoundRuns.{step_handles_sound}
use Rattle.zl_code.proofs.laws.steps_keep_handles_sound.Goals as goal

pub returns : goal.returns
returns c = step_handles_sound
