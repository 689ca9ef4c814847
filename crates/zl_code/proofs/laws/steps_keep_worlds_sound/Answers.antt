use Rattle.zl_code.proofs.SoundRuns.{step_sound}
use Rattle.zl_code.proofs.laws.steps_keep_worlds_sound.Goals as goal

pub returns : goal.returns
returns c = step_sound
