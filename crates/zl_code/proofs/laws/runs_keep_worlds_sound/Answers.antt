use Rattle.zl_code.proofs.SoundRuns.{run_sound}
use Rattle.zl_code.proofs.laws.runs_keep_worlds_sound.Goals as goal

pub returns : goal.returns
returns c = run_sound
