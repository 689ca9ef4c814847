use Rattle.zl_code.proofs.SoundRuns.{boot_sound}
use Rattle.zl_code.proofs.laws.boot_worlds_are_sound.Goals as goal

pub returns : goal.returns
returns c = boot_sound
