use Rattle.zl_code.proofs.SoundRuns.{boot_sound}
use Rattle.zl_code.proofs.laws.boot_worlds_have_sound_handles.Goals as goal

pub returns : goal.returns
returns c = λ lib statements w boot. (boot_sound lib statements w boot).handles
