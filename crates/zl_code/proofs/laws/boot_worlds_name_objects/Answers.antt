use Rattle.zl_code.proofs.SoundRuns.{boot_sound}
use Rattle.zl_code.proofs.laws.boot_worlds_name_objects.Goals as goal

pub returns : goal.returns
returns c = λ lib statements w boot. (boot_sound lib statements w boot).named
