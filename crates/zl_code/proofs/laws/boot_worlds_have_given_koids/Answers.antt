use Rattle.zl_code.proofs.SoundRuns.{boot_sound}
use Rattle.zl_code.proofs.laws.boot_worlds_have_given_koids.Goals as goal

pub returns : goal.returns
returns c = λ lib statements w boot. (boot_sound lib statements w boot).objects
