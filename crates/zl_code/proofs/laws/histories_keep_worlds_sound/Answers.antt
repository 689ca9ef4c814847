use Rattle.zl_code.proofs.Common.{IsSound}
use Rattle.zl_code.proofs.SoundRuns.{history_keeps}
use Rattle.zl_code.proofs.laws.histories_keep_worlds_sound.Goals as goal

pub returns : goal.returns
returns c = history_keeps IsSound (λ w s. s)
