use Rattle.zl_code.proofs.Common.{HandlesAreSound}
use Rattle.zl_code.proofs.SoundRuns.{history_keeps}
use Rattle.zl_code.proofs.laws.histories_keep_handles_sound.Goals as goal

pub returns : goal.returns
returns c = history_keeps HandlesAreSound (λ w s. s.handles)
