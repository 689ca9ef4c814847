use Rattle.zl_code.proofs.Common.{HandlesAreNamed}
use Rattle.zl_code.proofs.SoundRuns.{history_keeps}
use Rattle.zl_code.proofs.laws.histories_keep_handles_named.Goals as goal

pub returns : goal.returns
returns c = history_keeps HandlesAreNamed (λ w s. s.named)
