use Rattle.zl_code.proofs.AwakeMoves.{moves_awake}
use Rattle.zl_code.proofs.laws.local_steps_wake_nothing.Goals as goal

pub returns : goal.returns
returns c = moves_awake
