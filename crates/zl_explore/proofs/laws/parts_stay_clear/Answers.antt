use Rattle.zl_explore.proofs.Whole.{parts_clear}
use Rattle.zl_explore.proofs.laws.parts_stay_clear.Goals as goal

pub returns : goal.returns
returns c = λ m parts from told bad never endless are. parts_clear m are.still parts from are.some told bad never endless are.known
