use Rattle.zl_explore.proofs.Whole.{parts_come}
use Rattle.zl_explore.proofs.laws.parts_come_to_ends.Goals as goal

pub returns : goal.returns
returns c = λ m parts from told bad never endless are none. parts_come m are.still parts from are.some told bad never endless are.known none
