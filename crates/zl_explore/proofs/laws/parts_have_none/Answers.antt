use Rattle.zl_explore.proofs.Whole.{parts_none}
use Rattle.zl_explore.proofs.laws.parts_have_none.Goals as goal

pub returns : goal.returns
returns c = λ m parts from told bad never endless are. parts_none m are.still parts from are.some told bad never endless are.known
