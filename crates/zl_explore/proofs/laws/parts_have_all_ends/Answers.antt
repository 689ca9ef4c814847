use Rattle.zl_explore.proofs.Whole.{parts_all}
use Rattle.zl_explore.proofs.laws.parts_have_all_ends.Goals as goal

pub returns : goal.returns
returns c = λ m parts from told bad never endless ends are among. parts_all m are.still parts from are.some told bad never endless are.known ends among
