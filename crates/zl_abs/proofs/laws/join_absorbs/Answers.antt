use Rattle.zl_abs.proofs.Absorbing.{all_absorb}
use Rattle.zl_abs.proofs.laws.join_absorbs.Goals as goal

pub returns : goal.returns
returns c = all_absorb
