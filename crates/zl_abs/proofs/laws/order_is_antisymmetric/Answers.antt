use Rattle.zl_abs.proofs.Absorbing.{all_below_antisymmetric}
use Rattle.zl_abs.proofs.laws.order_is_antisymmetric.Goals as goal

pub returns : goal.returns
returns c = all_below_antisymmetric
