use Rattle.zl_abs.proofs.StateOrder.{all_below_refl}
use Rattle.zl_abs.proofs.laws.order_is_reflexive.Goals as goal

pub returns : goal.returns
returns c = all_below_refl
