use Rattle.zl_abs.proofs.StateOrder.{all_below_trans}
use Rattle.zl_abs.proofs.laws.order_is_transitive.Goals as goal

pub returns : goal.returns
returns c = all_below_trans
