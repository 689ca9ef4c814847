use Rattle.zl_abs.proofs.StateOrder.{all_joined_left, all_joined_right, all_joined_least}
use Rattle.zl_abs.proofs.laws.join_is_least.Goals as goal

pub returns-clause-left : goal.returns-clause-left
returns-clause-left c = all_joined_left

pub returns-clause-right : goal.returns-clause-right
returns-clause-right c = all_joined_right

pub returns-clause-least : goal.returns-clause-least
returns-clause-least c = all_joined_least
