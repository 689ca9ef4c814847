use Rattle.zl_code.proofs.JoinedItems.{joined_go_well}
use Rattle.zl_code.proofs.laws.joined_items_tell_the_same.Goals as goal

pub returns : goal.returns
returns c = joined_go_well
