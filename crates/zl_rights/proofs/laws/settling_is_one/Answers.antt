use Rattle.zl_rights.proofs.Settling.{Settles-unique}
use Rattle.zl_rights.proofs.laws.settling_is_one.Goals as goal

pub returns : goal.returns
returns c = Settles-unique
