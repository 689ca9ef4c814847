use Rattle.zl_rights.proofs.Waking.{wakes-again}
use Rattle.zl_rights.proofs.laws.one_round_of_waking_suffices.Goals as goal

pub returns : goal.returns
returns c = wakes-again
