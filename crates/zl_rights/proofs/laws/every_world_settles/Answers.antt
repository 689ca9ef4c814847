use Rattle.zl_rights.proofs.Settling.{Settles-exists}
use Rattle.zl_rights.specs.Settled.{settled}
use Rattle.zl_rights.proofs.laws.every_world_settles.Goals as goal

pub returns-clause-settles : goal.returns-clause-settles
returns-clause-settles c = λ w. (settled w, Settles-exists w)

pub returns-clause-computed : goal.returns-clause-computed
returns-clause-computed c = Settles-exists
