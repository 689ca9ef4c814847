use Rattle.zl_verify.proofs.Upgrading.{same_bound, same_typing}
use Rattle.zl_verify.proofs.laws.upgrade_keeps_typing.Goals as goal

pub returns-clause-typing : goal.returns-clause-typing
returns-clause-typing c = λ i t range one. same_typing i _ t

pub returns-clause-bound : goal.returns-clause-bound
returns-clause-bound c = λ i t steps range one. same_bound i _ t steps
