use Rattle.zl_verify.proofs.OwnCalls.{operands_pass, policy_passes}
use Rattle.zl_verify.proofs.laws.operands_pass.Goals as goal

pub returns-clause-operands : goal.returns-clause-operands
returns-clause-operands c = λ i t w p q called s k. operands_pass i t w p q called s k

pub returns-clause-policy : goal.returns-clause-policy
returns-clause-policy c = λ i t w p q called s k. policy_passes i t w p q called s k
