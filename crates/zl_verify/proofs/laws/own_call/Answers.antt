use Rattle.zl_code.specs.declared.history.Outcome.TheVariants as outcome
use Rattle.zl_verify.proofs.OwnCalls.{can_call, promised}
use Rattle.zl_verify.proofs.laws.own_call.Goals as goal

pub returns-clause-can_call : goal.returns-clause-can_call
returns-clause-can_call c = λ i t w p q range typing sound there k x is. can_call i t w p q range typing sound there k x is

pub returns-clause-no_fault : goal.returns-clause-no_fault
returns-clause-no_fault c = λ i t w p q called s k lib answer w2 h. (promised i t w p q called s k lib (outcome.Answered answer) w2 h).0

pub returns-clause-goes_on : goal.returns-clause-goes_on
returns-clause-goes_on c = λ i t w p q called s k lib answer w2 h. (promised i t w p q called s k lib (outcome.Answered answer) w2 h).1

pub returns-clause-waits : goal.returns-clause-waits
returns-clause-waits c = λ i t w p q called s k lib w2 h. promised i t w p q called s k lib outcome.Blocked w2 h

pub returns-clause-ends_itself : goal.returns-clause-ends_itself
returns-clause-ends_itself c = λ i t w p q called s k lib code w2 h. promised i t w p q called s k lib (outcome.Ended code) w2 h
