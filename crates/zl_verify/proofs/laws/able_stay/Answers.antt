use Rattle.zl_verify.proofs.LocalSteps.{able_goes, able_of, able_still}
use Rattle.zl_verify.proofs.laws.able_stay.Goals as goal

pub returns-clause-not_stuck : goal.returns-clause-not_stuck
returns-clause-not_stuck c = λ i d range a stuck. able_goes i d range a stuck

pub returns-clause-goes_on : goal.returns-clause-goes_on
returns-clause-goes_on c = λ i a b range able next. able_still i a b range able next

pub returns-clause-conforming : goal.returns-clause-conforming
returns-clause-conforming c = λ i t w p q range typing sound there k. able_of i t w p q range typing sound there k
