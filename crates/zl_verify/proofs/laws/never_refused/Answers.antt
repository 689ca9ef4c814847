use Rattle.zl_verify.proofs.CheckedRuns.{never_refused, stays_so}
use Rattle.zl_verify.proofs.laws.never_refused.Goals as goal

pub returns-clause-fine : goal.returns-clause-fine
returns-clause-fine c = λ i t range typing lib statements boot w after items more p begins run u rest.
    never_refused lib i t range typing statements boot begins p items more w after run u rest

pub returns-clause-stays : goal.returns-clause-stays
returns-clause-stays c = λ i t range typing lib statements boot w after items more p begins run u rest.
    stays_so lib i t range typing statements boot begins p items more w after run u rest
