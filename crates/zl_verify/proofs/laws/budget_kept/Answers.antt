use Rattle.zl_verify.proofs.CheckedRuns.{budget_kept}
use Rattle.zl_verify.proofs.laws.budget_kept.Goals as goal

pub returns : goal.returns
returns c = λ i t steps range typing bound lib statements boot w after items more p begins run u rest.
    budget_kept lib i t range typing steps bound statements boot begins p items more w after run u rest
