use Rattle.zlab.proofs.Common.{nothing, on_err}
use Rattle.zlab.proofs.Answering.{both_ok, mapped_err, run_answers, run_begins, refusal_answers, refusal_begins}
use Rattle.zlab.proofs.engine.answer.Goals as goal

pub returns-in_err-system-clause-err : goal.returns-in_err-system-clause-err
returns-in_err-system-clause-err g c = on_err c.from_residual.result nothing

pub returns-in-Runs-clause-ok : goal.returns-in-Runs-clause-ok
returns-in-Runs-clause-ok g c =
    let start = rw c.in-Runs.is at (c.in_ok-system.ensures).ok in
    both_ok c.write_run-ended.result _ _ _
    (λ v is wrote. run_answers c.args.text.now c.in-Runs.system c.in-Runs.schedule.items start v _ _ is (rw c.as_slice.ensures.value at wrote))
    c.write_run-ended.ensures.verdict c.write_run-ended.ensures.ok

pub returns-in-Runs-clause-err : goal.returns-in-Runs-clause-err
returns-in-Runs-clause-err g c =
    let start = rw c.in-Runs.is at (c.in_ok-system.ensures).ok in
    mapped_err c.write_run-ended.result _ _
    (λ begun. run_begins c.args.text.now c.in-Runs.system c.in-Runs.schedule.items start _ _ (rw c.as_slice.ensures.value at begun))
    c.write_run-ended.ensures.err

pub returns-in-Refused-clause-ok : goal.returns-in-Refused-clause-ok
returns-in-Refused-clause-ok g c =
    let first = rw c.in-Refused.is at (c.in_ok-system.ensures).ok in
    both_ok c.write_refusal-ended.result _ _ _ (λ v is wrote. refusal_answers c.args.text.now c.in-Refused.fault first v _ _ is wrote)
    c.write_refusal-ended.ensures.verdict c.write_refusal-ended.ensures.ok

pub returns-in-Refused-clause-err : goal.returns-in-Refused-clause-err
returns-in-Refused-clause-err g c =
    let first = rw c.in-Refused.is at (c.in_ok-system.ensures).ok in
    mapped_err c.write_refusal-ended.result _ _ (λ begun. refusal_begins c.args.text.now c.in-Refused.fault first _ _ begun) c.write_refusal-ended.ensures.err

pub write_run-ended-requires : goal.write_run-ended-requires
write_run-ended-requires g c =
    let start = rw c.in-Runs.is at (c.in_ok-system.ensures).ok in
    start.out
