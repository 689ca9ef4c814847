use Rattle.zlab.proofs.Answering.{both_ok, is_bounded, mapped_err}
use Rattle.zlab.proofs.Common.{not_begun, on_err}
use Rattle.zlab.proofs.ThreadRuns.{run_answers, run_begins, refusal_answers, refusal_begins}
use Rattle.zlab.proofs.running.run_engine.Goals as goal

pub returns-in_err-input-clause-err : goal.returns-in_err-input-clause-err
returns-in_err-input-clause-err g c = on_err c.from_residual.result not_begun

pub returns-in_err-system-clause-err : goal.returns-in_err-system-clause-err
returns-in_err-system-clause-err g c = on_err c.from_residual-in_err-system.result not_begun

pub start-requires : goal.start-requires
start-requires g c = record { bounded = is_bounded _ _ c.in_ok-input.ensures.ok.holds; limit = c.requires.limit }

pub returns-in-Ready-clause-ok : goal.returns-in-Ready-clause-ok
returns-in-Ready-clause-ok g c =
    let input = c.in_ok-input.ensures.ok in
    let started = rw c.in-Ready.is at (c.in_ok-system.ensures.ok input.bytes input.holds) in
    both_ok c.write_threads.result _ _ _
    (λ v is wrote. run_answers _ input.bytes (record { those_told = input.those_told }) c.args.limit c.in-Ready.system started v _ _ is wrote)
    c.write_threads.ensures.verdict c.write_threads.ensures.ok

pub returns-in-Ready-clause-err : goal.returns-in-Ready-clause-err
returns-in-Ready-clause-err g c =
    let input = c.in_ok-input.ensures.ok in
    let started = rw c.in-Ready.is at (c.in_ok-system.ensures.ok input.bytes input.holds) in
    mapped_err c.write_threads.result _ _ (run_begins _ input.bytes (record { those_told = input.those_told }) c.args.limit c.in-Ready.system started _ _)
    c.write_threads.ensures.err

pub returns-clause-ok : goal.returns-clause-ok
returns-clause-ok g c =
    let input = c.in_ok-input.ensures.ok in
    let first = rw c.in-Refused.is at (c.in_ok-system.ensures.ok input.bytes input.holds) in
    both_ok c.write_refusal.result _ _ _
    (λ v is wrote. refusal_answers _ input.bytes (record { those_told = input.those_told }) c.args.limit c.in-Refused.fault first v _ _ is wrote)
    c.write_refusal.ensures.verdict c.write_refusal.ensures.ok

pub returns-clause-err : goal.returns-clause-err
returns-clause-err g c =
    let input = c.in_ok-input.ensures.ok in
    let first = rw c.in-Refused.is at (c.in_ok-system.ensures.ok input.bytes input.holds) in
    mapped_err c.write_refusal.result _ _ (refusal_begins _ input.bytes (record { those_told = input.those_told }) c.args.limit c.in-Refused.fault first _ _)
    c.write_refusal.ensures.err
