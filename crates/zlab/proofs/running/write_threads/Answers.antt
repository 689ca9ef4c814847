use Rattle.zlab.proofs.Common.{no_trace, on_err, sym, ◌∙◌}
use Rattle.zlab.proofs.ThreadRuns.{threads_written, threads_begun}
use Rattle.zlab.proofs.running.write_threads.Goals as goal

pub returns-in_err-block-clause-err : goal.returns-in_err-block-clause-err
returns-in_err-block-clause-err g c = on_err c.from_residual.result no_trace

pub returns-in_default-clause-err : goal.returns-in_default-clause-err
returns-in_default-clause-err g c = no_trace

pub returns-in_err-text-clause-err : goal.returns-in_err-text-clause-err
returns-in_err-text-clause-err g c =
    on_err c.from_residual-in_err-text.result
    (threads_begun c.args.system c.run_in_bursts-last.result.0 c.run_in_bursts-last.result.1 c.in-Some.end
    c.run_in_bursts-last.ensures.end c.run_in_bursts-last.ensures.safe
    (sym c.end_named.ensures ∙ c.in-Some.is) _ _ (rw c.in_ok-block.ensures at (c.in_err-text.ensures).err))

pub returns-clause-ok : goal.returns-clause-ok
returns-clause-ok g c =
    threads_written c.args.system c.run_in_bursts-last.result.0 c.run_in_bursts-last.result.1 c.in-Some.end
    c.run_in_bursts-last.ensures.end c.run_in_bursts-last.ensures.safe
    (sym c.end_named.ensures ∙ c.in-Some.is) _ _ (rw c.in_ok-block.ensures at (c.in_ok-text.ensures).ok)
