use Rattle.zlab.proofs.Common.{no_line, on_err}
use Rattle.zlab.proofs.RunOutput.{run_written, run_begun}
use Rattle.zlab.proofs.engine.write_run.Goals as goal

pub returns-in_err-block-clause-err : goal.returns-in_err-block-clause-err
returns-in_err-block-clause-err g c = on_err c.from_residual.result no_line

pub returns-in_err-text-clause-err : goal.returns-in_err-text-clause-err
returns-in_err-text-clause-err g c =
    on_err c.from_residual-in_err-text.result
    (run_begun c.args.system.now c.step_all-end.new.self c.args.schedule.now c.step_all-end.result (c.step_all-end.ensures c.requires) _ _
    (rw c.in_ok-block.ensures at (c.in_err-text.ensures).err))

pub returns-clause-ok : goal.returns-clause-ok
returns-clause-ok g c =
    run_written c.args.system.now c.step_all-end.new.self c.args.schedule.now c.step_all-end.result (c.step_all-end.ensures c.requires) _ _
    (rw c.in_ok-block.ensures at (c.in_ok-text.ensures).ok)
