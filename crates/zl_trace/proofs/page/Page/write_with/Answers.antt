use Rattle.zl_trace.proofs.KnownOutput.{on_err}
use Rattle.zl_trace.proofs.Pages.{begins_longer}
use Rattle.zl_trace.proofs.page.Page.write_with.Goals as goal

pub returns-in_err-write_out-clause-err : goal.returns-in_err-write_out-clause-err
returns-in_err-write_out-clause-err g c = on_err c.from_residual.result (begins_longer _ _ _ _ (c.in_err-write_out.ensures).err)
