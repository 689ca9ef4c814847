use Rattle.zl_trace.proofs.KnownOutput.{on_err}
use Rattle.zl_trace.proofs.Pages.{begins_longer, lines_begun, lines_written, last_begun}
use Rattle.zl_trace.proofs.writing.write_items.Goals as goal

pub returns-in_err-write_all-clause-err : goal.returns-in_err-write_all-clause-err
returns-in_err-write_all-clause-err g c =
    on_err c.from_residual.result (begins_longer _ _ _ _ (rw c.as_bytes.ensures.value at (c.in_err-write_all.ensures).err))

pub returns-in_err-add_lines-clause-err : goal.returns-in_err-add_lines-clause-err
returns-in_err-add_lines-clause-err g c =
    on_err c.from_residual-in_err-add_lines.result
    (lines_begun _ _ _ _ _ _ (rw c.as_bytes.ensures.value at (c.in_ok-write_all.ensures).ok) c.new-page.ensures (c.in_err-add_lines.ensures).err)

pub returns-clause-ok : goal.returns-clause-ok
returns-clause-ok g c =
    lines_written c.write_out.result _ _ _ _ _ _ _ _ _ (rw c.as_bytes.ensures.value at (c.in_ok-write_all.ensures).ok) c.new-page.ensures
    (c.in_ok-add_lines.ensures).ok c.clear.ensures.bytes c.write_out.ensures.ok

pub returns-clause-err : goal.returns-clause-err
returns-clause-err g c =
    last_begun c.write_out.result _ _ _ _ _ _ _ _ (rw c.as_bytes.ensures.value at (c.in_ok-write_all.ensures).ok) c.new-page.ensures
    (c.in_ok-add_lines.ensures).ok c.write_out.ensures.err
