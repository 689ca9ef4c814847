use Rattle.zl_calls.proofs.tables.Tables.{empty_has_none}
use Rattle.zl_calls.proofs.calls.handle.take_out.Goals as goal

pub returns-then-len-eq0-clause-entry : goal.returns-then-len-eq0-clause-entry
returns-then-len-eq0-clause-entry c = (empty_has_none c.args.table.now c.args.value c.len.result c.len.ensures.count c.if-len-eq0.true).0

pub returns-then-len-eq0-clause-table : goal.returns-then-len-eq0-clause-table
returns-then-len-eq0-clause-table c = (empty_has_none c.args.table.now c.args.value c.len.result c.len.ensures.count c.if-len-eq0.true).1
