use Rattle.zlab.proofs.Common.{arith}
use Rattle.zlab.proofs.ReplayFound.{has_items, long_trace, wrong_line}
use Rattle.zlab.proofs.replaying.read_items.Goals as goal

pub returns-then-front-gt-MOST_TRACE-clause-ok : goal.returns-then-front-gt-MOST_TRACE-clause-ok
returns-then-front-gt-MOST_TRACE-clause-ok c trace is = long_trace c.args.front.now trace is (omega (arith, c.if-front-gt-MOST_TRACE.true))

pub returns-in-Ok-clause-ok : goal.returns-in-Ok-clause-ok
returns-in-Ok-clause-ok c trace is =
    has_items c.args.front.now trace is (omega (arith, c.if-front-gt-MOST_TRACE.false)) c.in-Ok.items.items (c.in-Ok.ensures {u = tt}).ok

pub returns-in-Err-Syntax-clause-ok : goal.returns-in-Err-Syntax-clause-ok
returns-in-Err-Syntax-clause-ok c trace is =
    wrong_line c.args.front.now trace is (omega (arith, c.if-front-gt-MOST_TRACE.false)) c.in-Err-Syntax.line
    ((c.in-Err-Syntax.ensures {u = tt}).syntax c.in-Err-Syntax.line c.in-Err-Syntax.field-0-is)
