use Rattle.zlab.proofs.Common.{arith}
use Rattle.zlab.proofs.KnownInput.{too_long, all_read}
use Rattle.zlab.proofs.input.read_input.Goals as goal

pub returns-then-len-le-MOST_INPUT-clause-ok : goal.returns-then-len-le-MOST_INPUT-clause-ok
returns-then-len-le-MOST_INPUT-clause-ok g c =
    let front = c.in_ok-text.ensures.ok in
    let is = all_read _ _ front (omega arith) in
    record { bytes = front.bytes; those_told = front.those_told; holds = (is, rw (← is) (omega arith)) }

pub returns-else-len-le-MOST_INPUT-clause-ok : goal.returns-else-len-le-MOST_INPUT-clause-ok
returns-else-len-le-MOST_INPUT-clause-ok g c = too_long _ _ c.in_ok-text.ensures.ok (omega arith)
