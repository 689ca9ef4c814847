use Rattle.zl_calls.proofs.Common.{None, [], ◌≡◌}
use Rattle.zl_calls.proofs.policy.Denying.{denied_there}
use Rattle.zl_calls.proofs.policy.Examining.{at_row}
use Rattle.zl_calls.proofs.policy.deny.Goals as goal

pub returns-in_err-columns-clause-nothing : goal.returns-in_err-columns-clause-nothing
returns-in_err-columns-clause-nothing c =
    rw c.from_residual.ensures (at_row [] c.args.call.now c.args.process.now.cpu (λ made f. made ≡ None)
    (rw (← c.row.ensures.row) (c.in_err-columns.was {u = tt})))

pub returns-clause-denied : goal.returns-clause-denied
returns-clause-denied c r =
    rw c.answered.ensures.ends (denied_there c.args.call.now c.args.process.now c.answered.new.self r c.in_ok-columns.field-0
    (rw (← c.row.ensures.row) (c.in_ok-columns.was {u = tt}))
    (rw (← c.row.ensures.row, ← c.written-destinations.ensures.registers) c.answered.ensures.process))
