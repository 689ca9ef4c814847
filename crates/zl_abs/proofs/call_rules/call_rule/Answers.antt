use Rattle.zl_abs.proofs.Common.{Err, Row, ap, bounds_in, call_reading, names_registers, row_value, subst, sym, true, whole, ◌∙◌, ◌≡◌}
use Rattle.zl_abs.proofs.CallByRow.{array_stopped, stopped, ended}
use Rattle.zl_abs.proofs.call_rules.call_rule.Goals as goal

pub returns-in-Some : goal.returns-in-Some
returns-in-Some c =
    stopped (bounds_in c.args.bounds) c.args.image.now c.args.state.now c.args.instr (row_value c.row.result) c.row.ensures.row _
    (rw c.requires.same at (c.in-Some.ensures {u = tt}))

pub returns-in-Some-array_fault : goal.returns-in-Some-array_fault
returns-in-Some-array_fault c =
    ap Err c.alone.ensures
    ∙ array_stopped (bounds_in c.args.bounds) c.args.image.now c.args.state.now c.args.instr (row_value c.row.result) c.row.ensures.row
    _ (rw c.requires.same at (c.in_default.ensures {u = tt})) _ (c.in-Some-array_fault.ensures {u = tt})

pub finish_with-fault-requires-clause-room : goal.finish_with-fault-requires-clause-room
finish_with-fault-requires-clause-room c =
    subst (λ (r : Row). names_registers r.ending (call_reading c.args.instr) ≡ true) (sym c.row.ensures.row) (whole c.args.instr c.requires.in_range).named

pub returns : goal.returns
returns c =
    c.ended.ensures ∙ ended (bounds_in c.args.bounds) c.args.image.now c.args.state.now c.args.instr (row_value c.row.result) c.row.ensures.row
    _ (rw c.requires.same at (c.in_default.ensures {u = tt})) (c.in_default-array_fault.ensures {u = tt})
    c.values_of-values.result c.values_of-values.ensures _ c.finish_with-fault.ensures
