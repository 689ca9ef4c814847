use Rattle.zl_calls.proofs.Common.{drop, field_of, fields_fault, last_fault, map, ◌≡◌}
use Rattle.zl_calls.proofs.policy.examine.Given as goal

abbrev pub invariant-loop-n : goal.invariant-loop-n
invariant-loop-n l =
    let in_list = last_fault l.table.entries l.cpu l.columns.ending l.call in
    fields_fault l.table.entries l.cpu (map field_of l.columns.fields.now) 0 l.call.registers in_list
    ≡ fields_fault l.table.entries l.cpu (map field_of (drop l.n l.columns.fields.now)) l.n l.call.registers in_list
