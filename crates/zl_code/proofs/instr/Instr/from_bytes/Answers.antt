use Rattle.zl_code.proofs.Common.{ap, err_from_is_err_and, false, layout_of, rules, sym, true, ◌∙◌}
use Rattle.zl_code.proofs.ImageBytes.{IsBytes}
use Rattle.zl_code.proofs.ImageInstr.{IfSome-at, row_bytes-read, instr_fault-register, instr_fault-named, instr_fault-known}
use Rattle.zl_code.proofs.instr.Instr.from_bytes.Goals as goal

pub returns-in_err-fields-in-Some-clause-fault : goal.returns-in_err-fields-in-Some-clause-fault
returns-in_err-fields-in-Some-clause-fault c =
    let p = err_from_is_err_and c.from_residual.result c.from_residual.ensures.1 in
    rw (p.1, p.2, c.in_err-fields-in-Some.ensures.fault.0)
    (instr_fault-register c.args.version c.args.raw c.args.bytes _ (sym c.in-Some.ensures.layout) c.in_err-fields-in-Some.ensures.fault.1)

pub returns-in-Some-missing_register-clause-fault :
    goal.returns-in-Some-missing_register-clause-fault
returns-in-Some-missing_register-clause-fault c =
    let e = c.in_ok-fields-in-Some.ensures in
    rw c.at-in-Some-missing_register.ensures (instr_fault-named c.args.version c.args.raw c.args.bytes _ _ (sym c.in-Some.ensures.layout) e.in_range
    (record { registers = e.registers; imm = e.imm; target = e.target; places = e.places }) (sym c.in-Some-missing_register.ensures))

pub returns-in-Some-unused_field-clause-fault :
    goal.returns-in-Some-unused_field-clause-fault
returns-in-Some-unused_field-clause-fault c =
    let e = c.in_ok-fields-in-Some.ensures in
    rw c.at-in-Some-unused_field.ensures (instr_fault-known c.args.version c.args.raw c.args.bytes _ _ false (sym c.in-Some.ensures.layout) e.in_range
    (record { registers = e.registers; imm = e.imm; target = e.target; places = e.places }) (sym (c.in_default.ensures {u = tt}))
    (sym c.in-Some-unused_field.ensures))

pub returns-in_default-unused_field-clause-bytes :
    goal.returns-in_default-unused_field-clause-bytes
returns-in_default-unused_field-clause-bytes c =
    let fits : IsBytes c.args.bytes = λ i. search (rules, c.well_formed) in
    let e = c.in_ok-fields-in-Some.ensures in
    let known = IfSome-at _ _ _ (ap layout_of e.opcode ∙ c.in-Some.ensures.row) c.known.ensures.bytes in
    row_bytes-read c.args.bytes _ _ _ _ (search rules) fits e.opcode (record { registers = e.registers; imm = e.imm; target = e.target; places = e.places })
    (sym (c.in_default-unused_field.ensures {u = tt})) known

pub returns-in_default-unused_field-clause-fault :
    goal.returns-in_default-unused_field-clause-fault
returns-in_default-unused_field-clause-fault c =
    let e = c.in_ok-fields-in-Some.ensures in
    instr_fault-known c.args.version c.args.raw c.args.bytes _ _ true (sym c.in-Some.ensures.layout) e.in_range
    (record { registers = e.registers; imm = e.imm; target = e.target; places = e.places }) (sym (c.in_default.ensures {u = tt}))
    (sym (c.in_default-unused_field.ensures {u = tt}))
