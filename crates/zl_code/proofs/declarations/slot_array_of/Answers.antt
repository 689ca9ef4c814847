use Rattle.zl_code.proofs.Common.{err_from_is_err_and, false, rules, true}
use Rattle.zl_code.proofs.ImageDeclared.{has_rights_allowed, has_rights_none, slot_bytes-read, slot_fault-by, slot_fault-length, slot_fault-rights}
use Rattle.zl_code.proofs.declarations.slot_array_of.Goals as goal

pub returns-in_err-kind-clause-fault : goal.returns-in_err-kind-clause-fault
returns-in_err-kind-clause-fault c =
    let p = err_from_is_err_and c.from_residual.result c.from_residual.ensures.1 in
    rw (p.1, p.2, c.in_err-kind.ensures.err.0) (slot_fault-rights c.args.bytes (has_rights_none c.args.bytes c.in_err-kind.ensures.err.1))

pub returns-in_err-length-clause-fault : goal.returns-in_err-length-clause-fault
returns-in_err-length-clause-fault c =
    let p = err_from_is_err_and c.from_residual-in_err-length.result c.from_residual-in_err-length.ensures.1 in
    rw (p.1, p.2, c.in_err-length.ensures.err.0) (slot_fault-length c.args.bytes c.in_err-length.ensures.err.1)

pub returns-in_err-rights-clause-fault : goal.returns-in_err-rights-clause-fault
returns-in_err-rights-clause-fault c =
    let p = err_from_is_err_and c.from_residual-in_err-rights.result c.from_residual-in_err-rights.ensures.1 in
    rw (p.1, p.2, c.in_err-rights.ensures.err.0) (slot_fault-rights c.args.bytes
    (has_rights_allowed c.args.bytes _ false c.in_ok-kind.ensures.ok c.in_err-rights.ensures.err.1))

pub returns-clause-bytes : goal.returns-clause-bytes
returns-clause-bytes c =
    slot_bytes-read c.args.bytes _ (search rules) (λ i. search rules) c.in_ok-kind.ensures.byte c.in_ok-length.ensures.ok c.in_ok-length.ensures.found
    c.in_ok-rights.ensures.value

pub returns-clause-fault : goal.returns-clause-fault
returns-clause-fault c =
    slot_fault-by c.args.bytes true true c.in_ok-length.ensures.ok
    (has_rights_allowed c.args.bytes _ true c.in_ok-kind.ensures.ok c.in_ok-rights.ensures.ok)
