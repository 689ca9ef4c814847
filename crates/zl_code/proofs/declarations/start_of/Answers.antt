use Rattle.zl_code.proofs.Common.{err_from_is_err_and, false, rules, sym, true}
use Rattle.zl_code.proofs.ImageDeclared.{has_rights_allowed, has_rights_none, start_bytes-read, start_fault-by, start_fault-rights, start_fault-zero}
use Rattle.zl_code.proofs.declarations.start_of.Goals as goal

pub returns-in_err-kind-clause-fault : goal.returns-in_err-kind-clause-fault
returns-in_err-kind-clause-fault c =
    let p = err_from_is_err_and c.from_residual.result c.from_residual.ensures.1 in
    rw (p.1, p.2, c.in_err-kind.ensures.err.0) (start_fault-rights c.args.bytes (has_rights_none c.args.bytes c.in_err-kind.ensures.err.1))

pub returns-then-not-is_all_zero-clause-fault : goal.returns-then-not-is_all_zero-clause-fault
returns-then-not-is_all_zero-clause-fault c = rw c.at.ensures (start_fault-zero c.args.bytes (sym c.if-not-is_all_zero.ensures))

pub returns-in_err-rights-clause-fault : goal.returns-in_err-rights-clause-fault
returns-in_err-rights-clause-fault c =
    let p = err_from_is_err_and c.from_residual-in_err-rights.result c.from_residual-in_err-rights.ensures.1 in
    rw (p.1, p.2, c.in_err-rights.ensures.err.0) (start_fault-rights c.args.bytes
    (has_rights_allowed c.args.bytes _ false c.in_ok-kind.ensures.ok c.in_err-rights.ensures.err.1))

pub returns-clause-bytes : goal.returns-clause-bytes
returns-clause-bytes c =
    start_bytes-read c.args.bytes _ (search rules) (λ i. search rules) c.in_ok-kind.ensures.byte (sym c.if-not-is_all_zero.ensures)
    c.in_ok-rights.ensures.value

pub returns-clause-fault : goal.returns-clause-fault
returns-clause-fault c =
    start_fault-by c.args.bytes true true (sym c.if-not-is_all_zero.ensures)
    (has_rights_allowed c.args.bytes _ true c.in_ok-kind.ensures.ok c.in_ok-rights.ensures.ok)
