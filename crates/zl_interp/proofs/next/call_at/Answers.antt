use Rattle.zl_interp.proofs.Common.{program_value, sym, ◌∙◌}
use Rattle.zl_interp.proofs.Standing.{call_stands, call_missing, no_call}
use Rattle.zl_interp.proofs.next.call_at.Goals as goal

pub returns-in_err-call-clause-missing : goal.returns-in_err-call-clause-missing
returns-in_err-call-clause-missing c =
    rw c.from_residual.ensures
    (no_call (program_value c.args.program.now).image c.args.cpu.now (sym (rw (c.image.ensures, c.counter.ensures) at c.in_err-call.ensures.value)))

pub returns-then-has_its_memory-clause-found : goal.returns-then-has_its_memory-clause-found
returns-then-has_its_memory-clause-found c =
    call_stands (program_value c.args.program.now).image c.args.cpu.now c.in_ok-call.call
    (sym (rw (c.image.ensures, c.counter.ensures) at c.in_ok-call.ensures.value)) (sym c.has_its_memory.ensures ∙ c.if-has_its_memory.true)

pub returns-else-has_its_memory-clause-missing : goal.returns-else-has_its_memory-clause-missing
returns-else-has_its_memory-clause-missing c =
    call_missing (program_value c.args.program.now).image c.args.cpu.now c.in_ok-call.call
    (sym (rw (c.image.ensures, c.counter.ensures) at c.in_ok-call.ensures.value)) (sym c.has_its_memory.ensures ∙ c.if-has_its_memory.false)
