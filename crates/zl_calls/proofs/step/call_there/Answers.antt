use Rattle.zl_calls.proofs.Common.{process_value, program_value, sym}
use Rattle.zl_calls.proofs.step.Places.{calls_next, no_call_next}
use Rattle.zl_calls.proofs.step.call_there.Goals as goal

pub returns-clause-found : goal.returns-clause-found
returns-clause-found c =
    calls_next c.args.library.now (process_value c.args.process.now) (program_value c.in_ok-program.program.now) c.in_ok-program.ensures.found
    c.in_ok-call.call (sym (rw (c.image.ensures, c.counter.ensures) at c.in_ok-call.ensures.value))

pub returns-in_err-call-clause-missing : goal.returns-in_err-call-clause-missing
returns-in_err-call-clause-missing c =
    rw c.from_residual-in_err-call.ensures
    (no_call_next c.args.library.now (process_value c.args.process.now) (program_value c.in_ok-program.program.now) c.in_ok-program.ensures.found
    (sym (rw (c.image.ensures, c.counter.ensures) at c.in_err-call.ensures.value)))
