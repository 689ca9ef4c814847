use Rattle.zl_abs.proofs.Common.{arith, get_or_default_zero}
use Rattle.zl_abs.proofs.call_results.with_received.Goals as goal

pub returns : goal.returns
returns c =
    let first = get_or_default_zero c.args.instr.now.registers 6 c.index-instr-6.result (omega arith) in
    rw (c.written-results.ensures.value, first, c.number.ensures) at c.receive.ensures
