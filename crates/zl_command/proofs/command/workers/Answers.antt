use Rattle.zl_command.proofs.Common.{ExplainsUnsignedError, HasUnsignedDigitsIfOk, ParsesUnsigned, arith, codes, found_of}
use Rattle.zl_command.proofs.ValueRows.{reads_number, reads_some}
use Rattle.zl_command.proofs.command.workers.Goals as goal

pub unwrap-requires : goal.unwrap-requires
unwrap-requires c =
    reads_some _ (λ t r. ParsesUnsigned 32 10 t r × ExplainsUnsignedError 10 t r × HasUnsignedDigitsIfOk t r) 32 1 64 (λ t r gives. gives.0)
    (omega arith) (found_of c.args.matches.now) (codes "workers") c.get_one.result c.get_one.ensures.value c.requires

pub returns : goal.returns
returns c =
    let read = reads_number _ (λ t r. ParsesUnsigned 32 10 t r × ExplainsUnsignedError 10 t r × HasUnsignedDigitsIfOk t r) 32 1 64
    (λ t r gives. gives.0) (omega arith) (found_of c.args.matches.now) (codes "workers") c.get_one.result c.get_one.ensures.value c.requires
    c.unwrap.result c.unwrap.ensures in
    record { value = read.0; within = (read.1, read.2) }
