use Rattle.zl_asm.proofs.Common.{arith}
use Rattle.zl_asm.proofs.PairedCode.{joined_length}
use Rattle.zl_asm.proofs.pairing.nested.Goals as goal

pub are_blocks-requires : goal.are_blocks-requires
are_blocks-requires c = rw (c.deref.ensures.value, c.in_ok-joined.ensures) (omega (arith, joined_length c.args.code.now, c.requires))
