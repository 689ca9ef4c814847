use Rattle.zl_asm.proofs.Common.{arith, false}
use Rattle.std.proofs.lemmas.Fmt.{hex_byte}
use Rattle.zl_asm.proofs.disassembling.push_hex.Goals as goal

pub returns : goal.returns
returns c = rw (c.laid_out.ensures, c.in_radix.ensures, hex_byte false c.args.byte (omega (arith, c.ranges.byte))) at c.write.ensures.bytes
