use Rattle.zl_asm.proofs.Common.{arith}
use Rattle.zl_code.proofs.Nested.{same_past}
use Rattle.zl_asm.proofs.pairing.put.Goals as goal

pub returns-else-n-len : goal.returns-else-n-len
returns-else-n-len c = same_past c.args.places.now.items c.args.n c.args.place (omega arith)
