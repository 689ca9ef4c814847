use Rattle.zl_code.proofs.Common.{length}
use Rattle.zl_code.proofs.fields.+unused_register.Given as goal

abbrev pub decreases-unused_register : goal.decreases-unused_register
decreases-unused_register l = length l.registers.now
