use Rattle.zl_code.proofs.BootLaws.{one_fault}
use Rattle.zl_code.proofs.boot_laws.the_first_fault_is_one.Goals as goal

pub returns : goal.returns
returns c = one_fault
