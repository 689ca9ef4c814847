use Rattle.zl_code.proofs.BootLaws.{same_fault_after}
use Rattle.zl_code.proofs.boot_laws.faults_depend_on_no_choice.Goals as goal

pub returns : goal.returns
returns c = same_fault_after
