use Rattle.zl_code.proofs.BootLaws.{one_or_other}
use Rattle.zl_code.proofs.boot_laws.a_boot_world_or_a_first_fault.Goals as goal

pub returns : goal.returns
returns c = one_or_other
