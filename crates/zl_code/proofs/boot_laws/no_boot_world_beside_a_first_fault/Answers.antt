use Rattle.zl_code.proofs.BootLaws.{excluded}
use Rattle.zl_code.proofs.boot_laws.no_boot_world_beside_a_first_fault.Goals as goal

pub returns : goal.returns
returns c = excluded
