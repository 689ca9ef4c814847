use Rattle.zl_code.proofs.BootLaws.{one_without_handles}
use Rattle.zl_code.proofs.boot_laws.the_boot_world_without_handles_is_one.Goals as goal

pub returns : goal.returns
returns c = one_without_handles
