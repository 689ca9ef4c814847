use Rattle.zl_code.proofs.BootLaws.{one_boot_world}
use Rattle.zl_code.proofs.boot_laws.the_boot_world_is_one.Goals as goal

pub returns : goal.returns
returns c = one_boot_world
