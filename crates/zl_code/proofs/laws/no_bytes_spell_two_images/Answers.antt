use Rattle.zl_code.proofs.ImageWhole.{spells_one}
use Rattle.zl_code.proofs.laws.no_bytes_spell_two_images.Goals as goal

pub returns : goal.returns
returns c = spells_one
