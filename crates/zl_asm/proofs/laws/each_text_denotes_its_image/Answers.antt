use Rattle.zl_asm.proofs.RoundWhole.{each_text_denotes}
use Rattle.zl_asm.proofs.laws.each_text_denotes_its_image.Goals as goal

pub returns : goal.returns
returns c = each_text_denotes
