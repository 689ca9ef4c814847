use Rattle.zl_asm.proofs.OneImage.{one_image}
use Rattle.zl_asm.proofs.laws.no_text_denotes_two_images.Goals as goal

pub returns : goal.returns
returns c = one_image
