use Rattle.zl_asm.proofs.ListingBytes.{image_bytes_of-Denotes}
use Rattle.zl_asm.proofs.laws.each_text_gives_the_bytes_of_its_image.Goals as goal

pub returns : goal.returns
returns c = image_bytes_of-Denotes
