use Rattle.zl_code.proofs.ImageWhole.{only_image}
use Rattle.zl_code.proofs.decoding.decode.Goals as goal

pub returns-clause-only : goal.returns-clause-only
returns-clause-only c = λ i spells. only_image c.args.bytes.now i _ spells c.image_of.ensures.found c.image_of.ensures.first
