use Rattle.zl_scenario.proofs.Common.{ap, text_spelled}
use Rattle.zl_asm.proofs.ListingBytes.{image_bytes_of-Denotes}
use Rattle.zl_scenario.proofs.body.image_of_text.Goals as goal

pub returns-in-Ok-clause-answer : goal.returns-in-Ok-clause-answer
returns-in-Ok-clause-answer c = ap text_spelled (image_bytes_of-Denotes c.args.text.now c.in-Ok.image c.in-Ok.ensures.found)
