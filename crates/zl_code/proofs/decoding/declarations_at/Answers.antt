use Rattle.zl_code.proofs.Common.{ap, take, ◌∙◌}
use Rattle.zl_code.proofs.ImagePieces.{chunks_of_8}
use Rattle.zl_code.proofs.decoding.declarations_at.Goals as goal

pub returns : goal.returns
returns c = ap (take c.args.count) c.as_chunks.ensures.front ∙ chunks_of_8 c.args.bytes.now c.args.offset c.args.count c.requires
